-- A copy that is built from the bytes of the shortest list, over the C calls, answers every address with the hop that the table
-- gives it. Assumes nothing.
--
--     words, a table ── toggleash_shortest ──▶ bytes ── toggleash_copy_need ──▶ how many words to lend
--                                                └───── toggleash_copy_build ─▶ copy, its words on the card
use Rattle.std.specs.Prelude.{◌≡◌, refl, List, ℕ, ◌^◌, ◌≤◌, ◌<◌, length, get_or}
use Rattle.std.proofs.Common.{ap, ◌∙◌, arith, le-ltb}
use Rattle.routes.specs.Route.{Route}
use Rattle.routes.specs.Match.{Match, none, found}
use Rattle.routes.specs.Seen.{gives}
use Rattle.candidates.specs.Candidate.{Candidate}
use Rattle.candidates.specs.Winners.{winners}
use Rattle.shortest.specs.Shortest.{hop_of, forwards}
use Rattle.shortest.specs.Seen.{shortest4}
use Rattle.listing.specs.Listed.{listed, listed_in}
use Rattle.listing.proofs.Written.{written-plain}
use Rattle.lengths.specs.Marks.{markers, words_for}
use Rattle.lengths.specs.Layout as layout
use Rattle.lengths.specs.Laid.{Laid, laid_front}
use Rattle.lengths_build.specs.Answer.{need_on}
use Rattle.lengths_build.specs.Build.{Leaves}
use Rattle.answers.specs.Numbers.{needed, matched}
use Rattle.toggleash.specs.Copies.{HasBuilt}
use Rattle.answers.specs.declared.Needed.{Needed}
use Rattle.toggleash.specs.declared.copies.Built.{Built}
use Rattle.answers.specs.declared.Matched.{Matched}
use Rattle.replayed.specs.Shortened.{Shortened, bytes, is_shortest, shortened_bytes}

-- the calls, each as its contract allows
pub record Carried {A : ℕ} {cs : List Candidate} (s : Shortened A cs) : Type 0 where
  -- as many words as the bytes need, or more
  pub need : Needed
  pub needs : need ≡ needed (need_on (listed_in (bytes s)))
  pub lent : List ℕ
  pub enough : need.words ≤ length lent
  -- a copy built in them
  pub copy : List ℕ
  pub built : Built
  pub builds : HasBuilt (bytes s) lent copy built
  -- words on the card: up to the need those of the copy, past it any
  pub card : List ℕ
  pub long : need.words ≤ length card
  pub sent : (i : ℕ) → i < need.words → get_or card i 0 ≡ get_or copy i 0

-- nothing is refused, the routes are those of the shortest list, and the card gives each address the hop that the table gives
pub record AsForwarded {A : ℕ} {cs : List Candidate} {s : Shortened A cs} (k : Carried s) : Type 0 where
  pub needs : k.need.refusal ≡ 0
  pub builds : k.built.refusal ≡ 0
  pub routes : k.built.routes ≡ length (shortest4 (winners cs))
  pub hops : (a : ℕ) → a < 2 ^ 32 → (g : Matched) → g ≡ matched (layout.walk k.card a)
      → g.hop ≡ forwards 32 (winners cs) a

pub matched_hop : (m : Match) → (matched (gives m)).hop ≡ hop_of m
matched_hop none = refl
matched_hop (found h l) = refl

module _ {A : ℕ} {cs : List Candidate} {s : Shortened A cs} (k : Carried s) where
  abbrev pub rs : List Route
  rs = shortest4 (winners cs)

  is_listed : listed_in (bytes s) ≡ listed rs
  is_listed = ap listed_in (shortened_bytes s) ∙ written-plain rs (is_shortest s).list

  pub is_needed : k.need ≡ record { refusal = 0; words = words_for rs }
  is_needed = k.needs ∙ rw is_listed

  count : k.need.words ≡ words_for rs
  count = ap (λ (x : Needed). x.words) is_needed

  room : words_for rs ≤ length k.lent
  room = rw (← count) k.enough

  pub is_built : k.built ≡ record { refusal = 0; routes = length rs; markers = markers rs }
  is_built = k.builds.answer ∙ rw (is_listed, le-ltb (length k.lent) (words_for rs) room)

  pub is_laid : Laid rs k.card
  is_laid =
      let l : Leaves rs k.lent k.copy = rw is_listed at k.builds.left in
      laid_front rs k.copy k.card (rw (← count) k.long) (λ i x. k.sent i (omega (arith, count))) (l.laid room)
