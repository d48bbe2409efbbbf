-- What the contracts leave open: nothing of an answer, and of the words only how a list is laid out. Two outcomes that a contract
-- allows agree, and words that agree with those built up to the need answer as the list does. Assumes nothing.
use Rattle.std.specs.Prelude.{◌≡◌, refl, ◌⊎◌, List, ℕ, zero, suc, ◌+◌, ◌-◌, ◌*◌, ◌/◌, ◌%◌, ◌≤◌, ◌<◌, length, get_or}
use Rattle.std.proofs.Common.{sym, ◌∙◌, inl, inr, ⊎_elim, arith}
use Rattle.routes.specs.Route.{Route, IsList}
use Rattle.routes.specs.Match.{Match, longest}
use Rattle.routes.specs.Room.{distinct}
use Rattle.routes.specs.Seen.{Answer, gives}
use Rattle.logic.specs.Cases.{same, less}
use Rattle.laws.specs.Longest.{wfs}
use Rattle.lengths.specs.Marks.{entries, words_for}
use Rattle.lengths.specs.Entries.{entries_to}
use Rattle.lengths.proofs.Entries.{entries_all}
use Rattle.listing.specs.Listed.{listed, listed_in}
use Rattle.lengths_build.specs.Answer.{need_on, build_on, Counts}
use Rattle.listing.specs.Records.{Bytes}
use Rattle.listing.proofs.Written.{listed_out}
use Rattle.lengths.specs.Layout.{header_words, walk}
use Rattle.lengths.specs.Laid.{laid_front}
use Rattle.lengths.proofs.Laid.{laid_walk}
use Rattle.lengths_build.specs.Filling.{size_for}
use Rattle.lengths_build.specs.Build.{Header, table_end, Leaves, LeavesOn}

-- ---- answers

-- need: one answer
pub need_sharp : (bs : List ℕ) (x y : Answer ℕ) → x ≡ need_on (listed_in bs) → y ≡ need_on (listed_in bs) → x ≡ y
need_sharp bs x y p q = p ∙ sym q

-- build: one answer
pub build_sharp : (bs ws : List ℕ) (x y : Answer Counts) → x ≡ build_on (listed_in bs) (length ws)
    → y ≡ build_on (listed_in bs) (length ws) → x ≡ y
build_sharp bs ws x y p q = p ∙ sym q

-- lookup: one answer, on any words
pub lookup_sharp : (ws : List ℕ) (a : ℕ) (x y : Answer Match) → x ≡ walk ws a → y ≡ walk ws a → x ≡ y
lookup_sharp ws a x y p q = p ∙ sym q

-- ---- where tables end

pub end_step : (m : ℕ) (rs : List Route) → 1 ≤ m
    → table_end m rs ≡ header_words + 8 * (entries_to (m - 1) rs + size_for (distinct (entries m rs)))
unfolding table_end
end_step zero rs h = absurd (omega arith)
end_step (suc m) rs h = let e : suc m - 1 ≡ m = omega arith in rw e

-- by the words of the entries so far
pub end_fits : (m : ℕ) (rs : List Route) → table_end m rs ≤ header_words + 8 * entries_to m rs
unfolding table_end entries_to
end_fits zero rs = omega arith
end_fits (suc m) rs = omega arith

pub upto_le : (m d : ℕ) (rs : List Route) → entries_to m rs ≤ entries_to (m + d) rs
unfolding entries_to
upto_le m zero rs = let e : m + 0 ≡ m = omega arith in rw e (omega arith)
upto_le m (suc d) rs = let e : m + suc d ≡ suc (m + d) = omega arith in rw e (omega (arith, upto_le m d rs))

-- those up to m fit the words needed
pub upto-fits : (m : ℕ) (rs : List Route) → m ≤ 32 → IsList 32 rs → header_words + 8 * entries_to m rs ≤ words_for rs
upto-fits m rs h l =
    let e : m + (32 - m) ≡ 32 = omega arith in
    let a : entries_to m rs ≤ entries_to 32 rs = rw e at (upto_le m (32 - m) rs) in
    omega (arith, entries_all rs l.sorted (wfs 32 rs l.routes))

-- so the last table ends by the words that the list needs
pub used-needed : (rs : List Route) → IsList 32 rs → table_end 32 rs ≤ words_for rs
used-needed rs l = omega (arith, end_fits 32 rs, upto-fits 32 rs (omega arith) l)

-- ---- words

-- one header: two words for each length, the default's, and those that stay
module _ (rs : List Route) (ws us vs : List ℕ) (p : Header rs ws us 33) (q : Header rs ws vs 33) where
  header_pair : (l : ℕ) → 1 ≤ l → l < 33 → (i : ℕ) → (i ≡ 2 * l) ⊎ (i ≡ 2 * l + 1) → get_or us i 0 ≡ get_or vs i 0
  header_pair l a b i =
      ⊎_elim
      (λ (e : i ≡ 2 * l). rw e (p.before l a b ∙ sym (q.before l a b)))
      (λ (e : i ≡ 2 * l + 1). rw e (p.sizes l a b ∙ sym (q.sizes l a b)))

  header_one : get_or us 0 0 ≡ get_or vs 0 0 → (i : ℕ) → i < header_words → get_or us i 0 ≡ get_or vs i 0
  header_one z i h =
      same i 0 (λ e _. rw e z)
      (λ a _. same i 1 (λ e _. rw e (p.second ∙ sym q.second))
      (λ b _. less i 66
      (λ c _. header_pair (i / 2) (omega arith) (omega arith) i
      (same (i % 2) 0 (λ e _. inl (omega arith)) (λ e _. inr (omega arith))))
      (λ c _. p.others i c h ∙ sym (q.others i c h))))

-- as far as anyone can tell by asking: equally long, one header, the same past the need, and one answer for every address
pub record Alike (need : ℕ) (us vs : List ℕ) : Type 0 where
  pub long : length us ≡ length vs
  pub header : (i : ℕ) → i < header_words → get_or us i 0 ≡ get_or vs i 0
  pub past : (i : ℕ) → need ≤ i → get_or us i 0 ≡ get_or vs i 0
  pub walks : (a : ℕ) → a < 4294967296 → walk us a ≡ walk vs a

alike_same : (n : ℕ) (us vs : List ℕ) → us ≡ vs → Alike n us vs
alike_same n us vs e = rw e (record { long = refl; header = λ i h. refl; past = λ i h. refl; walks = λ a h. refl })

pub leaves_alike : (rs : List Route) (ws us vs : List ℕ) → IsList 32 rs → Leaves rs ws us → Leaves rs ws vs
    → Alike (words_for rs) us vs
leaves_alike rs ws us vs l p q =
    less (length ws) (words_for rs)
    (λ h _. alike_same (words_for rs) us vs (p.refused h ∙ sym (q.refused h)))
    (λ h _. record {
      long = p.long ∙ sym q.long;
      header = header_one rs ws us vs (p.header h) (q.header h) ((p.laid h).default ∙ sym (q.laid h).default);
      past = λ i k. p.past i k ∙ sym (q.past i k);
      walks = λ a k. laid_walk rs us l (p.laid h) a k ∙ sym (laid_walk rs vs l (q.laid h) a k);
    })

-- ---- what was built answers, whatever stands past its need

pub built_answers : (bs ws us xs : List ℕ) (rs : List Route) → Bytes bs → listed_in bs ≡ listed rs → words_for rs ≤ length ws
    → LeavesOn (listed_in bs) ws us
    → words_for rs ≤ length xs → ((i : ℕ) → i < words_for rs → get_or xs i 0 ≡ get_or us i 0) → (a : ℕ) → a < 4294967296
    → walk xs a ≡ gives (longest 32 a rs)
built_answers bs ws us xs rs b e h p k s a l =
    let c : Leaves rs ws us = rw e at p in
    laid_walk rs xs (listed_out bs b rs e).list (laid_front rs us xs k s (c.laid h)) a l
