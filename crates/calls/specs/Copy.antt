-- The copy over the calls of the C face: a table of IPv4 written out, and a copy built from the bytes in as many words as they
-- need, which answers every address as the table does, but for the block. Assumes nothing.
--
--     words ── write_out ──▶ bytes ── copy_need ──▶ how many words to lend
--       │                      └───── copy_build ─▶ copy, its words on the card ── copy_lookup ──▶ match
--       └──────────────────── lookup ──────────────────────────────────────────────────────────▶ the same, and the block
use Rattle.std.specs.Prelude.{◌≡◌, refl, List, ◌++◌, ℕ, ◌+◌, ◌*◌, ◌≤◌, ◌<◌, length, get_or, take, drop}
use Rattle.std.proofs.Common.{sym, ap, ◌∙◌, arith}
use Rattle.std.proofs.Math.Seq.{take-append_seam}
use Rattle.routes.specs.Family.{v4}
use Rattle.routes.specs.Route.{Route}
use Rattle.routes.specs.Route as routes
use Rattle.routes.specs.Match.{Match, none, found}
use Rattle.routes.specs.Answers as answers
use Rattle.routes.specs.Seen.{gives, refuses}
use Rattle.candidates.specs.Candidate.{Candidate, IsList}
use Rattle.candidates.specs.Winners.{winners}
use Rattle.candidates.specs.Bytes.{written, written_plainly}
use Rattle.candidates.specs.Seen.{Seen, misfit, foreign, table, lookup_on}
use Rattle.logic.specs.Cases.{less}
use Rattle.encoded.specs.Round.{written_long}
use Rattle.words.specs.Table.{seen}
use Rattle.lookup.specs.Walk.{walk}
use Rattle.lengths.specs.Marks.{words_for}
use Rattle.listing.specs.Listed.{listed, listed_in}
use Rattle.lengths_build.specs.Answer.{need_on}
use Rattle.listing.proofs.Written.{written_listed, written-plain}
use Rattle.lengths.specs.Layout as layout
use Rattle.answers.specs.Numbers.{looked, wrote}
use Rattle.toggleash.specs.Face.{HasWritten}
use Rattle.answers.specs.Numbers.{needed, matched}
use Rattle.toggleash.specs.Copies.{HasBuilt}
use Rattle.answers.specs.declared.Found.{Found}
use Rattle.answers.specs.declared.Written.{Written}
use Rattle.answers.specs.declared.Needed.{Needed}
use Rattle.toggleash.specs.declared.copies.Built.{Built}
use Rattle.answers.specs.declared.Matched.{Matched}
use Rattle.calls.specs.Held.{held}

-- the calls, each as its contract allows
pub record Carried : Type 0 where
  -- words written out, and not refused
  pub words : List ℕ
  pub buffer : List ℕ
  pub buffer' : List ℕ
  pub wrote : Written
  pub writes : HasWritten v4 words buffer buffer' wrote
  pub taken : wrote.refusal ≡ 0
  -- the bytes of the list
  pub bytes : List ℕ
  pub front : bytes ≡ take wrote.bytes buffer'
  -- as many words as they need, or more
  pub need : Needed
  pub needs : need ≡ needed (need_on (listed_in bytes))
  pub lent : List ℕ
  pub enough : need.words ≤ length lent
  -- a copy built in them
  pub copy : List ℕ
  pub built : Built
  pub builds : HasBuilt bytes lent copy built
  -- words on the card: up to the need those of the copy, past it any
  pub card : List ℕ
  pub long : need.words ≤ length card
  pub sent : (i : ℕ) → i < need.words → get_or card i 0 ≡ get_or copy i 0

-- the answer of a table without its block
abbrev pub match_of : Found → Matched
match_of f = record { refusal = f.refusal; found = f.found; hop = f.hop; length = f.length }

-- nothing is refused, the routes are the winners, one for each prefix, and the card answers each address as the table
pub record AsTable (t : Carried) : Type 0 where
  pub needs : t.need.refusal ≡ 0
  pub builds : t.built.refusal ≡ 0
  pub routes : (A : ℕ) (cs : List Candidate) → seen 4 t.words ≡ table A cs → t.built.routes ≡ length (winners cs)
  pub lookups : (a : ℕ) → a < 4294967296 → (f : Found) (g : Matched)
      → f ≡ looked (lookup_on 32 (seen 4 t.words) (walk 4 t.words a) a) → g ≡ matched (layout.walk t.card a)
      → g ≡ match_of f

-- ---- room is never a reason to refuse: a list written out has a need, whatever arrays it would take

pub any_room : (cs : List Candidate) → IsList 32 cs → (r : Needed) → r ≡ needed (need_on (listed_in (written v4 cs)))
    → r ≡ record { refusal = 0; words = words_for (winners cs) }
any_room cs l r e = e ∙ rw (written_listed cs l)

-- in records of kind 1 too
pub any_room_plain : (rs : List Route) → routes.IsList 32 rs → (r : Needed)
    → r ≡ needed (need_on (listed_in (written_plainly rs)))
    → r ≡ record { refusal = 0; words = words_for rs }
any_room_plain rs l r e = e ∙ rw (written-plain rs l)

-- ---- what was written out is the list of a table

pub record Out (ws bs : List ℕ) : Type 0 where
  pub arrays : ℕ
  pub list : List Candidate
  pub table : seen 4 ws ≡ table arrays list
  pub bytes : bs ≡ written v4 list

pub out : (ws b c : List ℕ) (r : Written) → HasWritten v4 ws b c r → r.refusal ≡ 0 → Out ws (take r.bytes c)
out ws b c r w z = go (seen 4 ws) refl
  where
    number : (n : ℕ) → r ≡ wrote (refuses n) → n ≡ 0
    number n e = sym (ap (λ (x : Written). x.refusal) e) ∙ z

    whole : (cs : List Candidate) → r ≡ wrote (gives (10 * length cs + 1)) → c ≡ written v4 cs ++ drop (length (written v4 cs)) b
        → take r.bytes c ≡ written v4 cs
    whole cs e f = rw (e, ← written_long v4 cs, f) (take-append_seam (written v4 cs) _)

    go : (s : Seen) → seen 4 ws ≡ s → Out ws (take r.bytes c)
    go misfit e = absurd (let n : ◌≡◌ {A = ℕ} 1 0 = number 1 (rw e at w.answer) in omega arith)
    go foreign e = absurd (let n : ◌≡◌ {A = ℕ} 2 0 = number 2 (rw e at w.answer) in omega arith)
    go (table A cs) e =
        less (length b) (10 * length cs + 1)
        (λ h d. absurd (let n : ◌≡◌ {A = ℕ} 9 0 = number 9 (rw (e, d) at w.answer) in omega arith))
        (λ h d. record {
          arrays = A;
          list = cs;
          table = e;
          bytes = whole cs (rw (e, d) at w.answer) (rw (e, d) at w.front);
        })

-- ---- so it is built, and answers

pub without_block_lem : (m : Match) (q : ℕ) → matched (gives m) ≡ match_of (looked (answers.matched m q))
without_block_lem none q = refl
without_block_lem (found h l) q = refl

module _ (t : Carried) where
  abbrev pub o : Out t.words (take t.wrote.bytes t.buffer')
  o = out t.words t.buffer t.buffer' t.wrote t.writes t.taken

  abbrev pub cs : List Candidate
  cs = o.list

  -- its winners
  abbrev pub rs : List Route
  rs = winners cs

  pub is_listed : listed_in t.bytes ≡ listed rs
  is_listed =
      let h = held v4 o.arrays cs t.words o.table in
      ap listed_in (t.front ∙ o.bytes) ∙ written_listed cs h.list

  -- no other list is seen
  pub one : (A : ℕ) (ds : List Candidate) → seen 4 t.words ≡ table A ds → cs ≡ ds
  one A ds e = let q : table o.arrays cs ≡ table A ds = sym o.table ∙ e in cc
