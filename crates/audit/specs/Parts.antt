-- The test of an array in the parts that the code tests, each with what is at hand there; and how many candidates are counted.
-- Assumes nothing.
use Rattle.std.specs.Prelude.{◌≡◌, refl, Bool, true, false, not, ◌&&◌, ◌||◌, List, ℕ, eqb}
use Rattle.std.proofs.Common.{true≢false}
use Rattle.std.proofs.lemmas.Bool.{false≢true}
use Rattle.sizes.specs.Sizes.{slot_words, last_slot}
use Rattle.slots.specs.Taken.{taken}
use Rattle.slots.specs.Count.{sum_feeds}
use Rattle.array.specs.Check.{empty_b}
use Rattle.tree.specs.Check.{links_b, parent_links_b}
use Rattle.gather.specs.Counted.{candidates_of}
use Rattle.words.specs.Words.{feeds_of, arrays_of, array_count, words_of, slots_of}
use Rattle.words.specs.Table.{content_b}

-- array a is the root, or not empty
abbrev pub filled_b : List ℕ → ℕ → Bool
filled_b ws a = eqb a 1 || not (empty_b (slots_of ws a) ((arrays_of ws).link a))

-- it is the root, or hangs where its tag says
abbrev pub placed_b : ℕ → List ℕ → ℕ → Bool
placed_b A ws a = eqb a 1 || parent_links_b A (arrays_of ws) a

-- of A arrays in L levels: its content and its links are right, and it is filled
abbrev pub whole_b : ℕ → ℕ → List ℕ → ℕ → Bool
whole_b A L ws a = content_b ws a && (links_b A L (arrays_of ws) a && filled_b ws a)

-- how many candidates the slots of array a have, and a table
abbrev pub page_count : List ℕ → ℕ → ℕ
page_count ws a = sum_feeds (λ f. taken (λ s. words_of ws a s f) last_slot) 1 slot_words

abbrev pub table_count : List ℕ → ℕ
table_count ws = candidates_of (feeds_of ws) (array_count ws)

-- the root, hung, empty: whether it hangs is tested before
pub placed_so : (r h e : Bool) → (r || h) ≡ true → (r || not e) ≡ (r || (h && not e))
placed_so true h e p = refl
placed_so false true e p = refl
placed_so false false e p = absurd (false≢true p)

pub unplaced : (c l r h e : Bool) → (r || h) ≡ false → false ≡ (c && (l && (r || (h && not e))))
unplaced c l true h e p = absurd (true≢false p)
unplaced c l false true e p = absurd (true≢false p)
unplaced false l false false e p = refl
unplaced true false false false e p = refl
unplaced true true false false e p = refl

-- the body, filled, inner totals, outer totals, links: as the code tests them
pub body_not : (b f i o l : Bool) → (b && f) ≡ false → ((b && (i && o)) && (l && f)) ≡ false
body_not false f i o l p = refl
body_not true true i o l p = absurd (true≢false p)
body_not true false false o l p = refl
body_not true false true false l p = refl
body_not true false true true false p = refl
body_not true false true true true p = refl

pub tied_not : (o l f : Bool) → (l && o) ≡ false → (o && (l && f)) ≡ false
tied_not false l f p = refl
tied_not true false f p = refl
tied_not true true f p = absurd (true≢false p)
