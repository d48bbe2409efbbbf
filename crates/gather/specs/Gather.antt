-- The candidates of the words g v l f, one for each prefix of l bits v and feed f, in the order of writing out. Assumes nothing.
--
--     of a prefix those of feeds 1 to 4, then all inside its lower half, then all inside its upper half
use Rattle.std.specs.Prelude.{◌≡◌, refl, ◌≢◌, List, [], ◌∷◌, ◌++◌}
use Rattle.std.proofs.Math.Path.{ap₂}
use Rattle.std.proofs.Common.{◌∙◌, le_refl}
use Rattle.std.proofs.Math.Option.{Option, none, some}
use Prim.Native.Nat.{ℕ, zero, suc, ◌+◌, ◌*◌, ◌^◌, ◌≤◌, ◌<◌}
use native.Mathlib.Omega.{arith}
use Rattle.logic.specs.Cases.{same}
use Rattle.sizes.specs.Sizes.{slot_words, hop_bound}
use Rattle.candidates.specs.Keyed.{find, Every}
use Rattle.candidates.specs.Candidate.{Candidate, candidate, key}
use Rattle.rivals.specs.Maps.{find_head, find_skip, find-below}
use Rattle.rivals.specs.Append.{or_else, else_none, every_append, Inside, inside_ordered, inside-append, find-append, find-above}
use Rattle.slots.specs.Word.{IsFeed, preference_in, hop_in, word_of, preference_of, hop_of_lem}

-- ---- of one slot

-- the candidate that a word of feed f stands for at the prefix (v, l), where d bits are below it
abbrev pub meant : ℕ → ℕ → ℕ → ℕ → ℕ → Option Candidate
meant d v l f zero = none
meant d v l f (suc w) = some (candidate (v * 2 ^ d) l f (preference_in (suc w)) (hop_in (suc w)))

abbrev pub listed : Option Candidate → List Candidate
listed none = []
listed (some c) = c ∷ []

-- of n feeds from f on
unfoldable pub of_feeds : (ℕ → ℕ) → ℕ → ℕ → ℕ → ℕ → ℕ → List Candidate
of_feeds g d v l f zero = []
of_feeds g d v l f (suc n) = listed (meant d v l f (g f)) ++ of_feeds g d v l (suc f) n

abbrev pub of_slot : (ℕ → ℕ) → ℕ → ℕ → ℕ → List Candidate
of_slot g d v l = of_feeds g d v l 1 slot_words

-- ---- of all slots

-- of those that begin with the first l bits v, where d bits are below them
unfoldable pub gather : (ℕ → ℕ → ℕ → ℕ) → ℕ → ℕ → ℕ → List Candidate
gather g zero v l = of_slot (g v l) zero v l
gather g (suc d) v l = of_slot (g v l) (suc d) v l ++ (gather g d (2 * v) (suc l) ++ gather g d (2 * v + 1) (suc l))

-- of the width W
unfoldable pub gathered : ℕ → (ℕ → ℕ → ℕ → ℕ) → List Candidate
gathered W g = gather g W 0 0

-- ---- the laws of a slot

-- the place of a prefix, to which a feed is added
abbrev pub base : ℕ → ℕ → ℕ → ℕ
base d v l = (v * 2 ^ d * 256 + l) * 8

one_inside : (d v l f w : ℕ) → Inside key (base d v l + f) (base d v l + suc f) (listed (meant d v l f w))
one_inside d v l f zero = omega arith
one_inside d v l f (suc w) = (omega arith, omega arith)

pub one_hit : (d v l f w : ℕ) → find key (listed (meant d v l f w)) (base d v l + f) ≡ meant d v l f w
one_hit d v l f zero = refl
one_hit d v l f (suc w) = find_head key _ [] (base d v l + f) refl

pub one_miss : (d v l f w k : ℕ) → base d v l + f ≢ k → find key (listed (meant d v l f w)) k ≡ none
one_miss d v l f zero k n = refl
one_miss d v l f (suc w) k n = find_skip key _ [] k n

-- the word of a candidate stands for it
pub meant_word : (d v l f p h : ℕ) → 1 ≤ h → h < hop_bound → meant d v l f (word_of p h) ≡ some (candidate (v * 2 ^ d) l f p h)
meant_word d v l f p h a b = go (word_of p h) refl
  where
    go : (w : ℕ) → word_of p h ≡ w → meant d v l f w ≡ some (candidate (v * 2 ^ d) l f p h)
    go zero e = absurd (omega arith)
    go (suc w) e = rw (← e, preference_of p h b, hop_of_lem p h b)

module _ (g : ℕ → ℕ) (d v l : ℕ) where
  pub feeds-inside : (f n m : ℕ) → f + n ≡ m → Inside key (base d v l + f) (base d v l + m) (of_feeds g d v l f n)
  unfolding of_feeds
  feeds-inside f zero m e = omega arith
  feeds-inside f (suc n) m e =
      inside-append key _ (base d v l + suc f) _ (listed (meant d v l f (g f))) _ (one_inside d v l f (g f))
      (feeds-inside (suc f) n m (omega arith))

  pub feeds_every : (P : Candidate → Type 0) (f n m : ℕ) → f + n ≡ m
      → ((j : ℕ) → f ≤ j → j < m → Every P (listed (meant d v l j (g j)))) → Every P (of_feeds g d v l f n)
  unfolding of_feeds
  feeds_every P f zero m e p = tt
  feeds_every P f (suc n) m e p =
      every_append P (listed (meant d v l f (g f))) (of_feeds g d v l (suc f) n) (p f (le_refl _) (omega arith))
      (feeds_every P (suc f) n m (omega arith) (λ j a b. p j (omega arith) b))
