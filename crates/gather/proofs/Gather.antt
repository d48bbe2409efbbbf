-- The candidates of the words g v l f, one for each prefix of l bits v and feed f, in the order of writing out. Assumes nothing.
--
--     of a prefix those of feeds 1 to 4, then all inside its lower half, then all inside its upper half
use Rattle.std.specs.Prelude.{◌≡◌, refl, ◌≢◌, List, [], ◌∷◌, ◌++◌}
use Rattle.std.proofs.Math.Path.{ap₂}
use Rattle.std.proofs.Common.{◌∙◌, le_refl}
use Rattle.std.proofs.Math.Option.{Option, none, some}
use Prim.Native.Nat.{ℕ, zero, suc, ◌+◌, ◌*◌, ◌^◌, ◌≤◌, ◌<◌}
use native.Mathlib.Omega.{arith}
use Rattle.logic.specs.Cases.{same}
use Rattle.sizes.specs.Sizes.{slot_words, hop_bound}
use Rattle.candidates.specs.Keyed.{find, Every}
use Rattle.candidates.specs.Candidate.{Candidate, candidate, key}
use Rattle.rivals.specs.Maps.{find_head, find_skip, find-below}
use Rattle.rivals.specs.Append.{or_else, else_none, every_append, Inside, inside_ordered, inside-append, find-append, find-above}
use Rattle.slots.specs.Word.{IsFeed, preference_in, hop_in, word_of, preference_of, hop_of_lem}
use Rattle.gather.specs.Gather.{meant, listed, of_feeds, of_slot, base, one_hit, one_miss, feeds-inside, feeds_every}

module _ (g : ℕ → ℕ) (d v l : ℕ) where
  -- what is found at a feed is what its word stands for
  feeds_hit : (f n m j : ℕ) → f + n ≡ m → f ≤ j → j < m → find key (of_feeds g d v l f n) (base d v l + j) ≡ meant d v l j (g j)
  unfolding of_feeds
  feeds_hit f zero m j e a b = absurd (omega arith)
  feeds_hit f (suc n) m j e a b =
      find-append key (listed (meant d v l f (g f))) (of_feeds g d v l (suc f) n) (base d v l + j)
      ∙ same f j
      (λ q _. rw (← q) (ap₂ or_else (one_hit d v l f (g f))
      (find-below key _ (base d v l + f) (of_feeds g d v l (suc f) n)
      (inside_ordered key _ _ (of_feeds g d v l (suc f) n) (feeds-inside g d v l (suc f) n m (omega arith))) (omega arith))
      ∙ else_none (meant d v l f (g f))))
      (λ q _. ap₂ or_else (one_miss d v l f (g f) (base d v l + j) (λ z. q (omega arith)))
      (feeds_hit (suc f) n m j (omega arith) (omega arith) b))

  pub slot_inside : Inside key (base d v l + 1) (base d v l + 5) (of_slot g d v l)
  slot_inside = (feeds-inside g d v l) 1 slot_words 5 (omega arith)

  pub slot_hit : (f : ℕ) → IsFeed f → find key (of_slot g d v l) (base d v l + f) ≡ meant d v l f (g f)
  slot_hit f p = feeds_hit 1 slot_words 5 f (omega arith) p.low (omega (arith, p.high))

  pub slot_miss : (k : ℕ) → base d v l + 5 ≤ k → find key (of_slot g d v l) k ≡ none
  slot_miss k h = find-above key _ _ k (of_slot g d v l) slot_inside h

  -- what each feed's candidate has, each of the slot's has
  pub slot_every : (P : Candidate → Type 0) → ((f : ℕ) → IsFeed f → Every P (listed (meant d v l f (g f))))
      → Every P (of_slot g d v l)
  slot_every P p = feeds_every g d v l P 1 slot_words 5 (omega arith) (λ f a b. p f (record { low = a; high = omega arith }))
