-- The masks without collision, and the one that is chosen: fewest set bits, then the lowest number. `held s` tells which slots
-- are prefixes of the array. Assumes nothing.
--
--     0110xxxx, 01111000, 11001101      free: all masks with bit 4 and one of the bits 7 and 5      chosen: 00110000
use Rattle.std.specs.Prelude.{◌≡◌, Bool, ℕ, ◌<◌}
use Rattle.std.proofs.Common.{sym, ◌∙◌, arith}
use Rattle.sizes.specs.Sizes.{slot_end}
use Rattle.masks.specs.Mask.{Free, mask_of, Chosen, chosen, chosen_one}

-- two arrays that hold the same have one mask
pub mask_same : (f g : ℕ → Bool) → ((s : ℕ) → s < slot_end → f s ≡ g s) → mask_of f ≡ mask_of g
mask_same f g e = chosen_one g (mask_of f) (mask_of g) (chosen_as f g e (mask_of f) (chosen f)) (chosen g)
  where
    free_as : (f g : ℕ → Bool) → ((s : ℕ) → s < slot_end → f s ≡ g s) → (m : ℕ) → Free f m → Free g m
    free_as f g e m p = record {
      pair = λ s t h l a b. p.pair s t h l (e s h ∙ a) (e t (omega arith) ∙ b);
    }

    chosen_as : (f g : ℕ → Bool) → ((s : ℕ) → s < slot_end → f s ≡ g s) → (m : ℕ) → Chosen f m → Chosen g m
    chosen_as f g e m c = record {
      fit = c.fit;
      free = free_as f g e m c.free;
      fewest = λ k h p. c.fewest k h (free_as g f (λ s l. sym (e s l)) k p);
      lowest = λ k h p. c.lowest k h (free_as g f (λ s l. sym (e s l)) k p);
    }
