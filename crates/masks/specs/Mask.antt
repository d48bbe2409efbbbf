-- The masks without collision, and the one that is chosen: fewest set bits, then the lowest number. `held s` tells which slots
-- are prefixes of the array. Assumes nothing.
--
--     0110xxxx, 01111000, 11001101      free: all masks with bit 4 and one of the bits 7 and 5      chosen: 00110000
use Rattle.std.specs.Prelude.{◌≡◌, refl, ◌⊎◌, Bool, true, false, cond, not, ◌&&◌, ◌||◌, ℕ, zero, suc, ◌≤◌, ◌<◌, ltb}
use Rattle.std.proofs.Common.{sym, ap, ◌∙◌, inl, inr, ⊎_elim, true≢false, arith, ltb-true}
use Rattle.std.proofs.lemmas.Bool.{false≢true}
use Rattle.std.specs.Int.Count.{ones, ones-ones}
use Rattle.std.proofs.lemmas.Nat.{ones-le}
use Rattle.logic.specs.Cases.{bool, same, less}
use Rattle.logic.specs.Every.{all_b}
use Rattle.logic.specs.Reflects.{Reflects, all_to_lem, all_from}
use Rattle.sizes.specs.Sizes.{slot_end}
use Rattle.masks.specs.Prefix.{apart, apart-full}

-- ---- without collision: any two prefixes are apart

pub record Free (held : ℕ → Bool) (m : ℕ) : Type 0 where
  pub pair : (s t : ℕ) → s < slot_end → t < s → held s ≡ true → held t ≡ true → apart m s t ≡ true

-- slot s against those before it
abbrev pub free_of : (ℕ → Bool) → ℕ → ℕ → Bool
free_of held m s = not (held s) || all_b (λ t. not (held t) || apart m s t) s

unfoldable pub free_b : (ℕ → Bool) → ℕ → Bool
free_b held m = all_b (free_of held m) slot_end

-- ---- the choice: going up from 0, a free mask with fewer set bits takes the place of the one so far

unfoldable pub pick : (ℕ → Bool) → ℕ → ℕ
pick free zero = 255
pick free (suc m) = cond (ltb (ones m) (ones (pick free m)) && free m) m (pick free m)

unfoldable pub mask_of : (ℕ → Bool) → ℕ
mask_of held = pick (free_b held) 255

-- what is asked of it
pub record Chosen (held : ℕ → Bool) (m : ℕ) : Type 0 where
  pub fit : m < 256
  pub free : Free held m
  pub fewest : (k : ℕ) → k < 256 → Free held k → ones m ≤ ones k
  pub lowest : (k : ℕ) → k < m → Free held k → ones m < ones k

-- ---- the test tells

drop : (b c : Bool) → (not b || c) ≡ true → b ≡ true → c ≡ true
drop true c e f = e
drop false c e f = absurd (false≢true f)

keep : (b c : Bool) → (b ≡ true → c ≡ true) → (not b || c) ≡ true
keep true c f = f refl
keep false c f = refl

module _ (held : ℕ → Bool) (m : ℕ) where
  -- slot t, if held, is apart from s
  abbrev pub one : ℕ → ℕ → Bool
  one s t = not (held t) || apart m s t

  pub free_reflects : Reflects (free_b held m) (Free held m)
  unfolding free_b
  free_reflects = record {
    to = λ e. record {
      pair = λ s t h l p q.
          let row = drop (held s) (all_b (one s) s) (all_to_lem (free_of held m) slot_end e s h) p in
          drop (held t) (apart m s t) (all_to_lem (one s) s row t l) q;
    };
    from = λ f. all_from (free_of held m) slot_end (λ s h.
        keep (held s) (all_b (one s) s) (λ p. all_from (one s) s (λ t l. keep (held t) (apart m s t) (λ q. f.pair s t h l p q))));
  }

-- the mask of all bits is free, whatever is held
pub full_free : (held : ℕ → Bool) → Free held 255
full_free held = record { pair = λ s t h l p q. apart-full s t }

-- ---- the choice is as asked

few : all_b (λ k. ltb (ones k) 8) 255 ≡ true
unfolding all_b ones
few = refl

pub ones_255 : ones 255 ≡ 8
ones_255 = ones-ones 8

fewer : (k : ℕ) → k < 255 → ones k < 8
fewer k h = ltb-true (ones k) 8 (all_to_lem (λ k. ltb (ones k) 8) 255 few k h)

-- b is the choice among the masks below n, or 255
record Picked (free : ℕ → Bool) (n b : ℕ) : Type 0 where
  fit : b < 256
  is : free b ≡ true
  first : (b < n) ⊎ (b ≡ 255)
  least : (k : ℕ) → k < n → free k ≡ true → ones b ≤ ones k
  lower : (k : ℕ) → k < n → k < b → free k ≡ true → ones b < ones k

module _ (free : ℕ → Bool) (n b : ℕ) (h : n < 255) (p : Picked free n b) where
  -- n takes its place
  taken : ones n < ones b → free n ≡ true → Picked free (suc n) n
  taken q e = record {
    fit = omega arith;
    is = e;
    first = inl (omega arith);
    least = λ k l g. same k n (λ z _. rw z (omega arith)) (λ z _. omega (arith, p.least k (omega arith) g));
    lower = λ k l w g. omega (arith, p.least k w g);
  }

  first_still : (b < suc n) ⊎ (b ≡ 255)
  first_still = ⊎_elim (λ (w : b < n). inl (omega arith)) (λ (w : b ≡ 255). inr w) p.first

  -- n is not free
  passed : free n ≡ false → Picked free (suc n) b
  passed e = record {
    fit = p.fit;
    is = p.is;
    first = first_still;
    least = λ k l g. same k n (λ z _. not_n k g z) (λ z _. p.least k (omega arith) g);
    lower = λ k l w g. same k n (λ z _. not_n k g z) (λ z _. p.lower k (omega arith) w g);
  }
    where
      not_n : {P : Type 0} (k : ℕ) → free k ≡ true → k ≡ n → P
      not_n k g z = absurd (true≢false (sym g ∙ ap free z ∙ e))

  -- n has as many set bits
  kept : ones b ≤ ones n → Picked free (suc n) b
  kept q = record {
    fit = p.fit;
    is = p.is;
    first = first_still;
    least = λ k l g. same k n (λ z _. rw z q) (λ z _. p.least k (omega arith) g);
    lower = λ k l w g. same k n (λ z _. below k z w) (λ z _. p.lower k (omega arith) w g);
  }
    where
      below : {P : Type 0} (k : ℕ) → k ≡ n → k < b → P
      below k z w = ⊎_elim
          (λ (v : b < n). absurd (omega arith))
          (λ (v : b ≡ 255). absurd (omega (arith, fewer n h, ap ones v, ones_255)))
          p.first

picked : (free : ℕ → Bool) → free 255 ≡ true → (n : ℕ) → n ≤ 255 → Picked free n (pick free n)
unfolding pick
picked free f zero h = record {
  fit = omega arith;
  is = f;
  first = inr refl;
  least = λ k l _. absurd (omega arith);
  lower = λ k l _ _. absurd (omega arith);
}
picked free f (suc n) h =
    let p = picked free f n (omega arith) in
    less (ones n) (ones (pick free n))
    (λ q d. bool (free n)
    (λ e. rw (d, e) (taken free n (pick free n) (omega arith) p q e))
    (λ e. rw (d, e) (passed free n (pick free n) (omega arith) p e)))
    (λ q d. rw d (kept free n (pick free n) (omega arith) p q))

atop : (n k : ℕ) → k ≡ 255 → n ≤ 8 → n ≤ ones k
atop n k e h = rw (e, ones_255) h

-- it is without collision, none without has fewer set bits, and none of as few is lower
pub chosen : (held : ℕ → Bool) → Chosen held (mask_of held)
unfolding mask_of
chosen held =
    let p = picked (free_b held) ((free_reflects held 255).from (full_free held)) 255 (omega arith) in
    let m = pick (free_b held) 255 in
    record {
      fit = p.fit;
      free = (free_reflects held m).to p.is;
      fewest = λ k h f. less k 255
          (λ l _. p.least k l ((free_reflects held k).from f))
          (λ l _. atop (ones m) k (omega arith) (ones-le 8 m p.fit));
      lowest = λ k l f. p.lower k (omega (arith, p.fit)) l ((free_reflects held k).from f);
    }

-- there is one only
pub chosen_one : (held : ℕ → Bool) (m n : ℕ) → Chosen held m → Chosen held n → m ≡ n
chosen_one held m n c d =
    less m n
    (λ h _. absurd (omega (arith, d.lowest m h c.free, c.fewest n d.fit d.free)))
    (λ h _. less n m
    (λ l _. absurd (omega (arith, c.lowest n l d.free, d.fewest m c.fit c.free)))
    (λ l _. omega arith))
