-- The pairs of prefixes taken one after the other, and the masks that are left. Assumes nothing.
use mathlib.Core.Path.{◌≡◌, refl, sym, ap, ◌∙◌}
use mathlib.Core.Logic.{◌≢◌}
use mathlib.Core.Bool.{Bool, true, false, not, ◌&&◌, ◌||◌}
use mathlib.Core.List.{List}
use Prim.Native.Nat.{ℕ, ◌+◌, ◌≤◌, ◌<◌}
use native.Mathlib.Numerals.{add-one}
use lib.ListN.{length, get_or, set, length-set, replicate}
use lib.Bits.{bit_and, bit_or, or_lt, and_zero_r}
use borrow.Author.Tests.{eq-eqb, ne_eqb, le-leb}
use Rattle.logic.specs.Every.{all_b}
use Rattle.logic.specs.Reflects.{all_stop, all_done}
use Rattle.masks.specs.Prefix.{parted, added, apart, added_lt, parted_lt}
use Rattle.masks.specs.Mask.{free_of}
use Rattle.masks.specs.Sieve.{held_in, meets, passes, passes-set, passes_or, Sifted, and_assoc}

-- ---- the flags

pub held_some : (fs : List ℕ) (s : ℕ) → 1 ≤ s → get_or fs s 0 ≢ 0 → held_in fs s ≡ true
unfolding held_in
held_some fs s h n = rw (le-leb 1 s h, ne_eqb (get_or fs s 0) 0 n)

pub held_none : (fs : List ℕ) (s : ℕ) → 1 ≤ s → get_or fs s 0 ≡ 0 → held_in fs s ≡ false
unfolding held_in
held_none fs s h e = rw (le-leb 1 s h, e)

-- ---- one pair

and_true : (b : Bool) → (b && true) ≡ b
and_true true = refl
and_true false = refl

pub mark-nested : (xs : List ℕ) (y s t : ℕ) → y < 256 → parted s t ≡ 0
    → Sifted xs xs y (bit_or y (added s t)) (λ m. apart m s t)
mark-nested xs y s t h e = record {
  size = refl;
  fit = or_lt 8 y (added s t) h (added_lt s t);
  sifts = λ m. rw (eq-eqb (parted s t) 0 e) (passes_or xs y m (added s t) h (added_lt s t));
}

pub mark-parted : (xs : List ℕ) (y s t : ℕ) → length xs ≡ 256 → y < 256 → parted s t ≢ 0
    → Sifted xs (set xs (parted s t) 1) y y (λ m. apart m s t)
mark-parted xs y s t k h n = record {
  size = length-set xs (parted s t) 1;
  fit = h;
  sifts = λ m. rw (ne_eqb (parted s t) 0 n) (passes-set xs m (parted s t) k (parted_lt s t) y);
}

-- ---- several

pub sift_none : (xs : List ℕ) (y : ℕ) (f : ℕ → Bool) → y < 256 → ((m : ℕ) → f m ≡ true) → Sifted xs xs y y f
sift_none xs y f h e = record { size = refl; fit = h; sifts = λ m. rw (e m) (sym (and_true (passes xs y m))) }

module _ (xs zs : List ℕ) (y z : ℕ) (c f : ℕ → Bool) (p : Sifted xs zs y z c) where
  sift_same : ((m : ℕ) → c m ≡ f m) → Sifted xs zs y z f
  sift_same e =
      record { size = p.size; fit = p.fit; sifts = λ m. p.sifts m ∙ ap (λ (b : Bool). passes xs y m && b) (e m) }

  sift_then : (ws : List ℕ) (w : ℕ) (d : ℕ → Bool) → Sifted zs ws z w d → ((m : ℕ) → (c m && d m) ≡ f m) → Sifted xs ws y w f
  sift_then ws w d q e = record {
    size = q.size ∙ p.size;
    fit = q.fit;
    sifts = λ m. q.sifts m
        ∙ rw (p.sifts m) (and_assoc (passes xs y m) (c m) (d m) ∙ ap (λ (b : Bool). passes xs y m && b) (e m));
  }

-- the pairs of s with the slots below t, and all pairs of slots below s
abbrev pub row_to : List ℕ → ℕ → ℕ → ℕ → Bool
row_to fs s t m = all_b (λ t. not (held_in fs t) || apart m s t) t

abbrev pub all_to : List ℕ → ℕ → ℕ → Bool
all_to fs s m = all_b (free_of (held_in fs) m) s

pub row-start : (fs : List ℕ) (s m : ℕ) → row_to fs s 1 m ≡ true
unfolding all_b held_in
row-start fs s m = refl

pub all_start : (fs : List ℕ) (m : ℕ) → all_to fs 1 m ≡ true
unfolding all_b held_in
all_start fs m = refl

module _ (fs xs zs : List ℕ) (from y s t : ℕ) (p : Sifted xs zs from y (row_to fs s t)) where
  pub row_skip : held_in fs t ≡ false → Sifted xs zs from y (row_to fs s (t + 1))
  unfolding all_b
  row_skip e = sift_same xs zs from y (row_to fs s t) (row_to fs s (t + 1)) p same
    where
      same : (m : ℕ) → row_to fs s t m ≡ row_to fs s (t + 1) m
      same m = rw (add-one t, e) (sym (and_true (row_to fs s t m)))

  pub row-take : (ws : List ℕ) (z : ℕ) → held_in fs t ≡ true → Sifted zs ws y z (λ m. apart m s t)
      → Sifted xs ws from z (row_to fs s (t + 1))
  unfolding all_b
  row-take ws z e q = sift_then xs zs from y (row_to fs s t) (row_to fs s (t + 1)) p ws z (λ m. apart m s t) q more
    where
      more : (m : ℕ) → (row_to fs s t m && apart m s t) ≡ row_to fs s (t + 1) m
      more m = rw (add-one t, e)

module _ (fs xs zs : List ℕ) (y s : ℕ) (p : Sifted xs zs 0 y (all_to fs s)) where
  pub all_skip : held_in fs s ≡ false → Sifted xs zs 0 y (all_to fs (s + 1))
  unfolding all_b
  all_skip e = sift_same xs zs 0 y (all_to fs s) (all_to fs (s + 1)) p same
    where
      same : (m : ℕ) → all_to fs s m ≡ all_to fs (s + 1) m
      same m = rw (add-one s, e) (sym (and_true (all_to fs s m)))

  pub all_take : (ws : List ℕ) (z : ℕ) → held_in fs s ≡ true → Sifted zs ws y z (row_to fs s s)
      → Sifted xs ws 0 z (all_to fs (s + 1))
  unfolding all_b
  all_take ws z e q = sift_then xs zs 0 y (all_to fs s) (all_to fs (s + 1)) p ws z (row_to fs s s) q more
    where
      more : (m : ℕ) → (all_to fs s m && row_to fs s s m) ≡ all_to fs (s + 1) m
      more m = rw (add-one s, e)

-- ---- one mask

module _ (xs : List ℕ) (y m : ℕ) where
  pub pass_not : bit_and m y ≢ y → false ≡ passes xs y m
  unfolding passes
  pass_not n = rw (ne_eqb (bit_and m y) y n) (sym (and_false (all_b (meets xs m) 256)))
    where
      and_false : (b : Bool) → (b && false) ≡ false
      and_false true = refl
      and_false false = refl

  pub pass_miss : (x : ℕ) → x < 256 → meets xs m x ≡ false → false ≡ passes xs y m
  unfolding passes
  pass_miss x h e = rw (← all_stop (meets xs m) 256 x h e)

  pub pass_all : (x : ℕ) → all_b (meets xs m) x ≡ true → x ≤ 256 → 256 ≤ x → bit_and m y ≡ y → true ≡ passes xs y m
  unfolding passes
  pass_all x e h l q = rw (← all_done (meets xs m) 256 x e h l, eq-eqb (bit_and m y) y q)

-- nothing is marked yet, so all masks pass
pass_blank : (m : ℕ) → passes (replicate 256 0) 0 m ≡ true
unfolding passes all_b
pass_blank m = rw (and_zero_r m)

pub sieved : (zs : List ℕ) (y : ℕ) (c : ℕ → Bool) → Sifted (replicate 256 0) zs 0 y c → (m : ℕ) → passes zs y m ≡ c m
sieved zs y c p m = p.sifts m ∙ rw (pass_blank m)
