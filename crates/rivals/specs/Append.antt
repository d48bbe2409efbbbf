-- Increasing lists, one after the other. Assumes nothing.
use Rattle.std.specs.Prelude.{◌≡◌, refl, List, [], ◌∷◌, ◌++◌, ℕ, suc, ◌≤◌, ◌<◌}
use Rattle.std.proofs.Common.{◌∙◌, le_refl, arith}
use Rattle.std.proofs.Math.Option.{Option, none, some}
use Rattle.logic.specs.Cases.{same}
use Rattle.candidates.specs.Keyed.{Ordered, find, Every}
use Rattle.rivals.specs.Maps.{find_skip}

-- the first that is there
abbrev pub or_else : {T : Type 0} → Option T → Option T → Option T
or_else none b = b
or_else (some a) b = some a

pub else_none : {T : Type 0} (a : Option T) → or_else a none ≡ a
else_none none = refl
else_none (some a) = refl

pub every_append : {T : Type 0} (P : T → Type 0) (xs ys : List T) → Every P xs → Every P ys → Every P (xs ++ ys)
every_append P [] ys p q = q
every_append P (x ∷ xs) ys p q = (p.0, every_append P xs ys p.1 q)

module _ {T : Type 0} (key : T → ℕ) where
  -- strictly increasing, each key from lo to hi - 1
  abbrev pub Inside : ℕ → ℕ → List T → Type 0
  Inside lo hi [] = lo ≤ hi
  Inside lo hi (x ∷ xs) = (lo ≤ key x) × Inside (suc (key x)) hi xs

  pub inside_ordered : (lo hi : ℕ) (xs : List T) → Inside lo hi xs → Ordered key lo xs
  inside_ordered lo hi [] w = tt
  inside_ordered lo hi (x ∷ xs) w = (w.0, inside_ordered (suc (key x)) hi xs w.1)

  pub inside_weaken : (lo lo' hi hi' : ℕ) (xs : List T) → lo' ≤ lo → hi ≤ hi' → Inside lo hi xs → Inside lo' hi' xs
  inside_weaken lo lo' hi hi' [] h h' w = omega arith
  inside_weaken lo lo' hi hi' (x ∷ xs) h h' w =
      (omega arith, inside_weaken (suc (key x)) (suc (key x)) hi hi' xs (le_refl _) h' w.1)

  pub inside-append : (lo mid hi : ℕ) (xs ys : List T) → Inside lo mid xs → Inside mid hi ys → Inside lo hi (xs ++ ys)
  inside-append lo mid hi [] ys w u = inside_weaken mid lo hi hi ys w (le_refl _) u
  inside-append lo mid hi (x ∷ xs) ys w u = (w.0, inside-append (suc (key x)) mid hi xs ys w.1 u)

  pub inside_le : (lo hi : ℕ) (xs : List T) → Inside lo hi xs → lo ≤ hi
  inside_le lo hi [] w = w
  inside_le lo hi (x ∷ xs) w = omega (arith, inside_le (suc (key x)) hi xs w.1)

  -- each key lies between the two
  pub inside_every : (lo hi : ℕ) (xs : List T) → Inside lo hi xs → Every (λ x. (lo ≤ key x) × (key x < hi)) xs
  inside_every lo hi [] w = tt
  inside_every lo hi (x ∷ xs) w =
      ((w.0, inside_le (suc (key x)) hi xs w.1), widen xs (inside_every (suc (key x)) hi xs w.1))
    where
      widen : (ys : List T) → Every (λ y. (suc (key x) ≤ key y) × (key y < hi)) ys → Every (λ y. (lo ≤ key y) × (key y < hi)) ys
      widen [] p = tt
      widen (y ∷ ys) p = ((omega (arith, p.0.0, w.0), p.0.1), widen ys p.1)

  pub find-append : (xs ys : List T) (k : ℕ) → find key (xs ++ ys) k ≡ or_else (find key xs k) (find key ys k)
  find-append [] ys k = refl
  find-append (x ∷ xs) ys k = same (key x) k (λ q e. rw e) (λ n e. rw e (find-append xs ys k))

  pub find-above : (lo hi k : ℕ) (xs : List T) → Inside lo hi xs → hi ≤ k → find key xs k ≡ none
  find-above lo hi k [] w h = refl
  find-above lo hi k (x ∷ xs) w h =
      find_skip key x xs k (omega (arith, inside_le (suc (key x)) hi xs w.1)) ∙ find-above (suc (key x)) hi k xs w.1 h
