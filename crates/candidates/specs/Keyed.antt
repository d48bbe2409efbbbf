-- Lists that strictly increase by a number key: finite maps, each of which is one value. Assumes nothing.
--
--     keys   3 ── 7 ── 9        put at 7: the 7 replaced      put at 8: 3 ── 7 ── 8 ── 9      cut at 7: 3 ── 9
use Rattle.std.specs.Prelude.{cond, List, [], ◌∷◌, ℕ, suc, ◌≤◌, ltb, eqb}
use Rattle.std.proofs.Math.Option.{Option, none, some}

module _ {T : Type 0} (key : T → ℕ) where
  -- strictly increasing, from lo on
  abbrev pub Ordered : ℕ → List T → Type 0
  Ordered lo [] = Unit {0}
  Ordered lo (x ∷ xs) = (lo ≤ key x) × Ordered (suc (key x)) xs

  -- what stands at a key
  abbrev pub find : List T → ℕ → Option T
  find [] k = none
  find (x ∷ xs) k = cond (eqb (key x) k) (some x) (find xs k)

  -- the list with x, in the place of what stood at its key
  abbrev pub put : T → List T → List T
  put x [] = x ∷ []
  put x (y ∷ ys) = cond (ltb (key x) (key y)) (x ∷ y ∷ ys) (cond (eqb (key x) (key y)) (x ∷ ys) (y ∷ put x ys))

  -- the list without what stands at the key k
  abbrev pub cut : ℕ → List T → List T
  cut k [] = []
  cut k (y ∷ ys) = cond (eqb (key y) k) ys (y ∷ cut k ys)

-- a property of each
abbrev pub Every : {T : Type 0} → (T → Type 0) → List T → Type 0
Every P [] = Unit {0}
Every P (x ∷ xs) = P x × Every P xs
