-- The sets of the table that is chosen, and the hop that comes to each prefix. Assumes nothing.
use Rattle.std.specs.Prelude.{◌≡◌, true}
use Rattle.std.proofs.Common.{sym, ◌∙◌}
use Prim.Native.Nat.{ℕ, zero, suc, ◌+◌, ◌-◌, ◌*◌, ◌/◌, ◌^◌, ◌≤◌, ◌<◌}
use native.Mathlib.Omega.{arith}
use Rattle.std.specs.Int.Bits.{bit_and, bit_or, and_lt, or_add_and}
use Rattle.std.proofs.lemmas.Nat.{or_lt, and_le_r}
use borrow.Author.Tests.{eqb-true}
use Rattle.logic.specs.Cases.{bool, same}
use Rattle.logic.specs.Bools.{or_case, and_to}
use Rattle.shortest.specs.HopSet.{has, has_and, has_or, has-only, only_lt, only_pos}
use Rattle.shortest.specs.Chosen.{meet, set_of, pick, under, above, chosen}
use Rattle.shortest.specs.Inside.{lacks, In, in_one, in_left, in_right}
use Rattle.shortest.specs.Least.{some}

-- ---- sets are not empty

or_some : (x y : ℕ) → 0 < x → 0 < bit_or x y
or_some x y p = omega (arith, or_add_and x y, and_le_r x y)

meet_some : (N x y : ℕ) → 0 < x → x < 2 ^ N → y < 2 ^ N → (0 < meet x y) × (meet x y < 2 ^ N)
meet_some N x y p q r =
    same (bit_and x y) 0
    (λ e t. rw t (or_some x y p, or_lt N x y q r))
    (λ n t. rw t (omega arith, and_lt N x y q r))

has_meet : {P : Type 0} (x y h : ℕ) → has (meet x y) h ≡ true → (has x h ≡ true → P) → (has y h ≡ true → P) → P
has_meet x y h e left right =
    same (bit_and x y) 0
    (λ q t. or_case (has x h) (has y h) (sym (has_or x y h) ∙ (rw t at e)) left right)
    (λ n t. left (and_to (has x h) (has y h) (sym (has_and x y h) ∙ (rw t at e))).0)

-- every address of a prefix has a hop from 1 to N
abbrev pub Hops : ℕ → (ℕ → ℕ) → ℕ → ℕ → Type 0
Hops N G d v = (a : ℕ) → In d v a → (1 ≤ G a) × (G a ≤ N)

module _ (N : ℕ) (G : ℕ → ℕ) where
  pub hops-left : (d v : ℕ) → Hops N G (suc d) v → Hops N G d (2 * v)
  hops-left d v p a i = p a (in_left d v a i)

  pub hops_right : (d v : ℕ) → Hops N G (suc d) v → Hops N G d (2 * v + 1)
  hops_right d v p a i = p a (in_right d v a i)

  pub set_some : (d v : ℕ) → Hops N G d v → (0 < set_of G d v) × (set_of G d v < 2 ^ N)
  unfolding set_of
  set_some zero v p = let q = p v (in_one v) in (only_pos (G v), only_lt N (G v) q.0 q.1)
  set_some (suc d) v p =
      let x = set_some d (2 * v) (hops-left d v p) in
      let y = set_some d (2 * v + 1) (hops_right d v p) in
      meet_some N (set_of G d (2 * v)) (set_of G d (2 * v + 1)) x.0 x.1 y.1

  -- a hop of the set is a hop of some address
  pub set_from : (d v h : ℕ) → Hops N G d v → has (set_of G d v) h ≡ true → (a : ℕ) × In d v a × (G a ≡ h)
  unfolding set_of
  set_from zero v h p e = (v, in_one v, eqb-true (G v) h (sym (has-only (G v) h (p v (in_one v)).0) ∙ e))
  set_from (suc d) v h p e =
      has_meet (set_of G d (2 * v)) (set_of G d (2 * v + 1)) h e
      (λ t. (let z = set_from d (2 * v) h (hops-left d v p) t in (z.0, in_left d v z.0 z.1, z.2)))
      (λ t. (let z = set_from d (2 * v + 1) h (hops_right d v p) t in (z.0, in_right d v z.0 z.1, z.2)))

-- ---- one prefix

pub pick_some : (N m h : ℕ) → some (pick N m h) ≡ lacks m h
pick_some N m h = bool (has m h) (λ e. rw e) (λ e. rw e)

module _ (N W : ℕ) (G : ℕ → ℕ) where
  pub below : (d v l u : ℕ) → l + suc d ≡ W → u / 2 ≡ v
      → above N W G (suc l) u ≡ under (chosen N W G v l) (above N W G l v)
  unfolding above chosen
  below d v l u e q = rw q

  -- the set of a prefix of length l
  pub set_at : (d v l : ℕ) → l + d ≡ W → chosen N W G v l ≡ pick N (set_of G d v) (above N W G l v)
  unfolding chosen
  set_at d v l e = let q : W - l ≡ d = omega arith in rw q
