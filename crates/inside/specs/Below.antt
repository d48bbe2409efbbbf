-- The prefixes inside one are those that are collected below it, so their number adds up from both halves. Assumes nothing.
use Rattle.std.specs.Prelude.{◌≡◌, refl, length}
use Rattle.std.proofs.Common.{sym, ◌∙◌, mul-le-mul_right, mul_assoc, pow-add}
use Rattle.std.proofs.Math.Path.{ap₂}
use Prim.Native.Nat.{ℕ, zero, suc, ◌+◌, ◌-◌, ◌*◌, ◌^◌, ◌≤◌, ◌<◌}
use Rattle.std.proofs.Math.Nat.{pow-succ'}
use native.Mathlib.Omega.{arith}
use Rattle.std.proofs.Math.ListN.{length-append}
use Rattle.std.proofs.Math.Pow.{pow_pos}
use Rattle.std.proofs.lemmas.Bool.{lt-leb}
use Rattle.logic.specs.Cases.{less}
use Rattle.routes.specs.Route.{Route, All}
use Rattle.routes.specs.Collect.{own, collect, routes}
use Rattle.laws.specs.Sorted.{all_append, all_map}
use Rattle.laws.specs.Collect.{dbl}
use Rattle.inside.specs.Inside.{inside}
use Rattle.inside.specs.Held.{inside-append, inside_all, inside_none, is_inside}

-- a route from lo on and below hi, as long as l or longer
pub record Box (lo hi l : ℕ) (r : Route) : Type 0 where
  pub from : lo ≤ r.addr
  pub under : r.addr < hi
  pub long : l ≤ r.len

wider : (lo hi l lo' hi' l' : ℕ) → lo' ≤ lo → hi ≤ hi' → l' ≤ l → (r : Route) → Box lo hi l r → Box lo' hi' l' r
wider lo hi l lo' hi' l' p q s r b =
    record { from = omega (arith, b.from); under = omega (arith, b.under); long = omega (arith, b.long) }

own_box : (d v l h : ℕ) → All (Box (v * 2 ^ d) ((v + 1) * 2 ^ d) l) (own d v l h)
own_box d v l zero = tt
own_box d v l (suc h) = (record { from = omega arith; under = omega (arith, pow_pos d); long = omega arith }, tt)

module _ (f : ℕ → ℕ → ℕ) where
  pub collect_box : (d v l : ℕ) → All (Box (v * 2 ^ d) ((v + 1) * 2 ^ d) l) (collect f d v l)
  unfolding collect
  collect_box zero v l = own_box zero v l (f v l)
  collect_box (suc d) v l =
      let p = Box (v * 2 ^ suc d) ((v + 1) * 2 ^ suc d) l in
      let low = collect f d (2 * v) (suc l) in
      let high = collect f d (2 * v + 1) (suc l) in
      let e = dbl v d in
      let two = pow-succ' 2 d in
      all_append p (own (suc d) v l (f v l)) _ (own_box (suc d) v l (f v l))
      (all_append p low high
      (all_map _ p (wider _ _ _ _ _ _ (omega (arith, e)) (omega (arith, e, two, pow_pos d)) (omega arith)) low
      (collect_box d (2 * v) (suc l)))
      (all_map _ p (wider _ _ _ _ _ _ (omega (arith, e)) (omega (arith, e, two)) (omega arith)) high
      (collect_box d (2 * v + 1) (suc l))))

  -- what is below a prefix: itself, and what is below its halves
  pub collect-length : (d v l : ℕ) → length (collect f (suc d) v l)
      ≡ length (own (suc d) v l (f v l)) + (length (collect f d (2 * v) (suc l)) + length (collect f d (2 * v + 1) (suc l)))
  unfolding collect
  collect-length d v l = simp length-append

pub pow_split : (m e d : ℕ) → m + e ≡ d → (u : ℕ) → u * 2 ^ d ≡ u * 2 ^ m * 2 ^ e
pow_split m e d p u = rw (← p, pow-add) (sym (mul_assoc u (2 ^ m) (2 ^ e)))

-- a shorter prefix does not lie inside
pub own_out : (W d v l h a l' : ℕ) → l < l' → inside W (own d v l h) a l' ≡ 0
unfolding inside
own_out W d v l zero a l' s = refl
own_out W d v l (suc h) a l' s = inside_none W a l' (own d v l (suc h)) (rw (lt-leb l' l s), tt)

module _ (W : ℕ) (f : ℕ → ℕ → ℕ) (l' e v' : ℕ) (bits : l' + e ≡ W) where
  abbrev pub a : ℕ
  a = v' * 2 ^ e
