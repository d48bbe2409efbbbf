-- The prefixes inside one are those that are collected below it, so their number adds up from both halves. Assumes nothing.
use Rattle.std.specs.Prelude.{◌≡◌, refl, length}
use Rattle.std.proofs.Common.{sym, ◌∙◌, mul-le-mul_right, mul_assoc, pow-add}
use Rattle.std.proofs.Math.Path.{ap₂}
use Prim.Native.Nat.{ℕ, zero, suc, ◌+◌, ◌-◌, ◌*◌, ◌^◌, ◌≤◌, ◌<◌}
use Rattle.std.proofs.Math.Nat.{pow-succ'}
use native.Mathlib.Omega.{arith}
use Rattle.std.proofs.Math.ListN.{length-append}
use Rattle.std.proofs.Math.Pow.{pow_pos}
use Rattle.std.proofs.lemmas.Bool.{lt-leb}
use Rattle.logic.specs.Cases.{less}
use Rattle.routes.specs.Route.{Route, All}
use Rattle.routes.specs.Collect.{own, collect, routes}
use Rattle.laws.specs.Sorted.{all_append, all_map}
use Rattle.laws.specs.Collect.{dbl}
use Rattle.inside.specs.Inside.{inside}
use Rattle.inside.specs.Held.{inside-append, inside_all, inside_none, is_inside}
use Rattle.inside.proofs.Held.{is_before, is_after}
use Rattle.inside.specs.Below.{collect_box, pow_split, own_out}

module _ (W : ℕ) (f : ℕ → ℕ → ℕ) (l' e v' : ℕ) (bits : l' + e ≡ W) where
  abbrev a : ℕ
  a = v' * 2 ^ e

  -- what ends before the prefix, and what starts after it
  before : (d v l m : ℕ) → m + e ≡ d → (v + 1) * 2 ^ m ≤ v' → inside W (collect f d v l) a l' ≡ 0
  before d v l m p h =
      let g = pow_split m e d p (v + 1) in
      let k = mul-le-mul_right (2 ^ e) h in
      inside_none W a l' (collect f d v l)
      (all_map _ _ (λ r b. is_before W l' e v' bits r (omega (arith, b.under, g, k))) (collect f d v l) (collect_box f d v l))

  after : (d v l m : ℕ) → m + e ≡ d → v' < v * 2 ^ m → inside W (collect f d v l) a l' ≡ 0
  after d v l m p h =
      let g = pow_split m e d p v in
      let k = mul-le-mul_right (2 ^ e) h in
      inside_none W a l' (collect f d v l)
      (all_map _ _ (λ r b. is_after W l' e v' bits r (omega (arith, b.from, g, k))) (collect f d v l) (collect_box f d v l))

  -- the prefix itself
  self : inside W (collect f e v' l') a l' ≡ length (collect f e v' l')
  self =
      inside_all W a l' (collect f e v' l')
      (all_map _ _ (λ r b. is_inside W l' e v' bits r b.long b.from b.under) (collect f e v' l') (collect_box f e v' l'))

  -- the prefix lies m bits below v
  collect-inside : (d v l m : ℕ) → m + e ≡ d → l + m ≡ l' → v * 2 ^ m ≤ v' → v' < (v + 1) * 2 ^ m
      → inside W (collect f d v l) a l' ≡ length (collect f e v' l')
  unfolding collect
  collect-inside d v l zero p q h h' =
      let ev : v ≡ v' = omega arith in
      let el : l ≡ l' = omega arith in
      let ed : d ≡ e = omega arith in
      rw (ev, el, ed) self
  collect-inside zero v l (suc m) p q h h' = absurd (omega arith)
  collect-inside (suc d) v l (suc m) p q h h' =
      let p' : m + e ≡ d = omega arith in
      let low = collect f d (2 * v) (suc l) in
      let high = collect f d (2 * v + 1) (suc l) in
      inside-append W a l' (own (suc d) v l (f v l)) _
      ∙ ap₂ ◌+◌ (own_out W (suc d) v l (f v l) a l' (omega arith))
      (inside-append W a l' low high)
      ∙ less v' ((2 * v + 1) * 2 ^ m)
      (λ t _.
      (let n = collect-inside d (2 * v) (suc l) m p' (omega arith) (omega (arith, dbl v m)) t in
      rw (after d (2 * v + 1) (suc l) m p' t, n) (omega arith)))
      (λ t _.
      (let n = collect-inside d (2 * v + 1) (suc l) m p' (omega arith) t (omega (arith, dbl v m, pow-succ' 2 m)) in
      rw (before d (2 * v) (suc l) m p' t, n) (omega arith)))

-- of all that is held
pub routes-inside : (W : ℕ) (f : ℕ → ℕ → ℕ) (v l : ℕ) → l ≤ W → v < 2 ^ l
    → inside W (routes W f) (v * 2 ^ (W - l)) l ≡ length (collect f (W - l) v l)
unfolding routes
routes-inside W f v l h b =
    let e : l + (W - l) ≡ W = omega arith in
    collect-inside W f l (W - l) v e W 0 0 l e (omega arith) (omega arith) (omega arith)
