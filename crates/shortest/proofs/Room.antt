-- The list that is chosen needs no more arrays than the list that it is for: a prefix that gets a route has a longer one held in
-- its other half or in itself, which stands in the same array. So a cleared table of the same room takes it. Assumes nothing.
use Rattle.std.specs.Prelude.{◌≡◌, false, ltb, eqb, length}
use Rattle.std.proofs.Common.{sym, ◌∙◌}
use Rattle.std.proofs.Math.Path.{ap}
use Rattle.std.proofs.Math.Bool.{true}
use Rattle.std.proofs.lemmas.Bool.{false≢true}
use mathlib.Core.List.{List, [], ◌∷◌}
use Prim.Native.Nat.{ℕ, zero, suc, ◌+◌, ◌-◌, ◌*◌, ◌/◌, ◌^◌, ◌≤◌, ◌<◌}
use Rattle.std.proofs.Math.Nat.{pow-succ'}
use native.Mathlib.Omega.{arith}
use Rattle.std.proofs.Math.Pow.{shr-shr}
use borrow.Author.Tests.{lt-ltb, ltb-true, eq-eqb, eqb-true}
use Rattle.logic.specs.Bools.{and_to, or_left, or_right, or_case}
use Rattle.logic.specs.Cases.{bool, same}
use Rattle.routes.specs.Route.{Route, All, held}
use Rattle.routes.specs.Room.{mem, heads, need}
use Rattle.routes.specs.Collect.{collect}
use Rattle.laws.specs.Longest.{Wfs}
use Rattle.laws.specs.Heads.{Below, heads_out}
use Rattle.laws.specs.Room.{has_head, mem-heads, HeadsWithin, need_le}
use Rattle.shortest.specs.Shortest.{forwards}
use Rattle.shortest.specs.Chosen.{chosen, shortest}
use Rattle.shortest.specs.Inside.{in_low}
use Rattle.shortest.specs.Least.{some, collect_one, collect_more}
use Rattle.shortest.proofs.Leaf.{chosen_leaf}
use Rattle.shortest.specs.Flat.{longer_b, holds_b, flat-set}
use Rattle.shortest.specs.Proved.{Upto, forwards_some, forwards-upto}

-- ---- a longer route in a prefix has its first bits

module _ (W d v l n z : ℕ) (q : W - n ≡ d + (l - n)) (some : n ≤ l) (e : v / 2 ^ (l - n) ≡ z) where
  longer_head : (r : Route) → longer_b d v l r ≡ true → has_head W n z r ≡ true
  unfolding has_head
  longer_head r t =
      let b = and_to (ltb l r.len) (eqb (r.addr / 2 ^ d) v) t in
      let h = ltb-true l r.len b.0 in
      let i : r.addr / 2 ^ d ≡ v = eqb-true (r.addr / 2 ^ d) v b.1 in
      let k : r.addr / 2 ^ (W - n) ≡ z =
      rw q (sym (shr-shr r.addr d (l - n)) ∙ ap (λ (x : ℕ). x / 2 ^ (l - n)) i ∙ e) in
      rw (lt-ltb n r.len (omega arith), eq-eqb (r.addr / 2 ^ (W - n)) z k)

  held_head : (rs : List Route) → holds_b rs d v l ≡ true → mem z (heads W n rs) ≡ true
  unfolding holds_b
  held_head [] t = absurd (false≢true t)
  held_head (r ∷ rs) t =
      mem-heads W n z r rs
      ∙ or_case (longer_b d v l r) (holds_b rs d v l) t
      (λ x. or_left (has_head W n z r) (mem z (heads W n rs)) (longer_head r x))
      (λ x. or_right (has_head W n z r) (mem z (heads W n rs)) (held_head rs x))

-- ---- nothing chosen, nothing there

none_here : (h : ℕ) → some h ≡ 0 → h ≡ 0
none_here zero e = e
none_here (suc h) e = absurd (omega arith)

collect_first : (f : ℕ → ℕ → ℕ) (d v l : ℕ) → collect f d v l ≡ [] → f v l ≡ 0
collect_first f zero v l e = none_here (f v l) (sym (collect_one f v l) ∙ ap length e)
collect_first f (suc d) v l e =
    let z = collect_more f d v l in
    let n : length (collect f (suc d) v l) ≡ 0 = ap length e in
    none_here (f v l) (omega arith)

-- ---- the heads

module _ (N W : ℕ) (w : W < 256) (rs : List Route) (f : Wfs W rs) (p : 1 ≤ held rs 0 0) (u : All (Upto N) rs) where
  abbrev G : ℕ → ℕ
  G = forwards W rs

  -- a half of a prefix in which no longer one is held gets no route
  half_none : (d v l y : ℕ) → l + suc d ≡ W → v < 2 ^ l → holds_b rs (suc d) v l ≡ false → y ≤ 1
      → chosen N W G (2 * v + y) (suc l) ≡ 0
  half_none d v l y e b t h =
      let k = chosen_leaf N W G d v l e
      (λ a i. (let c = in_low W (suc d) v l a e b i in (forwards_some W a rs w f p c, forwards-upto N W a rs u)))
      (flat-set W w rs f (suc d) v l e b t).1 in
      same y 0
      (λ q _. (let o : 2 * v + y ≡ 2 * v = omega arith in
      rw o (collect_first (chosen N W G) d (2 * v) (suc l) k.0)))
      (λ q _. (let o : y ≡ 1 = omega arith in
      rw o (collect_first (chosen N W G) d (2 * v + 1) (suc l) k.1)))

  heads_within : HeadsWithin W rs (shortest N W rs)
  unfolding shortest
  heads_within n z m = of (heads_out W n z (chosen N W G) w m)
    where
      of : Below W n z (chosen N W G) → mem z (heads W n rs) ≡ true
      of b = go b.l b.long b.fits b.small b.head b.held
        where
          go : (l : ℕ) → n < l → l ≤ W → b.v < 2 ^ l → b.v / 2 ^ (l - n) ≡ z → 0 < chosen N W G b.v l
              → mem z (heads W n rs) ≡ true
          go zero x y c h k = absurd (omega arith)
          go (suc l) x y c h k =
              let v = b.v / 2 in
              let d = W - suc l in
              let e : l + suc d ≡ W = omega arith in
              let v_low : v < 2 ^ l = omega (arith, pow-succ' 2 l) in
              let q : W - n ≡ suc d + (l - n) = omega arith in
              let i : 1 + (l - n) ≡ suc l - n = omega arith in
              let v_head : v / 2 ^ (l - n) ≡ z = shr-shr b.v 1 (l - n) ∙ ap (λ (m : ℕ). b.v / 2 ^ m) i ∙ h in
              bool (holds_b rs (suc d) v l)
              (λ t. held_head W (suc d) v l n z q (omega arith) v_head rs t)
              (λ t.
              let o : 2 * v + (b.v - 2 * v) ≡ b.v = omega arith in
              let r = rw o at (half_none d v l (b.v - 2 * v) e v_low t (omega arith)) in
              absurd (omega arith))

  pub shortest_room : need W (shortest N W rs) ≤ need W rs
  shortest_room = need_le W rs (shortest N W rs) heads_within (W / 8 - 1)
