-- How many arrays a route's path lacks is how many more the list with it needs. Assumes nothing.
use Rattle.std.specs.Prelude.{◌≡◌, ◌⊎◌, cond, List, eqb}
use Rattle.std.proofs.Math.Path.{refl, sym, ap, ap₂}
use Rattle.std.proofs.Common.{◌∙◌, mul-div_cancel, zero-add, pow_pos}
use Rattle.std.proofs.Math.Logic.{⊎_elim}
use Prim.Native.Nat.{ℕ, zero, suc, ◌+◌, ◌-◌, ◌*◌, ◌/◌, ◌^◌, ◌≤◌, ◌<◌}
use native.Mathlib.Omega.{arith}
use Rattle.std.proofs.Math.Pow.{shr-shr, shr_lt, high}
use borrow.Author.Tests.{eq-eqb, ne_eqb, lt-ltb, le-ltb}
use Rattle.logic.specs.Cases.{same, bool}
use Rattle.routes.specs.Route.{Route, insert}
use Rattle.laws.specs.Collect.{routes_goods}
use Rattle.routes.specs.Collect.{routes, route_of}
use Rattle.routes.specs.Room.{mem, heads, need_to}
use Rattle.laws.specs.Room.{new_to, need-insert}
use Rattle.laws.specs.Heads.{heads_in, heads_out}
use Rattle.tree.specs.Arrays.{Arrays, node, held}
use Rattle.tree.specs.Shape.{Shape, Filled}
use Rattle.tree.specs.Need.{below, above, node-above}
use Rattle.tree.specs.Tree.{node-up}

-- arrays that are not there on the path to the first 8 * k bits v
unfoldable pub missing : Arrays → ℕ → ℕ → ℕ
missing t v zero = 0
missing t v (suc k) = missing t (v / 256) k + cond (eqb (node t v (suc k)) 0) 1 0

module _ (A L : ℕ) (t : Arrays) (s : Shape A L t) (full : Filled A t 0) where
  abbrev rs : List Route
  rs = routes (8 * L) (held t)

  wide : 8 * L < 256
  wide = omega (arith, s.levels)

  -- there is an array for a head exactly where a route has it
  head_node : (k z : ℕ) → 1 ≤ k → k < L → z < 2 ^ (8 * k)
      → ◌≡◌ {A = ℕ} (cond (mem z (heads (8 * L) (8 * k) (routes (8 * L) (held t)))) 0 1) (cond (eqb (node t z k) 0) 1 0)
  head_node k z h w b =
      same (node t z k) 0
      (λ q e. bool (mem z (heads (8 * L) (8 * k) rs))
      (λ m. absurd (omega (arith, above A L t s (8 * L) k z h (heads_out (8 * L) (8 * k) z (held t) wide m))))
      (λ m. rw (e, m)))
      (λ q e. rw (e, heads_in (8 * L) (8 * k) z (held t) wide (below A L t s full (L - k) k z h (omega arith) (omega arith) b)))

  -- a route of level k, its first 8 * k bits being q
  module _ (q k d x h : ℕ) (deep : d ≤ 8) (own : (1 ≤ d) ⊎ (k ≡ 0)) (top : k < L) (head : q < 2 ^ (8 * k))
      (small : x < 2 ^ d) where
    abbrev r : Route
    r = route_of (8 * L - (8 * k + d)) (q * 2 ^ d + x) (8 * k + d) h

    -- its first 8 * j bits
    bits : (j : ℕ) → j ≤ k → r.addr / 2 ^ (8 * L - 8 * j) ≡ q / 2 ^ (8 * (k - j))
    bits j w =
        let e : 8 * L - 8 * j ≡ (8 * L - (8 * k + d)) + (d + 8 * (k - j)) = omega arith in
        rw e (sym (shr-shr r.addr (8 * L - (8 * k + d)) (d + 8 * (k - j)))
        ∙ ap (λ (z : ℕ). z / 2 ^ (d + 8 * (k - j))) (mul-div_cancel (q * 2 ^ d + x) (pow_pos (8 * L - (8 * k + d))))
        ∙ sym (shr-shr (q * 2 ^ d + x) d (8 * (k - j)))
        ∙ ap (λ (z : ℕ). z / 2 ^ (8 * (k - j))) (high q d small))

    new_to_fact : (j : ℕ) → j ≤ k → new_to (8 * L) j r rs ≡ missing t (q / 2 ^ (8 * (k - j))) j
    unfolding missing
    new_to_fact zero w = refl
    new_to_fact (suc j) w =
        let z = q / 2 ^ (8 * (k - suc j)) in
        let e : 8 * (k - suc j) + 8 ≡ 8 * (k - j) = omega arith in
        let f : q / 2 ^ (8 * (k - suc j)) / 256 ≡ q / 2 ^ (8 * (k - j)) = shr-shr q (8 * (k - suc j)) 8
        ∙ ap (λ (n : ℕ). q / 2 ^ n) e in
        let o : 1 ≤ d = ⊎_elim (λ (y : 1 ≤ d). y) (λ (y : k ≡ 0). absurd (omega arith)) own in
        let g : 8 * suc j + 8 * (k - suc j) ≡ 8 * k = omega arith in
        let b : z < 2 ^ (8 * suc j) = shr_lt (8 * suc j) (8 * (k - suc j)) (rw g head) in
        ap₂ ◌+◌ (new_to_fact j (omega arith) ∙ ap (λ (n : ℕ). missing t n j) (sym f))
        (rw (lt-ltb (8 * suc j) (8 * k + d) (omega arith), bits (suc j) w) (head_node (suc j) z (omega arith) (omega arith) b))

    new_past : (m : ℕ) → new_to (8 * L) (m + k) r rs ≡ new_to (8 * L) k r rs
    new_past zero = rw (zero-add k)
    new_past (suc m) =
        let e : suc m + k ≡ suc (m + k) = omega arith in
        rw (e, le-ltb (8 * suc (m + k)) (8 * k + d) (omega arith)) (omega (arith, new_past m))

    -- the list with the route needs the missing arrays more
    pub need_more : (J : ℕ) → L ≡ suc J → 0 < h → need_to (8 * L) J (insert r rs) ≡ need_to (8 * L) J rs + missing t q k
    need_more J e p =
        let a : J - k + k ≡ J = omega arith in
        let b : k - k ≡ 0 = omega arith in
        let c : q / 1 ≡ q = omega arith in
        need-insert (8 * L) J r rs (record { pos = p; short = omega (arith, wide) }) (routes_goods (8 * L) wide (held t))
        ∙ ap (λ (n : ℕ). need_to (8 * L) J rs + n)
        (ap (λ (n : ℕ). new_to (8 * L) n r rs) (sym a) ∙ new_past (J - k) ∙ new_to_fact k (omega arith)
        ∙ ap (λ (n : ℕ). missing t (q / 2 ^ (8 * n)) k) b ∙ ap (λ (n : ℕ). missing t n k) c)

-- ---- the deepest array of a path tells how many are missing

module _ (A L : ℕ) (t : Arrays) (s : Shape A L t) where
  pub missing_none : (k v : ℕ) → 1 ≤ node t v k → missing t v k ≡ 0
  unfolding missing
  missing_none zero v p = refl
  missing_none (suc k) v p = rw (ne_eqb (node t v (suc k)) 0 (λ e. omega arith), missing_none k (v / 256) (node-up A L t s v k p))

  missing_past : (m k v : ℕ) → node t (v / 2 ^ (8 * m)) k ≡ 0 → missing t v (m + k) ≡ missing t (v / 2 ^ (8 * m)) k + m
  unfolding missing
  missing_past zero k v z =
      let e : v / 1 ≡ v = omega arith in
      let f : 0 + k ≡ k = omega arith in
      rw (e, f) (omega arith)
  missing_past (suc m) k v z =
      let e : suc m + k ≡ suc (m + k) = omega arith in
      let f : 8 * suc m ≡ 8 + 8 * m = omega arith in
      let g : v / 2 ^ (8 * suc m) ≡ v / 256 / 2 ^ (8 * m) = ap (λ (n : ℕ). v / 2 ^ n) f ∙ sym (shr-shr v 8 (8 * m)) in
      let y : node t (v / 256 / 2 ^ (8 * m)) k ≡ 0 = rw g at z in
      let o : node t v (suc (m + k)) ≡ 0 = same (node t v (suc (m + k))) 0 (λ q _. q)
      (λ q _. absurd (omega (arith, node-above A L t s m (v / 256) k (node-up A L t s v (m + k) (omega arith))))) in
      rw (e, g, eq-eqb (node t v (suc (m + k))) 0 o) (omega (arith, missing_past m k (v / 256) y))

  -- all levels down to j are there, and none below
  pub missing_depth : (m j v : ℕ) → 1 ≤ node t (v / 2 ^ (8 * suc m)) j → node t (v / 2 ^ (8 * m)) (suc j) ≡ 0
      → missing t v (m + suc j) ≡ suc m
  unfolding missing
  missing_depth m j v p z =
      let f : 8 * suc m ≡ 8 * m + 8 = omega arith in
      let g : v / 2 ^ (8 * suc m) ≡ v / 2 ^ (8 * m) / 256 = ap (λ (n : ℕ). v / 2 ^ n) f ∙ sym (shr-shr v (8 * m) 8) in
      missing_past m (suc j) v z ∙ rw (eq-eqb (node t (v / 2 ^ (8 * m)) (suc j)) 0 z)
      (omega (arith, missing_none j (v / 2 ^ (8 * m) / 256) (rw g at p)))
