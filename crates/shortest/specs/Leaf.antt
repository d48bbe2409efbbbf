-- Prefixes inside which nothing is held, so that one hop serves all of their addresses. Assumes nothing.
use Rattle.std.specs.Prelude.{◌≡◌, refl, ℕ, zero, suc, ◌+◌, ◌*◌, ◌<◌, length}
use Rattle.std.proofs.Common.{sym, ap, ◌∙◌, arith, ne_eqb}
use Rattle.std.specs.Int.Bits.{and_self}
use Rattle.routes.specs.Collect.{collect}
use Rattle.shortest.specs.HopSet.{only, only_pos}
use Rattle.shortest.specs.Chosen.{meet, set_of}
use Rattle.shortest.specs.Inside.{apart, cost, carried, In, in_left, in_right, in_head, in_half}
use Rattle.shortest.specs.Least.{some, collect_one, collect_more}

-- ---- one hop for all addresses

meet_self : (x : ℕ) → 0 < x → (meet x x ≡ x) × (apart x x ≡ 0)
meet_self x p = rw (and_self x, ne_eqb x 0 (λ e. omega arith)) (refl, refl)

pub one_hop : (G : ℕ → ℕ) (h d v : ℕ) → ((a : ℕ) → In d v a → G a ≡ h) → (set_of G d v ≡ only h) × (cost G d v ≡ 0)
unfolding set_of cost
one_hop G h zero v u = (ap only (u v (record { from = omega arith; to = omega arith })), refl)
one_hop G h (suc d) v u =
    let x = one_hop G h d (2 * v) (λ a i. u a (in_left d v a i)) in
    let y = one_hop G h d (2 * v + 1) (λ a i. u a (in_right d v a i)) in
    let m = meet_self (only h) (only_pos h) in
    rw (x.0, y.0) (m.0, omega (arith, x.1, y.1, m.1))

-- ---- nothing held inside a prefix: the hop from above stays

some_none : (h : ℕ) → some h ≡ 0 → h ≡ 0
some_none zero e = refl
some_none (suc h) e = absurd (omega arith)

pub bare-carried : (f : ℕ → ℕ → ℕ) (d v l h : ℕ) → length (collect f d v l) ≡ 0 → (a : ℕ) → In d v a → carried f d l h a ≡ h
unfolding carried
bare-carried f zero v l h e a i =
    let q : a ≡ v = omega (arith, i.from, i.to) in
    let z : f v l ≡ 0 = some_none (f v l) (sym (collect_one f v l) ∙ e) in
    rw (q, z)
bare-carried f (suc d) v l h e a i =
    let c = collect_more f d v l in
    let z : f v l ≡ 0 = some_none (f v l) (omega arith) in
    rw (in_head (suc d) v a i, z)
    (in_half d v a i
    (λ j. bare-carried f d (2 * v) (suc l) h (omega arith) a j)
    (λ j. bare-carried f d (2 * v + 1) (suc l) h (omega arith) a j))
