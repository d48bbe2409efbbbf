-- The used arrays are as many as the list needs. Assumes nothing.
use Rattle.std.specs.Prelude.{◌≡◌, refl, Bool, true, cond, List, [], ◌∷◌, eqb}
use Rattle.std.proofs.Math.Path.{sym}
use Rattle.std.proofs.Common.{ap, ◌∙◌, ⊎_elim, mul-le-mul_right, le_refl, mod-lt, arith, pow_pos, pow-add, pow_mono, shr-shr}
use Rattle.std.proofs.Common.{shr_lt, eq-eqb, ne_eqb}
use Rattle.std.proofs.Math.Bool.{false}
use Rattle.std.proofs.lemmas.Bool.{false≢true}
use Prim.Native.Nat.{ℕ, zero, suc, ◌+◌, ◌-◌, ◌*◌, ◌/◌, ◌%◌, ◌^◌, ◌≤◌, ◌<◌}
use Rattle.std.proofs.Math.Nat.{pow-succ'}
use Rattle.std.proofs.Math.Pow.{high, low}
use Rattle.logic.specs.Cases.{same, bool, less}
use Rattle.sizes.specs.Sizes.{slot_end, cell_count}
use Rattle.routes.specs.Collect.{routes}
use Rattle.array.specs.Place.{slot_low, slot_high}
use Rattle.routes.specs.Room.{level, mem, distinct, heads, need_to}
use Rattle.logic.specs.Bools.{or_left, or_right}
use Rattle.laws.specs.Room.{distinct-mem}
use Rattle.laws.specs.Heads.{Below, heads_in, heads_out}
use Rattle.tree.specs.Arrays.{Arrays, lev, at, node, depth_of, slot_of, held, used_in}
use Rattle.tree.specs.Shape.{Shape, HasSlot, HasLink, Filled}
use Rattle.tree.specs.Tree.{path, node-level, node_suc, node-up, down_some, reach, used-level, pow8}
use Rattle.tree.proofs.Tree.{node_inj}
use Rattle.tree.specs.Need.{below, above, paths_at, sum_to, path_out, path_in, iff, distinct_paths, used-sum, root_count}

module _ (A L : ℕ) (t : Arrays) (s : Shape A L t) where
  module _ (full : Filled A t 0) where
    -- the arrays of level k are the heads of 8 * k bits
    heads_paths : (k z : ℕ) → 1 ≤ k → k < L → mem z (paths_at t k A) ≡ mem z (heads (8 * L) (8 * k) (routes (8 * L) (held t)))
    heads_paths k z h w =
        iff (mem z (paths_at t k A)) (mem z (heads (8 * L) (8 * k) (routes (8 * L) (held t)))) to from
      where
        wide : 8 * L < 256
        wide = omega (arith, s.levels)

        to : mem z (paths_at t k A) ≡ true → mem z (heads (8 * L) (8 * k) (routes (8 * L) (held t))) ≡ true
        to m =
            let p = path_out t k A z m in
            let r = reach A L t s k p.a p.some p.within p.level in
            let n : 1 ≤ node t z k = rw (← p.is, r.leads) p.some in
            heads_in (8 * L) (8 * k) z (held t) wide
            (below A L t s full (L - k) k z h (omega arith) n (rw (← p.is) r.small))

        from : mem z (heads (8 * L) (8 * k) (routes (8 * L) (held t))) ≡ true → mem z (paths_at t k A) ≡ true
        from m =
            let b = heads_out (8 * L) (8 * k) z (held t) wide m in
            let n = above A L t s (8 * L) k z h b in
            let e : 8 * k + (b.l - 8 * k) ≡ b.l = omega (arith, b.long) in
            let small : z < 2 ^ (8 * k) = rw (← b.head) (shr_lt (8 * k) (b.l - 8 * k) (rw e b.small)) in
            let u = node-level A L t s z k n in
            let r = reach A L t s k (node t z k) u.some u.within (omega (arith, u.level)) in
            let q = (node_inj A L t s k k (path t k (node t z k)) z (rw r.leads n) r.leads r.small small).1 in
            rw q at (path_in t k A (node t z k) u.some u.within (omega (arith, u.level)))

    need_to_fact : (j : ℕ) → j < L → sum_to t (suc j) A ≡ need_to (8 * L) j (routes (8 * L) (held t))
    unfolding need_to
    need_to_fact zero h = omega (arith, (root_count A L t s))
    need_to_fact (suc j) h =
        let e = distinct-mem (paths_at t (suc j) A) (heads (8 * L) (8 * suc j) (routes (8 * L) (held t)))
        (λ z. heads_paths (suc j) z (omega arith) h) in
        omega (arith, need_to_fact j (omega arith), (distinct_paths A L t s) (suc j) A (le_refl A), e)

    -- the arrays used are as many as the list needs
    pub used-need : (J : ℕ) → L ≡ suc J → used_in t 0 A ≡ need_to (8 * L) J (routes (8 * L) (held t))
    used-need J e = used-sum A L t s A (le_refl A) ∙ ap (λ (k : ℕ). sum_to t k A) e ∙ need_to_fact J (omega arith)
