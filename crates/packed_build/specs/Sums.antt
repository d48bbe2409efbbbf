-- Sums over the arrays of a tree are sums over the different heads of its list, level by level. Assumes nothing.
--
--     the used arrays 1 .. A ── by levels ── each level's by their paths ── the paths of level k are the heads of 8 * k bits
use Rattle.std.specs.Prelude.{◌≡◌, refl, ◌≢◌, Bool, true, cond, List, [], ◌∷◌, eqb}
use Rattle.std.proofs.Math.Path.{sym, ap}
use Rattle.std.proofs.Common.{◌∙◌, true≢false, le_antisymm, le_refl, shr_lt, eq-eqb, ne_eqb}
use Rattle.std.proofs.Math.Bool.{false}
use Rattle.std.proofs.lemmas.Bool.{false≢true}
use Prim.Native.Nat.{ℕ, zero, suc, ◌+◌, ◌-◌, ◌*◌, ◌^◌, ◌≤◌, ◌<◌}
use native.Mathlib.Omega.{arith}
use Rattle.logic.specs.Cases.{bool, same}
use Rattle.logic.specs.Bools.{or_left, or_right}
use Rattle.routes.specs.Collect.{routes}
use Rattle.routes.specs.Room.{mem, heads}
use Rattle.laws.specs.Heads.{heads_in, heads_out}
use Rattle.tree.specs.Arrays.{Arrays, lev, node, held}
use Rattle.tree.specs.Shape.{Shape, Filled}
use Rattle.tree.specs.Tree.{path, node-level, reach, used-level}
use Rattle.tree.proofs.Tree.{node_inj}
use Rattle.tree.specs.Need.{below, above}
use Rattle.packed_build.specs.Need.{sum_of}

pub iff : (a b : Bool) → (a ≡ true → b ≡ true) → (b ≡ true → a ≡ true) → a ≡ b
iff true b f g = sym (f refl)
iff false true f g = g refl
iff false false f g = refl

-- ---- a sum over a list's different numbers hangs on which they are, and not on their order

module _ (f : ℕ → ℕ) where
  -- xs without z
  abbrev del : ℕ → List ℕ → List ℕ
  del z [] = []
  del z (x ∷ xs) = cond (eqb x z) (del z xs) (x ∷ del z xs)

  mem-del : (z y : ℕ) (xs : List ℕ) → z ≢ y → mem y (del z xs) ≡ mem y xs
  mem-del z y [] n = refl
  mem-del z y (x ∷ xs) n =
      same x z
      (λ q e. rw (e, ne_eqb x y (omega arith)) (mem-del z y xs n))
      (λ m e. rw (e, mem-del z y xs n))

  del_none : (z : ℕ) (xs : List ℕ) → mem z xs ≡ false → del z xs ≡ xs
  del_none z [] h = refl
  del_none z (x ∷ xs) h =
      same x z (λ q e. absurd (true≢false (rw e at h))) (λ n e. rw e (ap (◌∷◌ x) (del_none z xs (rw e at h))))

  sum-del : (z : ℕ) (xs : List ℕ) → mem z xs ≡ true → sum_of f xs ≡ f z + sum_of f (del z xs)
  sum-del z [] h = absurd (false≢true h)
  sum-del z (x ∷ xs) h =
      same x z
      (λ q e. bool (mem z xs)
      (λ m. rw (e, q, m) (sum-del z xs m))
      (λ m. rw (e, q, m, del_none z xs m)))
      (λ n e. rw (e, mem-del z x xs (omega arith), sum-del z xs (rw e at h)) (pull (mem x xs) (f x) (sum_of f (del z xs))))
    where
      pull : (d : Bool) (a m : ℕ) → cond d (f z + m) (a + (f z + m)) ≡ f z + cond d m (a + m)
      pull true a m = refl
      pull false a m = omega arith

  sum_le : (xs ys : List ℕ) → ((z : ℕ) → mem z xs ≡ true → mem z ys ≡ true) → sum_of f xs ≤ sum_of f ys
  sum_le [] ys h = omega arith
  sum_le (x ∷ xs) ys h =
      bool (mem x xs)
      (λ m. rw m (sum_le xs ys (λ z q. h z (or_right (eqb x z) (mem z xs) q))))
      (λ m. rw m (omega (
        arith,
        sum_le xs (del x ys) (λ z q.
            mem-del x z ys (λ e. true≢false (sym q ∙ ap (λ (u : ℕ). mem u xs) (sym e) ∙ m))
            ∙ h z (or_right (eqb x z) (mem z xs) q)),
        sum-del x ys (h x (or_left (eqb x x) (mem x xs) (eq-eqb x x refl))),
      )))

  pub sum-mem : (xs ys : List ℕ) → ((z : ℕ) → mem z xs ≡ mem z ys) → sum_of f xs ≡ sum_of f ys
  sum-mem xs ys h = le_antisymm (sum_le xs ys (λ z m. sym (h z) ∙ m)) (sum_le ys xs (λ z m. h z ∙ m))

-- ---- sums over the arrays 1 .. n

-- of those that are used
unfoldable pub used_sum : Arrays → (ℕ → ℕ) → ℕ → ℕ
used_sum t w zero = 0
used_sum t w (suc n) = used_sum t w n + cond (eqb (t.tag (suc n)) 0) 0 (w (suc n))

-- of those of level k, and of the levels below k
abbrev pub level_sum : Arrays → (ℕ → ℕ) → ℕ → ℕ → ℕ
level_sum t w k zero = 0
level_sum t w k (suc n) = level_sum t w k n + cond (eqb (lev t (suc n)) (suc k)) (w (suc n)) 0

abbrev pub levels_sum : Arrays → (ℕ → ℕ) → ℕ → ℕ → ℕ
levels_sum t w zero n = 0
levels_sum t w (suc k) n = levels_sum t w k n + level_sum t w k n

-- an array of level y - 1 counts once among the levels below k, if it is one of them
abbrev hits : ℕ → ℕ → ℕ → ℕ
hits w y zero = 0
hits w y (suc k) = hits w y k + cond (eqb y (suc k)) w 0

levels_suc : (t : Arrays) (w : ℕ → ℕ) (k n : ℕ)
    → levels_sum t w k (suc n) ≡ levels_sum t w k n + hits (w (suc n)) (lev t (suc n)) k
levels_suc t w zero n = omega arith
levels_suc t w (suc k) n = omega (arith, levels_suc t w k n)

levels_zero : (t : Arrays) (w : ℕ → ℕ) (k : ℕ) → levels_sum t w k 0 ≡ 0
levels_zero t w zero = refl
levels_zero t w (suc k) = omega (arith, levels_zero t w k)

hits-above : (w y k : ℕ) → k < y → hits w y k ≡ 0
hits-above w y zero h = refl
hits-above w y (suc k) h = rw (ne_eqb y (suc k) (λ e. omega arith)) (omega (arith, hits-above w y k (omega arith)))

hits_none : (w k : ℕ) → hits w 0 k ≡ 0
hits_none w zero = refl
hits_none w (suc k) = rw (ne_eqb 0 (suc k) (λ e. omega arith)) (omega (arith, hits_none w k))

hits_one : (w y k : ℕ) → 1 ≤ y → y ≤ k → hits w y k ≡ w
hits_one w y zero h l = absurd (omega arith)
hits_one w y (suc k) h l =
    same y (suc k)
    (λ q e. rw e (omega (arith, hits-above w y k (omega arith))))
    (λ n e. rw e (omega (arith, hits_one w y k h (omega arith))))

-- ---- the paths of level k

abbrev paths_at : Arrays → ℕ → ℕ → List ℕ
paths_at t k zero = []
paths_at t k (suc n) = cond (eqb (lev t (suc n)) (suc k)) (path t k (suc n) ∷ paths_at t k n) (paths_at t k n)

record PathOf (t : Arrays) (k n z : ℕ) : Type 0 where
  a : ℕ
  some : 1 ≤ a
  within : a ≤ n
  level : lev t a ≡ suc k
  is : path t k a ≡ z

path_out : (t : Arrays) (k n z : ℕ) → mem z (paths_at t k n) ≡ true → PathOf t k n z
path_out t k zero z m = absurd (false≢true m)
path_out t k (suc n) z m =
    same (lev t (suc n)) (suc k)
    (λ q e. same (path t k (suc n)) z
    (λ r d. record { a = suc n; some = omega arith; within = omega arith; level = q; is = r })
    (λ r d. more (path_out t k n z (rw (e, d) at m))))
    (λ q e. more (path_out t k n z (rw e at m)))
  where
    more : PathOf t k n z → PathOf t k (suc n) z
    more p = record { a = p.a; some = p.some; within = omega (arith, p.within); level = p.level; is = p.is }

path_in : (t : Arrays) (k n a : ℕ) → 1 ≤ a → a ≤ n → lev t a ≡ suc k → mem (path t k a) (paths_at t k n) ≡ true
path_in t k zero a h w e = absurd (omega arith)
path_in t k (suc n) a h w e =
    same a (suc n)
    (λ q _. rw (q, eq-eqb (lev t (suc n)) (suc k) (rw q at e), eq-eqb (path t k (suc n)) (path t k (suc n)) refl))
    (λ q _. bool (eqb (lev t (suc n)) (suc k))
    (λ d. rw d (or_right (eqb (path t k (suc n)) (path t k a)) (mem (path t k a) (paths_at t k n))
    (path_in t k n a h (omega arith) e)))
    (λ d. rw d (path_in t k n a h (omega arith) e)))

module _ (A L : ℕ) (t : Arrays) (s : Shape A L t) where
  pub used-levels : (w : ℕ → ℕ) (n : ℕ) → n ≤ A → used_sum t w n ≡ levels_sum t w L n
  unfolding used_sum
  used-levels w zero h = sym (levels_zero t w L)
  used-levels w (suc n) h =
      same (t.tag (suc n)) 0
      (λ q e. let z : lev t (suc n) ≡ 0 = omega arith in
      rw (e, levels_suc t w L n, z, hits_none (w (suc n)) L) (omega (arith, used-levels w n (omega arith))))
      (λ q e. let u = used-level A L t s (suc n) (omega arith) h (omega arith) in
      rw (e, levels_suc t w L n, hits_one (w (suc n)) (lev t (suc n)) L u.0 u.1)
      (omega (arith, used-levels w n (omega arith))))

  -- no path comes twice
  level_paths : (f w : ℕ → ℕ) (k : ℕ) → ((a : ℕ) → 1 ≤ a → a ≤ A → lev t a ≡ suc k → w a ≡ f (path t k a))
      → (n : ℕ) → n ≤ A → level_sum t w k n ≡ sum_of f (paths_at t k n)
  level_paths f w k e zero h = refl
  level_paths f w k e (suc n) h =
      same (lev t (suc n)) (suc k)
      (λ q d. bool (mem (path t k (suc n)) (paths_at t k n))
      (λ m. absurd (twice q (path_out t k n (path t k (suc n)) m)))
      (λ m. rw (d, m, e (suc n) (omega arith) h q) (omega (arith, level_paths f w k e n (omega arith)))))
      (λ q d. rw d (omega (arith, level_paths f w k e n (omega arith))))
    where
      twice : lev t (suc n) ≡ suc k → PathOf t k n (path t k (suc n)) → ⊥
      twice q p =
          let x = (reach A L t s k p.a p.some (omega (arith, p.within)) p.level).leads in
          let y = (reach A L t s k (suc n) (omega arith) h q).leads in
          let z : p.a ≡ suc n = sym x ∙ ap (λ (u : ℕ). node t u k) p.is ∙ y in
          omega (arith, p.within)

  -- the root alone has level 0
  root_one : (a : ℕ) → 1 ≤ a → a ≤ A → lev t a ≡ 1 → a ≡ 1
  unfolding node
  root_one a h w e = sym (reach A L t s 0 a h w e).leads

  pub root_sum : (w : ℕ → ℕ) → level_sum t w 0 A ≡ w 1
  unfolding path
  root_sum w =
      level_paths (λ z. w 1) w 0 (λ a h l e. ap w (root_one a h l e)) A (le_refl A)
      ∙ sum-mem (λ z. w 1) (paths_at t 0 A) (0 ∷ []) (λ z.
      iff (mem z (paths_at t 0 A)) (mem z (0 ∷ []))
      (λ m. or_left (eqb 0 z) false (eq-eqb 0 z (path_out t 0 A z m).is))
      (λ m. same 0 z
      (λ e _. rw (← e) (path_in t 0 A 1 (omega arith) s.many (omega (arith, s.root))))
      (λ n e. absurd (false≢true (rw e at m)))))
      ∙ omega arith

  module _ (full : Filled A t 0) where
    -- the arrays of level k are the heads of 8 * k bits
    pub node-heads : (k z : ℕ) → 1 ≤ k → k ≤ L → z < 2 ^ (8 * k) → 1 ≤ node t z k
        → mem z (heads (8 * L) (8 * k) (routes (8 * L) (held t))) ≡ true
    node-heads k z h w l n =
        heads_in (8 * L) (8 * k) z (held t) (omega (arith, s.levels))
        (below A L t s full (L - k) k z h (omega arith) n l)

    pub heads-node : (k z : ℕ) → 1 ≤ k → mem z (heads (8 * L) (8 * k) (routes (8 * L) (held t))) ≡ true
        → (1 ≤ node t z k) × (z < 2 ^ (8 * k))
    heads-node k z h m =
        let b = heads_out (8 * L) (8 * k) z (held t) (omega (arith, s.levels)) m in
        let e : 8 * k + (b.l - 8 * k) ≡ b.l = omega (arith, b.long) in
        (above A L t s (8 * L) k z h b, rw (← b.head) (shr_lt (8 * k) (b.l - 8 * k) (rw e b.small)))

    heads_paths : (k z : ℕ) → 1 ≤ k → k < L → mem z (paths_at t k A) ≡ mem z (heads (8 * L) (8 * k) (routes (8 * L) (held t)))
    heads_paths k z h w =
        iff (mem z (paths_at t k A)) (mem z (heads (8 * L) (8 * k) (routes (8 * L) (held t)))) to from
      where
        to : mem z (paths_at t k A) ≡ true → mem z (heads (8 * L) (8 * k) (routes (8 * L) (held t))) ≡ true
        to m =
            let p = path_out t k A z m in
            let r = reach A L t s k p.a p.some p.within p.level in
            node-heads k z h (omega arith) (rw (← p.is) r.small) (rw (← p.is, r.leads) p.some)

        from : mem z (heads (8 * L) (8 * k) (routes (8 * L) (held t))) ≡ true → mem z (paths_at t k A) ≡ true
        from m =
            let n = heads-node k z h m in
            let u = node-level A L t s z k n.0 in
            let r = reach A L t s k (node t z k) u.some u.within (omega (arith, u.level)) in
            let q = (node_inj A L t s k k (path t k (node t z k)) z (rw r.leads n.0) r.leads r.small n.1).1 in
            rw q at (path_in t k A (node t z k) u.some u.within (omega (arith, u.level)))

    -- a weight that is told by the path
    pub level-heads : (f w : ℕ → ℕ) (k : ℕ) → 1 ≤ k → k < L
        → ((a : ℕ) → 1 ≤ a → a ≤ A → lev t a ≡ suc k → w a ≡ f (path t k a))
        → level_sum t w k A ≡ sum_of f (heads (8 * L) (8 * k) (routes (8 * L) (held t)))
    level-heads f w k h l e =
        level_paths f w k e A (le_refl A)
        ∙ sum-mem f (paths_at t k A) (heads (8 * L) (8 * k) (routes (8 * L) (held t))) (λ z. heads_paths k z h l)
