-- The used arrays are as many as the list needs. Assumes nothing.
use Rattle.std.specs.Prelude.{◌≡◌, refl, Bool, true, cond, List, [], ◌∷◌, eqb}
use Rattle.std.proofs.Math.Path.{sym}
use Rattle.std.proofs.Common.{ap, ◌∙◌, ⊎_elim, mul-le-mul_right, le_refl, mod-lt, arith, pow_pos, pow-add, pow_mono, shr-shr}
use Rattle.std.proofs.Common.{shr_lt, eq-eqb, ne_eqb}
use Rattle.std.proofs.Math.Bool.{false}
use Rattle.std.proofs.lemmas.Bool.{false≢true}
use Prim.Native.Nat.{ℕ, zero, suc, ◌+◌, ◌-◌, ◌*◌, ◌/◌, ◌%◌, ◌^◌, ◌≤◌, ◌<◌}
use Rattle.std.proofs.Math.Nat.{pow-succ'}
use Rattle.std.proofs.Math.Pow.{high, low}
use Rattle.logic.specs.Cases.{same, bool, less}
use Rattle.sizes.specs.Sizes.{slot_end, cell_count}
use Rattle.routes.specs.Collect.{routes}
use Rattle.array.specs.Place.{slot_low, slot_high}
use Rattle.routes.specs.Room.{level, mem, distinct, heads, need_to}
use Rattle.logic.specs.Bools.{or_left, or_right}
use Rattle.laws.specs.Room.{distinct-mem}
use Rattle.laws.specs.Heads.{Below, heads_in, heads_out}
use Rattle.tree.specs.Arrays.{Arrays, lev, at, node, depth_of, slot_of, held, used_in}
use Rattle.tree.specs.Shape.{Shape, HasSlot, HasLink, Filled}
use Rattle.tree.specs.Tree.{path, node-level, node_suc, node-up, down_some, reach, used-level, pow8}

-- ---- a slot's length and value

pub record Binary (s : ℕ) : Type 0 where
  pub d : ℕ
  pub x : ℕ
  pub whole : s ≡ 2 ^ d + x
  pub less : x < 2 ^ d

pub binary : (m s : ℕ) → 1 ≤ s → s ≤ m → Binary s
binary zero s h w = absurd (omega arith)
binary (suc m) s h w =
    same s 1
    (λ e _. record { d = 0; x = 0; whole = e; less = omega arith })
    (λ n _. (let u = binary m (s / 2) (omega arith) (omega arith) in
    record {
      d = suc u.d;
      x = 2 * u.x + s % 2;
      whole = omega (arith, u.whole, pow-succ' 2 u.d);
      less = omega (arith, u.less, pow-succ' 2 u.d);
    }))

pub depth_low : (d x s : ℕ) → s ≡ 2 ^ d + x → x < 2 ^ d → 2 ≤ s → 1 ≤ d
depth_low zero x s e h w = absurd (omega arith)
depth_low (suc d) x s e h w = omega arith

pub depth_high : (d x s : ℕ) → s ≡ 2 ^ d + x → s < slot_end → d ≤ 8
depth_high d x s e h = less d 9 (λ l _. omega arith) (λ l _. absurd (omega (arith, pow_mono {i = 9} {j = d} l)))

pub held_at : (t : Arrays) (v k d x : ℕ) → 1 ≤ d → d ≤ 8 → x < 2 ^ d
    → held t (v * 2 ^ d + x) (8 * k + d) ≡ at t (node t v k) (2 ^ d + x)
unfolding held
held_at t v k d x h w b =
    let e : 8 * k + d - 8 * ((8 * k + d - 1) / 8) ≡ d = omega arith in
    let f : (8 * k + d - 1) / 8 ≡ k = omega arith in
    rw (e, f, high v d b, low v d b)

pub at_some : (t : Arrays) (a s : ℕ) → 1 ≤ a → at t a s ≡ t.slot a s
unfolding at
at_some t zero s h = absurd (omega arith)
at_some t (suc a) s h = refl

-- the slot of a prefix is one of those that an array has
pub slot_some : (v l : ℕ) → 1 ≤ slot_of v l
slot_some v l = slot_low (depth_of l) (v % 2 ^ depth_of l) (omega arith) (mod-lt v (pow_pos (depth_of l)))

pub slot_within : (v l : ℕ) → slot_of v l < slot_end
slot_within v l = slot_high (depth_of l) (v % 2 ^ depth_of l) (omega arith) (mod-lt v (pow_pos (depth_of l)))

at_pos : (t : Arrays) (a s : ℕ) → 1 ≤ at t a s → 1 ≤ a
unfolding at
at_pos t zero s h = absurd (omega arith)
at_pos t (suc a) s h = omega arith

-- ---- a used array has a held prefix below it

-- below the children is below
below_up : (W k v i : ℕ) (f : ℕ → ℕ → ℕ) → i < cell_count → Below W (8 * suc k) (v * 256 + i) f → Below W (8 * k) v f
below_up W k v i f h b =
    record {
      v = b.v;
      l = b.l;
      long = omega (arith, b.long);
      fits = b.fits;
      small = b.small;
      head =
          let e : b.l - 8 * k ≡ (b.l - 8 * suc k) + 8 = omega (arith, b.long) in
          rw e (sym (shr-shr b.v (b.l - 8 * suc k) 8) ∙ rw b.head (omega arith));
      held = b.held;
    }

-- a slot of the array of the first 8 * k bits v
below_slot : (L : ℕ) (t : Arrays) (k v : ℕ) → k < L → 1 ≤ node t v k → v < 2 ^ (8 * k) → HasSlot t (node t v k)
    → Below (8 * L) (8 * k) v (held t)
below_slot L t k v w p b z =
    let n = binary slot_end z.s (omega (arith, z.low)) (omega (arith, z.high)) in
    let d = n.d in
    let x = n.x in
    let dl : 1 ≤ d = depth_low d x z.s n.whole n.less z.low in
    let dh : d ≤ 8 = depth_high d x z.s n.whole z.high in
    let q : 8 * k + d - 8 * k ≡ d = omega arith in
    record {
      v = v * 2 ^ d + x;
      l = 8 * k + d;
      long = omega arith;
      fits = omega arith;
      small = omega (arith, pow-add 2 (8 * k) d, mul-le-mul_right (2 ^ d) b, n.less);
      head = rw q (high v d n.less);
      held = rw (held_at t v k d x dl dh n.less, ← n.whole, at_some t (node t v k) z.s p) z.some;
    }

pub node_child : (t : Arrays) (v k i : ℕ) → i < cell_count → 1 ≤ node t v k → node t (v * 256 + i) (suc k) ≡ t.link (node t v k) i
node_child t v k i h p =
    let x : (v * 256 + i) / 256 ≡ v = omega arith in
    let y : (v * 256 + i) % 256 ≡ i = omega arith in
    node_suc t (v * 256 + i) k ∙ rw (x, y) (down_some t (node t v k) i p)

module _ (A L : ℕ) (t : Arrays) (s : Shape A L t) (full : Filled A t 0) where
  pub below : (m k v : ℕ) → 1 ≤ k → k + m ≡ L → 1 ≤ node t v k → v < 2 ^ (8 * k) → Below (8 * L) (8 * k) v (held t)
  below zero k v h e p b =
      let u = node-level A L t s v k p in
      absurd (omega (arith, u.level, (used-level A L t s (node t v k) u.some u.within (omega (arith, u.level))).1))
  below (suc m) k v h e p b =
      let u = node-level A L t s v k p in
      let g : 2 ≤ node t v k = same (node t v k) 1 (λ q _. absurd (omega (arith, s.root, u.level, ap t.tag q)))
      (λ n _. omega arith) in
      ⊎_elim
      (λ (z : HasSlot t (node t v k)). below_slot L t k v (omega arith) p b z)
      (λ (z : HasLink t (node t v k)).
      below_up (8 * L) k v z.i (held t) z.high
      (below m (suc k) (v * 256 + z.i) (omega arith) (omega arith) (rw (node_child t v k z.i z.high p) z.some)
      (omega (arith, pow8 k, z.high))))
      (full (node t v k) g u.within (omega arith) (omega (arith, u.level)))

-- ---- a held prefix has the arrays above it

module _ (A L : ℕ) (t : Arrays) (s : Shape A L t) where
  pub node-above : (m v k : ℕ) → 1 ≤ node t v (m + k) → 1 ≤ node t (v / 2 ^ (8 * m)) k
  node-above zero v k p =
      let e : v / 1 ≡ v = omega arith in
      let f : 0 + k ≡ k = omega arith in
      rw e (rw f at p)
  node-above (suc m) v k p =
      let e : suc m + k ≡ suc (m + k) = omega arith in
      let f : 8 * suc m ≡ 8 + 8 * m = omega arith in
      rw (f, ← (shr-shr v 8 (8 * m))) (node-above m (v / 256) k (node-up A L t s v (m + k) (rw e at p)))

  pub above : (W k z : ℕ) → 1 ≤ k → Below W (8 * k) z (held t) → 1 ≤ node t z k
  unfolding held
  above W k z h b =
      let l = b.l in
      let j = level l in
      let d = depth_of l in
      let m = j - k in
      let e : m + k ≡ j = omega (arith, b.long) in
      let q : 1 ≤ node t (b.v / 2 ^ d) (m + k) = rw e (at_pos t (node t (b.v / 2 ^ d) j) (2 ^ d + b.v % 2 ^ d) b.held) in
      let r : l - 8 * k ≡ d + 8 * m = omega (arith, b.long) in
      rw (← b.head, r, ← (shr-shr b.v d (8 * m))) (node-above m (b.v / 2 ^ d) k q)

-- ---- the paths of the arrays of one level

abbrev pub paths_at : Arrays → ℕ → ℕ → List ℕ
paths_at t k zero = []
paths_at t k (suc n) = cond (eqb (lev t (suc n)) (suc k)) (path t k (suc n) ∷ paths_at t k n) (paths_at t k n)

-- how many of the first n arrays have level k
abbrev count_at : Arrays → ℕ → ℕ → ℕ
count_at t k zero = 0
count_at t k (suc n) = count_at t k n + cond (eqb (lev t (suc n)) (suc k)) 1 0

-- how many of the first n arrays have a level below k
abbrev pub sum_to : Arrays → ℕ → ℕ → ℕ
sum_to t zero n = 0
sum_to t (suc k) n = sum_to t k n + count_at t k n

abbrev hits : ℕ → ℕ → ℕ
hits y zero = 0
hits y (suc k) = hits y k + cond (eqb y (suc k)) 1 0

sum_suc : (t : Arrays) (k n : ℕ) → sum_to t k (suc n) ≡ sum_to t k n + hits (lev t (suc n)) k
sum_suc t zero n = omega arith
sum_suc t (suc k) n = omega (arith, sum_suc t k n)

sum_zero : (t : Arrays) (k : ℕ) → sum_to t k 0 ≡ 0
sum_zero t zero = refl
sum_zero t (suc k) = omega (arith, sum_zero t k)

hits_zero : (k : ℕ) → hits 0 k ≡ 0
hits_zero zero = refl
hits_zero (suc k) = rw (ne_eqb 0 (suc k) (λ e. omega arith)) (omega (arith, hits_zero k))

hits-above : (y k : ℕ) → k < y → hits y k ≡ 0
hits-above y zero h = refl
hits-above y (suc k) h = rw (ne_eqb y (suc k) (λ e. omega arith)) (omega (arith, hits-above y k (omega arith)))

hits_one : (y k : ℕ) → 1 ≤ y → y ≤ k → hits y k ≡ 1
hits_one y zero h w = absurd (omega arith)
hits_one y (suc k) h w =
    same y (suc k)
    (λ q e. rw e (omega (arith, hits-above y k (omega arith))))
    (λ n e. rw e (omega (arith, hits_one y k h (omega arith))))

pub record PathOf (t : Arrays) (k n z : ℕ) : Type 0 where
  pub a : ℕ
  pub some : 1 ≤ a
  pub within : a ≤ n
  pub level : lev t a ≡ suc k
  pub is : path t k a ≡ z

pub path_out : (t : Arrays) (k n z : ℕ) → mem z (paths_at t k n) ≡ true → PathOf t k n z
path_out t k zero z m = absurd (false≢true m)
path_out t k (suc n) z m =
    same (lev t (suc n)) (suc k)
    (λ q e. same (path t k (suc n)) z
    (λ r d. record { a = suc n; some = omega arith; within = omega arith; level = q; is = r })
    (λ r d. more (path_out t k n z (rw (e, d) at m))))
    (λ q e. more (path_out t k n z (rw e at m)))
  where
    more : PathOf t k n z → PathOf t k (suc n) z
    more p = record { a = p.a; some = p.some; within = omega (arith, p.within); level = p.level; is = p.is }

pub path_in : (t : Arrays) (k n a : ℕ) → 1 ≤ a → a ≤ n → lev t a ≡ suc k → mem (path t k a) (paths_at t k n) ≡ true
path_in t k zero a h w e = absurd (omega arith)
path_in t k (suc n) a h w e =
    same a (suc n)
    (λ q _. rw (q, eq-eqb (lev t (suc n)) (suc k) (rw q at e), eq-eqb (path t k (suc n)) (path t k (suc n)) refl))
    (λ q _. bool (eqb (lev t (suc n)) (suc k))
    (λ d. rw d (or_right (eqb (path t k (suc n)) (path t k a)) (mem (path t k a) (paths_at t k n))
    (path_in t k n a h (omega arith) e)))
    (λ d. rw d (path_in t k n a h (omega arith) e)))

pub iff : (a b : Bool) → (a ≡ true → b ≡ true) → (b ≡ true → a ≡ true) → a ≡ b
iff true b f g = sym (f refl)
iff false true f g = g refl
iff false false f g = refl

module _ (A L : ℕ) (t : Arrays) (s : Shape A L t) where
  -- no two of them are equal
  pub distinct_paths : (k n : ℕ) → n ≤ A → distinct (paths_at t k n) ≡ count_at t k n
  distinct_paths k zero w = refl
  distinct_paths k (suc n) w =
      same (lev t (suc n)) (suc k)
      (λ q e. bool (mem (path t k (suc n)) (paths_at t k n))
      (λ m. absurd (twice q (path_out t k n (path t k (suc n)) m)))
      (λ m. rw (e, m) (omega (arith, distinct_paths k n (omega arith)))))
      (λ q e. rw e (omega (arith, distinct_paths k n (omega arith))))
    where
      twice : lev t (suc n) ≡ suc k → PathOf t k n (path t k (suc n)) → ⊥
      twice q p =
          let x = (reach A L t s k p.a p.some (omega (arith, p.within)) p.level).leads in
          let y = (reach A L t s k (suc n) (omega arith) w q).leads in
          let z : p.a ≡ suc n = sym x ∙ ap (λ (u : ℕ). node t u k) p.is ∙ y in
          omega (arith, p.within)

  pub used-sum : (n : ℕ) → n ≤ A → used_in t 0 n ≡ sum_to t L n
  used-sum zero w = sym (sum_zero t L)
  used-sum (suc n) w =
      let f : 0 + suc n ≡ suc n = omega arith in
      same (t.tag (suc n)) 0
      (λ q e. let z : lev t (suc n) ≡ 0 = omega arith in
      rw (f, e, sum_suc t L n, z, hits_zero L) (omega (arith, used-sum n (omega arith))))
      (λ q e. let u = used-level A L t s (suc n) (omega arith) w (omega arith) in
      rw (f, e, sum_suc t L n, hits_one (lev t (suc n)) L u.0 u.1) (omega (arith, used-sum n (omega arith))))

  pub root_count : count_at t 0 A ≡ 1
  unfolding path
  root_count =
      sym (distinct_paths 0 A (le_refl A))
      ∙ distinct-mem (paths_at t 0 A) (0 ∷ []) (λ z.
      iff (mem z (paths_at t 0 A)) (mem z (0 ∷ []))
      (λ m. or_left (eqb 0 z) false (eq-eqb 0 z (path_out t 0 A z m).is))
      (λ m. same 0 z
      (λ e _. rw (← e) (path_in t 0 A 1 (omega arith) s.many (omega (arith, s.root))))
      (λ n e. absurd (false≢true (rw e at m)))))
