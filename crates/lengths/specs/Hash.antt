-- The law of the hash tables: what was put is found, and nothing else. A table is seen as functions of its places. Assumes
-- nothing.
use Rattle.std.specs.Prelude.{◌≡◌, refl, ◌≢◌, Bool, false, cond, List, [], ◌∷◌, eqb}
use Rattle.std.proofs.Common.{sym, ◌∙◌, mod-lt, mul-lt-mul_of_pos_right, lt-ltb, le-ltb, eq-eqb, ne_eqb}
use Rattle.std.proofs.Math.Path.{ap}
use Rattle.std.proofs.Math.Bool.{true, true≢false}
use Prim.Native.Nat.{ℕ, zero, suc, ◌+◌, ◌-◌, ◌*◌, ◌/◌, ◌≤◌, ◌<◌}
use native.Mathlib.Omega.{arith}
use Rattle.routes.specs.Room.{mem, distinct}
use Rattle.logic.specs.Cases.{bool, same, less}
use Rattle.lengths.specs.Way.{Look, miss, hit}
use Rattle.lengths.specs.Layout.{Places, mix, start, place, look_at, probe, find}

-- ---- places

pub start_lt : (v p : ℕ) → 1 ≤ p → start v p < p
unfolding start
start_lt v p h = scaled (mix v) (mod-lt (v * 2654435769) (omega arith))
  where
    scaled : (x : ℕ) → x < 4294967296 → x * p / 4294967296 < p
    scaled x l = let q : x * p < 4294967296 * p = mul-lt-mul_of_pos_right l h in omega (arith, q)

pub place_lt : (s p d : ℕ) → s < p → d < p → place s p d < p
unfolding place
place_lt s p d h k = less (s + d) p (λ u e. rw e u) (λ u e. rw e (omega arith))

-- every place is met
pub record Met (s p i : ℕ) : Type 0 where
  pub steps : ℕ
  pub few : steps < p
  pub there : place s p steps ≡ i

pub place-met : (s p i : ℕ) → s < p → i < p → Met s p i
unfolding place
place-met s p i h k =
    less i s
    (λ u _. record { steps = i + p - s; few = omega arith; there = rw (le-ltb (s + (i + p - s)) p (omega arith)) (omega arith) })
    (λ u _. record { steps = i - s; few = omega arith; there = rw (lt-ltb (s + (i - s)) p (omega arith)) (omega arith) })

-- ---- one place of a probe

hit_not_miss : {b : ℕ} {P : Type 0} → miss ≡ hit b → P
hit_not_miss e = let z : ◌≡◌ {A = ℕ} 0 1 = cc in absurd (omega arith)

-- a probe goes on past a taken place of another value
pass_at : (T : Places) (v j : ℕ) (rest : Look) → T.taken j ≡ true → T.value j ≢ v → look_at T v j rest ≡ rest
pass_at T v j rest e n = rw (e, ne_eqb (T.value j) v n)

-- and ends at a place of its own
own_at : (T : Places) (v j : ℕ) (rest : Look) → T.taken j ≡ true → T.value j ≡ v → look_at T v j rest ≡ hit (T.best j)
own_at T v j rest e n = rw (e, eq-eqb (T.value j) v n)

-- or at a free one
free_at : (T : Places) (v j : ℕ) (rest : Look) → T.taken j ≡ false → look_at T v j rest ≡ miss
free_at T v j rest e = rw e

-- ---- a value that is not there

absent : (T : Places) (p v : ℕ) → 1 ≤ p → ((i : ℕ) → i < p → T.taken i ≡ true → T.value i ≢ v)
    → (n d : ℕ) → d + n ≤ p → probe T p v n d ≡ miss
unfolding probe
absent T p v h other zero d k = refl
absent T p v h other (suc n) d k =
    let j = place (start v p) p d in
    let l : j < p = place_lt (start v p) p d (start_lt v p h) (omega arith) in
    bool (T.taken j)
    (λ t. pass_at T v j _ t (other j l t) ∙ absent T p v h other n (d + 1) (omega arith))
    (λ t. free_at T v j _ t)

-- ---- a place put

-- U is T with the value v and the best match b at the place j, which was free
pub record Puts (T U : Places) (p j v b : ℕ) : Type 0 where
  pub within : j < p
  pub free : T.taken j ≡ false
  pub taken : U.taken j ≡ true
  pub value : U.value j ≡ v
  pub best : U.best j ≡ b
  pub takens : (i : ℕ) → i < p → i ≢ j → U.taken i ≡ T.taken i
  pub values : (i : ℕ) → i < p → i ≢ j → U.value i ≡ T.value i
  pub bests : (i : ℕ) → i < p → i ≢ j → U.best i ≡ T.best i

module _ (T U : Places) (p j v b : ℕ) (s : Puts T U p j v b) where
  one : 1 ≤ p
  one = omega (arith, s.within)

  stay_at : (w x n d i : ℕ) → i < p → (probe T p w n (d + 1) ≡ hit x → probe U p w n (d + 1) ≡ hit x)
      → look_at T w i (probe T p w n (d + 1)) ≡ hit x → look_at U w i (probe U p w n (d + 1)) ≡ hit x
  stay_at w x n d i l ih e =
      same i j
      (λ q _. hit_not_miss (sym (free_at T w i (probe T p w n (d + 1)) (rw q s.free)) ∙ e))
      (λ q _. rw (s.takens i l q, s.values i l q, s.bests i l q) (sort (T.taken i) (eqb (T.value i) w) e))
    where
      sort : (a k : Bool) → cond a (cond k (hit (T.best i)) (probe T p w n (d + 1))) miss ≡ hit x
          → cond a (cond k (hit (T.best i)) (probe U p w n (d + 1))) miss ≡ hit x
      sort true true e = e
      sort true false e = ih e
      sort false k e = e

  -- what was found is found
  stays : (w x n d : ℕ) → d + n ≤ p → probe T p w n d ≡ hit x → probe U p w n d ≡ hit x
  unfolding probe
  stays w x zero d h e = hit_not_miss e
  stays w x (suc n) d h e =
      stay_at w x n d (place (start w p) p d) (place_lt (start w p) p d (start_lt w p one) (omega arith))
      (stays w x n (d + 1) (omega arith)) e

  -- what is put is found, where the places before it on its way are taken by others
  reached : ((i : ℕ) → i < p → T.taken i ≡ true → T.value i ≢ v)
      → (k n d : ℕ) → k < n → d + n ≤ p → place (start v p) p (d + k) ≡ j
      → ((e : ℕ) → d ≤ e → e < d + k → T.taken (place (start v p) p e) ≡ true)
      → probe U p v n d ≡ hit b
  unfolding probe
  reached other k zero d h l e t = absurd (omega arith)
  reached other zero (suc n) d h l e t =
      let q : d + 0 ≡ d = omega arith in
      let z : place (start v p) p d ≡ j = rw q at e in
      rw z (own_at U v j _ s.taken s.value ∙ ap hit s.best)
  reached other (suc k) (suc n) d h l e t =
      let il : place (start v p) p d < p = place_lt (start v p) p d (start_lt v p one) (omega arith) in
      let ti : T.taken (place (start v p) p d) ≡ true = t d (omega arith) (omega arith) in
      let ij : place (start v p) p d ≢ j = λ q. true≢false (sym ti ∙ ap T.taken q ∙ s.free) in
      let q : d + 1 + k ≡ d + suc k = omega arith in
      pass_at U v (place (start v p) p d) _ (s.takens _ il ij ∙ ti) (λ z. other _ il ti (sym (s.values _ il ij) ∙ z))
      ∙ reached other k n (d + 1) (omega arith) (omega arith) (rw q e) (λ x a c. t x (omega arith) (omega arith))

-- ---- how many places are taken

unfoldable pub filled : Places → ℕ → ℕ
filled T zero = 0
filled T (suc p) = cond (T.taken p) (suc (filled T p)) (filled T p)

pub record Room (T : Places) (p : ℕ) : Type 0 where
  pub at : ℕ
  pub within : at < p
  pub free : T.taken at ≡ false

-- with fewer than p taken, one of p is free
pub room_left : (T : Places) (p : ℕ) → filled T p < p → Room T p
unfolding filled
room_left T zero h = absurd (omega arith)
room_left T (suc p) h =
    bool (T.taken p)
    (λ e. wider (room_left T p (omega (arith, rw e at h))))
    (λ e. record { at = p; within = omega arith; free = e })
  where
    wider : Room T p → Room T (suc p)
    wider r = record { at = r.at; within = omega (arith, r.within); free = r.free }

filled_same : (T U : Places) (p : ℕ) → ((i : ℕ) → i < p → U.taken i ≡ T.taken i) → filled U p ≡ filled T p
unfolding filled
filled_same T U zero e = refl
filled_same T U (suc p) e = rw (e p (omega arith), filled_same T U p (λ i h. e i (omega arith)))

filled_put : (T U : Places) (j p : ℕ) → j < p → T.taken j ≡ false → U.taken j ≡ true
    → ((i : ℕ) → i < p → i ≢ j → U.taken i ≡ T.taken i) → filled U p ≡ suc (filled T p)
unfolding filled
filled_put T U j zero h f t e = absurd (omega arith)
filled_put T U j (suc p) h f t e =
    same p j
    (λ q _. (let a : T.taken p ≡ false = ap T.taken q ∙ f in
    let c : U.taken p ≡ true = ap U.taken q ∙ t in
    rw (a, c, filled_same T U p (λ i l. e i (omega arith) (λ z. omega arith)))))
    (λ q _. rw (e p (omega arith) q, filled_put T U j p (omega arith) f t (λ i l n. e i (omega arith) n))
    (pull (T.taken p) (filled T p)))
  where
    pull : (b : Bool) (n : ℕ) → cond b (suc (suc n)) (suc n) ≡ suc (cond b (suc n) n)
    pull true n = refl
    pull false n = refl

filled_none : (T : Places) (p : ℕ) → ((i : ℕ) → i < p → T.taken i ≡ false) → filled T p ≡ 0
unfolding filled
filled_none T zero e = refl
filled_none T (suc p) e = rw (e p (omega arith)) (filled_none T p (λ i h. e i (omega arith)))

-- ---- a table that holds the values xs, each with its best match

pub record Holds (T : Places) (p : ℕ) (B : ℕ → ℕ) (xs : List ℕ) : Type 0 where
  pub own : (i : ℕ) → i < p → T.taken i ≡ true → find T p (T.value i) ≡ hit (T.best i)
  pub finds : (w : ℕ) → find T p w ≡ cond (mem w xs) (hit (B w)) miss
  pub count : filled T p ≡ distinct xs

probe_none : (T : Places) (p w d : ℕ) → probe T p w 0 d ≡ miss
unfolding probe
probe_none T p w d = refl

-- free places hold nothing
pub holds_none : (T : Places) (p : ℕ) (B : ℕ → ℕ) → ((i : ℕ) → i < p → T.taken i ≡ false) → Holds T p B []
holds_none T p B z =
    record {
      own = λ i h t. absurd (true≢false (sym t ∙ z i h));
      finds = λ w. none w p z;
      count = filled_none T p z;
    }
  where
    none : (w p : ℕ) → ((i : ℕ) → i < p → T.taken i ≡ false) → find T p w ≡ miss
    none w p z = less 0 p
        (λ h _. absent T p w h (λ i l t. absurd (true≢false (sym t ∙ z i l))) p 0 (omega arith))
        (λ h _. (let e : p ≡ 0 = omega arith in rw e (probe_none T 0 w 0)))

-- a value that is there already
pub holds_again : (T : Places) (p : ℕ) (B : ℕ → ℕ) (xs : List ℕ) (v : ℕ) → Holds T p B xs → mem v xs ≡ true
    → Holds T p B (v ∷ xs)
holds_again T p B xs v h e =
    record {
      own = h.own;
      finds = λ w. h.finds w ∙ same v w (λ q d. rw (d, ← q, e)) (λ q d. rw d);
      count = h.count ∙ rw e;
    }

-- a value that is not there is at no place
elsewhere : (T : Places) (p : ℕ) (B : ℕ → ℕ) (xs : List ℕ) (v : ℕ) → Holds T p B xs → mem v xs ≡ false → (i : ℕ) → i < p
    → T.taken i ≡ true → T.value i ≢ v
elsewhere T p B xs v h e i l t q =
    hit_not_miss (sym (h.finds (T.value i) ∙ rw (q, e)) ∙ h.own i l t)

-- the way to a free place: those before it are taken
pub record Free (T : Places) (p v j : ℕ) : Type 0 where
  pub steps : ℕ
  pub few : steps < p
  pub there : place (start v p) p steps ≡ j
  pub free : T.taken j ≡ false
  pub before : (e : ℕ) → e < steps → T.taken (place (start v p) p e) ≡ true

-- a value put
pub holds_put : (T U : Places) (p j : ℕ) (B : ℕ → ℕ) (xs : List ℕ) (v : ℕ) → Holds T p B xs → mem v xs ≡ false
    → Free T p v j → Puts T U p j v (B v) → Holds U p B (v ∷ xs)
holds_put T U p j B xs v h e f s =
    let one : 1 ≤ p = omega (arith, f.few) in
    let away = elsewhere T p B xs v h e in
    let new : find U p v ≡ hit (B v) =
    reached T U p j v (B v) s away f.steps p 0 f.few (omega arith) (at_steps f.steps j f.there)
    (λ x a c. f.before x (omega arith)) in
    record {
      own = λ i l t. same i j
          (λ q _. rw (q, s.value, s.best) new)
          (λ q _. (let w : T.taken i ≡ true = sym (s.takens i l q) ∙ t in
          rw (s.values i l q, s.bests i l q)
          (stays T U p j v (B v) s (T.value i) (T.best i) p 0 (omega arith) (h.own i l w))));
      finds = λ w. same v w
          (λ q d. rw (d, ← q) new)
          (λ q d. rw d (bool (mem w xs)
          (λ z. rw z (stays T U p j v (B v) s w (B w) p 0 (omega arith) (h.finds w ∙ rw z)))
          (λ z. rw z (absent U p w one (λ i l t. same i j
          (λ a _ y. q (sym (ap U.value a ∙ s.value) ∙ y))
          (λ a _ y. elsewhere T p B xs w h z i l (sym (s.takens i l a) ∙ t) (sym (s.values i l a) ∙ y)))
          p 0 (omega arith)))));
      count = filled_put T U j p s.within s.free s.taken s.takens ∙ rw (e, h.count);
    }
  where
    at_steps : (i k : ℕ) → place (start v p) p i ≡ k → place (start v p) p (0 + i) ≡ k
    at_steps i k e = let q : 0 + i ≡ i = omega arith in rw q e
