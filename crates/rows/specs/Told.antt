-- The tests tell exactly what is a front. Assumes nothing.
use Rattle.std.specs.Prelude.{◌≡◌, ◌≢◌, Bool, false, cond, not, ◌&&◌, List, [], ◌∷◌, ltb, leb, eqb}
use Rattle.std.proofs.Math.Path.{refl}
use Rattle.std.proofs.Common.{sym, ◌∙◌, true≢false, ne_eqb}
use Rattle.std.proofs.Math.Bool.{true}
use Rattle.std.proofs.lemmas.Bool.{false≢true}
use Prim.Native.Nat.{ℕ, zero, suc, ◌+◌, ◌-◌, ◌/◌, ◌%◌, ◌^◌, ◌≤◌, ◌<◌}
use Rattle.std.proofs.Math.Nat.{le_refl}
use native.Mathlib.Omega.{arith}
use Rattle.std.proofs.Math.ListN.{length}
use borrow.Author.Tests.{ltb-true, ltb-false, leb-true, leb-false, eqb-true, eqb-false, lt-ltb, le-ltb, le-leb, lt-leb, eq-eqb}
use Rattle.logic.specs.Every.{all_b}
use Rattle.logic.specs.Cases.{bool, less, same}
use Rattle.logic.specs.Bools.{not_true, not_false, and_to, and_from}
use Rattle.logic.specs.Reflects.{Reflects, all_to_lem, all_from}
use Rattle.candidates.specs.Keyed.{Ordered, Every}
use Rattle.front.specs.Place.{Mark, placed, key, IsMark, IsPlace}
use Rattle.rows.specs.Row.{Row, none, row_at, mark_of, decode, used, collect, places_of, IsWords, candidate_b, mark_b, after_b}
use Rattle.rows.specs.Row.{empty_b, row_b, front_b}

-- a test that has to fail
stops : (b c : Bool) → cond b false c ≡ true → (b ≡ false) × (c ≡ true)
stops true c e = absurd (false≢true e)
stops false c e = (refl, e)

odd : (x : ℕ) → x % 2 ≢ 0 → eqb (x % 2) 1 ≡ true
odd x n = eq-eqb (x % 2) 1 (omega arith)

even : (x : ℕ) → x % 2 ≡ 0 → eqb (x % 2) 1 ≡ false
even x e = ne_eqb (x % 2) 1 (omega arith)

-- ---- marks

module _ (x k : ℕ) (u : x ≢ 0) where
  mark_to : mark_b x k ≡ true → IsMark (mark_of x k)
  mark_to e =
      let p = stops (ltb 12000 (x / 2)) _ e in
      let q = stops (leb 16777216 k) _ p.1 in
      let low : x / 2 ≤ 12000 = ltb-false 12000 (x / 2) p.0 in
      let small : k < 16777216 = leb-false 16777216 k q.0 in
      same (x % 2) 0
      (λ z d. even_case z (rw d at q.1) small)
      (λ z d. odd_case z (rw d at q.1) low small)
    where
      even_case : x % 2 ≡ 0 → cond (eqb k 0) (leb (x / 2) 3000) false ≡ true → k < 16777216 → IsMark (mark_of x k)
      even_case z t small =
          same k 0
          (λ y d.
          (let h : x / 2 ≤ 3000 = leb-true (x / 2) 3000 (rw d at t) in
          record {
            low = omega arith;
            some = λ _. omega arith;
            calm = λ _. h;
            empty = λ _. y;
            full = λ b _. absurd (false≢true (sym (even x z) ∙ b));
            sound = record { hop = λ w. absurd (omega arith); small = small };
          }))
          (λ y d. absurd (false≢true (rw d at t)))

      odd_case : x % 2 ≢ 0 → cond (eqb k 0) (leb 750 (x / 2)) (not (eqb (k % 65536) 0)) ≡ true → x / 2 ≤ 12000 → k < 16777216
          → IsMark (mark_of x k)
      odd_case z t low small =
          same k 0
          (λ y d.
          (let h : 750 ≤ x / 2 = leb-true 750 (x / 2) (rw d at t) in
          record {
            low = low;
            some = λ b. omega arith;
            calm = λ b. absurd (true≢false (sym (odd x z) ∙ b));
            empty = λ b. absurd (true≢false (sym (odd x z) ∙ b));
            full = λ _ _. h;
            sound = record { hop = λ w. absurd (omega arith); small = small };
          }))
          (λ y d.
          (let h : k % 65536 ≢ 0 = eqb-false (k % 65536) 0 (not_true (eqb (k % 65536) 0) (rw d at t)) in
          record {
            low = low;
            some = λ b. absurd (true≢false (sym (odd x z) ∙ b));
            calm = λ b. absurd (true≢false (sym (odd x z) ∙ b));
            empty = λ b. absurd (true≢false (sym (odd x z) ∙ b));
            full = λ _ w. absurd (y w);
            sound = record { hop = λ w. omega arith; small = small };
          }))

  mark_from : IsMark (mark_of x k) → mark_b x k ≡ true
  mark_from o =
      rw (le-ltb 12000 (x / 2) o.low, lt-leb 16777216 k o.sound.small)
      (same (x % 2) 0
      (λ z d. rw (d, eq-eqb k 0 (o.empty (even x z)), le-leb (x / 2) 3000 (o.calm (even x z))))
      (λ z d. rw d (same k 0
      (λ y t. rw (t, le-leb 750 (x / 2) (o.full (odd x z) y)))
      (λ y t. (let h : 1 ≤ k = omega arith in rw (t, ne_eqb (k % 65536) 0 (omega (arith, o.sound.hop h))))))))

-- ---- candidates

module _ (a w : ℕ) (m : Mark) where
  candidate_to : a < 4294967296 → candidate_b a w ≡ true → IsMark m → IsPlace 32 (placed a (w / 8) (w % 8) m)
  candidate_to i e o =
      let p = stops (ltb 32 (w / 8)) _ e in
      let q = stops (not (eqb (a % 2 ^ (32 - w / 8)) 0)) _ p.1 in
      let r = stops (eqb (w % 8) 0) _ q.1 in
      let z : w % 8 ≢ 0 = eqb-false (w % 8) 0 r.0 in
      record {
        fits = ltb-false 32 (w / 8) p.0;
        inside = i;
        clean = eqb-true (a % 2 ^ (32 - w / 8)) 0 (not_false (eqb (a % 2 ^ (32 - w / 8)) 0) q.0);
        first = omega arith;
        last = leb-true (w % 8) 4 r.1;
        right = o;
      }

  candidate_from : IsPlace 32 (placed a (w / 8) (w % 8) m) → candidate_b a w ≡ true
  candidate_from f =
      rw (
        le-ltb 32 (w / 8) f.fits,
        eq-eqb (a % 2 ^ (32 - w / 8)) 0 f.clean,
        ne_eqb (w % 8) 0 (omega (arith, f.first)),
        le-leb (w % 8) 4 f.last,
      )

-- ---- rows

pub used_some : (r : Row) → used r ≡ true → r.x ≢ 0
used_some r e = eqb-false r.x 0 (not_true (eqb r.x 0) e)

pub used_none : (r : Row) → used r ≡ false → r.x ≡ 0
used_none r e = eqb-true r.x 0 (not_false (eqb r.x 0) e)

is_none : (r : Row) → r.x ≡ 0 → empty_b r ≡ true → r ≡ none
is_none r z e =
    let p = and_to (eqb r.a 0) (eqb r.w 0 && eqb r.k 0) e in
    let q = and_to (eqb r.w 0) (eqb r.k 0) p.1 in
    let a : r.a ≡ 0 = eqb-true r.a 0 p.0 in
    let w : r.w ≡ 0 = eqb-true r.w 0 q.0 in
    let k : r.k ≡ 0 = eqb-true r.k 0 q.1 in
    λ i. record { a = a i; w = w i; x = z i; k = k i }

module _ (g : ℕ → Row) where
  row-used : (i : ℕ) → row_b g i ≡ true → used (g i) ≡ true
      → (candidate_b (g i).a (g i).w && (mark_b (g i).x (g i).k && after_b g i)) ≡ true
  unfolding row_b
  row-used i e u = rw u at e

  row-unused : (i : ℕ) → row_b g i ≡ true → used (g i) ≡ false → empty_b (g i) ≡ true
  unfolding row_b
  row-unused i e u = rw u at e

  pub row-after : (i : ℕ) → row_b g i ≡ true → used (g i) ≡ true → after_b g i ≡ true
  row-after i e u =
      (and_to (mark_b (g i).x (g i).k) (after_b g i) (and_to (candidate_b (g i).a (g i).w)
      (mark_b (g i).x (g i).k && after_b g i) (row-used i e u)).1).1

  -- of the row after i
  pub after_suc : (i : ℕ) → after_b g (suc i) ≡ true → (used (g i) ≡ true) × (key (decode (g i)) < key (decode (g (suc i))))
  after_suc i e =
      let z : suc i - 1 ≡ i = omega arith in
      let t : (used (g i) && ltb (key (decode (g i))) (key (decode (g (suc i))))) ≡ true =
      rw z at (rw (ne_eqb (suc i) 0 (omega arith)) at e) in
      let p = and_to (used (g i)) (ltb (key (decode (g i))) (key (decode (g (suc i))))) t in
      (p.0, ltb-true (key (decode (g i))) (key (decode (g (suc i)))) p.1)

  after_from : (i : ℕ) → used (g i) ≡ true → key (decode (g i)) < key (decode (g (suc i))) → after_b g (suc i) ≡ true
  after_from i u h =
      let z : suc i - 1 ≡ i = omega arith in
      rw (ne_eqb (suc i) 0 (omega arith), z) (and_from (used (g i)) (ltb (key (decode (g i))) (key (decode (g (suc i))))) u
      (lt-ltb (key (decode (g i))) (key (decode (g (suc i)))) h))

  row_from : (i : ℕ) → used (g i) ≡ true → IsPlace 32 (decode (g i)) → after_b g i ≡ true → row_b g i ≡ true
  unfolding row_b
  row_from i u r e =
      rw u
      (and_from (candidate_b (g i).a (g i).w) (mark_b (g i).x (g i).k && after_b g i)
      (candidate_from (g i).a (g i).w (mark_of (g i).x (g i).k) r)
      (and_from (mark_b (g i).x (g i).k) (after_b g i) (mark_from (g i).x (g i).k (used_some (g i) u) r.right) e))

  row_empty : (i : ℕ) → g i ≡ none → row_b g i ≡ true
  unfolding row_b
  row_empty i e = rw e

  -- ---- what is collected

  pub collect_none : (i n : ℕ) → used (g i) ≡ false → collect g i n ≡ []
  unfolding collect
  collect_none i zero e = refl
  collect_none i (suc n) e = rw e

  pub collect_few : (i n : ℕ) → length (collect g i n) ≤ n
  unfolding collect
  collect_few i zero = le_refl 0
  collect_few i (suc n) = bool (used (g i)) (λ e. rw e (omega (arith, collect_few (suc i) n))) (λ e. rw e (omega arith))

  pub collect_stop : (i n : ℕ) → length (collect g i n) < n → used (g (i + length (collect g i n))) ≡ false
  unfolding collect
  collect_stop i zero h = absurd (omega arith)
  collect_stop i (suc n) h =
      bool (used (g i))
      (λ e. (let z : i + suc (length (collect g (suc i) n)) ≡ suc i + length (collect g (suc i) n) = omega arith in rw (e, z)
      (collect_stop (suc i) n (omega (arith, rw e at h)))))
      (λ e. (let z : i + 0 ≡ i = omega arith in rw (e, z) e))

  module _ (N : ℕ) (small : (i : ℕ) → (g i).a < 4294967296) (ok : (i : ℕ) → i < N → row_b g i ≡ true) where
    row_right : (i : ℕ) → i < N → used (g i) ≡ true → IsPlace 32 (decode (g i))
    row_right i h u =
        let p = and_to (candidate_b (g i).a (g i).w) (mark_b (g i).x (g i).k && after_b g i) (row-used i (ok i h) u) in
        let q = and_to (mark_b (g i).x (g i).k) (after_b g i) p.1 in
        candidate_to (g i).a (g i).w (mark_of (g i).x (g i).k) (small i) p.0
        (mark_to (g i).x (g i).k (used_some (g i) u) q.0)

    pub collect_right : (i n : ℕ) → i + n ≤ N → Every (IsPlace 32) (collect g i n)
    unfolding collect
    collect_right i zero h = tt
    collect_right i (suc n) h =
        bool (used (g i)) (λ e. rw e (row_right i (omega arith) e, collect_right (suc i) n (omega arith))) (λ e. rw e tt)

    pub collect_from : (lo i n : ℕ) → i + n ≤ N → (0 < n → used (g i) ≡ true → lo ≤ key (decode (g i)))
        → Ordered key lo (collect g i n)
    unfolding collect
    collect_from lo i zero h k = tt
    collect_from lo i (suc n) h k =
        bool (used (g i))
        (λ e.
        rw e (
          k (omega arith) e,
          collect_from (suc (key (decode (g i)))) (suc i) n (omega arith)
              (λ w u. (after_suc i (row-after (suc i) (ok (suc i) (omega arith)) u)).1),
        ))
        (λ e. rw e tt)

    unused-after : (i d : ℕ) → i + d < N → used (g i) ≡ false → used (g (i + d)) ≡ false
    unused-after i zero h e = (let z : i + 0 ≡ i = omega arith in rw z e)
    unused-after i (suc d) h e =
        let z : i + suc d ≡ suc (i + d) = omega arith in
        rw z
        (bool (used (g (suc (i + d))))
        (λ u. absurd (true≢false (sym (after_suc (i + d) (row-after (suc (i + d)) (ok (suc (i + d)) (omega arith)) u)).0
        ∙ unused-after i d (omega arith) e)))
        (λ u. u))

    pub collect-zeros : (i : ℕ) → length (collect g 0 N) ≤ i → i < N → g i ≡ none
    collect-zeros i h w =
        let z : length (collect g 0 N) + (i - length (collect g 0 N)) ≡ i = omega arith in
        let u : used (g (length (collect g 0 N))) ≡ false =
        (let y : 0 + length (collect g 0 N) ≡ length (collect g 0 N) = omega
        arith in rw y at (collect_stop 0 N (omega arith))) in
        let v : used (g i) ≡ false =
        rw z at (unused-after (length (collect g 0 N)) (i - length (collect g 0 N)) (omega arith) u) in
        is_none (g i) (used_none (g i) v) (row-unused i (ok i w) v)

  -- and back: each row that is collected passes its test
  pub collect-rows : (lo i n : ℕ) → (used (g i) ≡ true → after_b g i ≡ true) → Every (IsPlace 32) (collect g i n)
      → Ordered key lo (collect g i n)
      → (d : ℕ) → d < length (collect g i n) → row_b g (i + d) ≡ true
  unfolding collect
  collect-rows lo i zero k r f d h = absurd (omega arith)
  collect-rows lo i (suc n) k r f zero h =
      (let z : i + 0 ≡ i = omega arith in
      rw z (bool (used (g i)) (λ e. row_from i e (rw e at r).0 (k e)) (λ e. absurd (omega (arith, rw e at h)))))
  collect-rows lo i (suc n) k r f (suc d) h =
      (let z : i + suc d ≡ suc i + d = omega arith in
      rw z (bool (used (g i))
      (λ e. collect-rows (suc (key (decode (g i)))) (suc i) n (λ u. next e u n (rw e at f) (rw e at h)) (rw e at r).1
      (rw e at f).1 d (omega (arith, rw e at h)))
      (λ e. absurd (omega (arith, rw e at h)))))
    where
      next : used (g i) ≡ true → used (g (suc i)) ≡ true → (m : ℕ) → Ordered key lo (decode (g i) ∷ collect g (suc i) m)
          → suc d < suc (length (collect g (suc i) m)) → after_b g (suc i) ≡ true
      next e u zero w t = absurd (omega arith)
      next e u (suc m) w t = after_from i e (rw u at w.1).0

-- ---- the words

module _ (ws : List ℕ) (small : (i : ℕ) → (row_at ws i).a < 4294967296) where
  pub words_to : front_b ws ≡ true → IsWords ws
  unfolding front_b
  words_to e =
      let p = and_to (eqb (length ws) 1024) (all_b (row_b (row_at ws)) 256) e in
      let ok = all_to_lem (row_b (row_at ws)) 256 p.1 in
      record {
        size = eqb-true (length ws) 1024 p.0;
        front = record {
          sorted = collect_from (row_at ws) 256 small ok 0 0 256 (le_refl 256) (λ _ _. omega arith);
          places = collect_right (row_at ws) 256 small ok 0 256 (le_refl 256);
          few = collect_few (row_at ws) 0 256;
        };
        zeros = collect-zeros (row_at ws) 256 small ok;
      }

pub words_from : (ws : List ℕ) → IsWords ws → front_b ws ≡ true
unfolding front_b
words_from ws w =
    and_from (eqb (length ws) 1024) (all_b (row_b (row_at ws)) 256) (eq-eqb (length ws) 1024 w.size)
    (all_from (row_b (row_at ws)) 256 (λ i h.
    less i (length (places_of ws))
    (λ t _. (let z : 0 + i ≡ i = omega arith in rw z at (collect-rows (row_at ws) 0 0 256 (λ _. refl) w.front.places
    w.front.sorted i t)))
    (λ t _. row_empty (row_at ws) i (w.zeros i t h))))

-- the test is the definition
pub front-told : (ws : List ℕ) → ((i : ℕ) → (row_at ws i).a < 4294967296) → Reflects (front_b ws) (IsWords ws)
front-told ws small = record { to = words_to ws small; from = words_from ws }
