-- What a row replaced or put in does to the places. Assumes nothing.
use Rattle.std.specs.Prelude.{◌≡◌, ◌≢◌, List, ◌∷◌, length}
use Rattle.std.proofs.Math.Path.{refl}
use Rattle.std.proofs.Common.{sym, ap, ◌∙◌, true≢false}
use Rattle.std.proofs.Math.Bool.{true, false}
use Prim.Native.Nat.{ℕ, zero, suc, ◌+◌, ◌-◌, ◌<◌, ◌≤◌}
use native.Mathlib.Omega.{arith}
use Rattle.std.proofs.Math.Dec.{eqb}
use borrow.Author.Tests.{lt-ltb, le-ltb, eq-eqb, ne_eqb}
use Rattle.logic.specs.Cases.{bool, less, same}
use Rattle.front.specs.Place.{Place, key, is_there, has, mark_at}
use Rattle.candidates.specs.Keyed.{Ordered, put}
use Rattle.rivals.specs.Maps.{find-below}
use Rattle.rows.specs.Row.{Row, row_at, decode, used, collect, places_of}
use Rattle.shelf.specs.Shift.{Holds, replaced, inserted, rank}

-- ---- what is collected depends on the rows only

pub collect_as : (g h : ℕ → Row) (i n : ℕ) → ((j : ℕ) → i ≤ j → j < i + n → g j ≡ h j) → collect g i n ≡ collect h i n
unfolding collect
collect_as g h i zero e = refl
collect_as g h i (suc n) e =
    rw (e i (omega arith) (omega arith), collect_as g h (suc i) n (λ j a b. e j (omega arith) (omega arith)))

pub collect-up : (g h : ℕ → Row) (i n : ℕ) → ((j : ℕ) → i ≤ j → j < i + n → h (suc j) ≡ g j)
    → collect h (suc i) n ≡ collect g i n
unfolding collect
collect-up g h i zero e = refl
collect-up g h i (suc n) e =
    rw (e i (omega arith) (omega arith), collect-up g h (suc i) n (λ j a b. e j (omega arith) (omega arith)))

pub holds_places : (ws : List ℕ) (g : ℕ → Row) → Holds ws g → places_of ws ≡ collect g 0 256
holds_places ws g p = collect_as (row_at ws) g 0 256 (λ j a b. p.rows j (omega arith))

-- the last row of n, where it is not reached
pub collect_less : (g : ℕ → Row) (i n : ℕ) → length (collect g i (suc n)) ≤ n → collect g i n ≡ collect g i (suc n)
unfolding collect
collect_less g i zero h = bool (used (g i)) (λ u. absurd (omega (arith, rw u at h))) (λ u. rw u)
collect_less g i (suc n) h =
    bool (used (g i))
    (λ u. rw u (ap (λ (x : List Place). decode (g i) ∷ x) (collect_less g (suc i) n (omega (arith, rw u at h)))))
    (λ u. rw u)

pub collect_last : (g : ℕ → Row) (i n : ℕ) → used (g (i + n)) ≡ false → collect g i (suc n) ≡ collect g i n
unfolding collect
collect_last g i zero e = (let z : i + 0 ≡ i = omega arith in rw (rw z at e))
collect_last g i (suc n) e =
    (let z : i + suc n ≡ suc i + n = omega arith in
    bool (used (g i))
    (λ u. rw u (ap (λ (x : List Place). decode (g i) ∷ x) (collect_last g (suc i) n (rw z at e))))
    (λ u. rw u))

-- ---- the rank says what stands there

rank_zero : (p : Place) (ps : List Place) (k : ℕ) → rank (p ∷ ps) k ≡ 0 → k ≤ key p
rank_zero p ps k e = less (key p) k (λ l d. absurd (omega (arith, rw d at e))) (λ l d. l)

rank_suc : (p : Place) (ps : List Place) (k d : ℕ) → rank (p ∷ ps) k ≡ suc d → (key p < k) × (rank ps k ≡ d)
rank_suc p ps k d e = less (key p) k (λ l t. (l, omega (arith, rw t at e))) (λ l t. absurd (omega (arith, rw t at e)))

module _ (g : ℕ → Row) (k : ℕ) where
  -- the row of the rank has the candidate
  pub hit : (i n d : ℕ) → rank (collect g i n) k ≡ d → d < n → used (g (i + d)) ≡ true → key (decode (g (i + d))) ≡ k
      → (has (collect g i n) k ≡ true) × (mark_at (collect g i n) k ≡ (decode (g (i + d))).mark)
  unfolding collect
  hit i zero d r h u e = absurd (omega arith)
  hit i (suc n) zero r h u e =
      (let z : i + 0 ≡ i = omega arith in
      let v : used (g i) ≡ true = rw z at u in
      let f : eqb (key (decode (g i))) k ≡ true = eq-eqb (key (decode (g i))) k (rw z at e) in
      rw z (rw (v, f) (refl, refl)))
  hit i (suc n) (suc d) r h u e =
      (let z : i + suc d ≡ suc i + d = omega arith in
      bool (used (g i))
      (λ v.
      (let p = rank_suc (decode (g i)) (collect g (suc i) n) k d (rw v at r) in
      let f : eqb (key (decode (g i))) k ≡ false = ne_eqb (key (decode (g i))) k (omega (arith, p.0)) in
      rw (v, f, z) (hit (suc i) n d p.1 (omega arith) (rw z at u) (rw z at e))))
      (λ v. absurd (omega (arith, rw v at r))))

  -- or it has not, and no row has
  pub miss : (lo i n d : ℕ) → Ordered key lo (collect g i n) → rank (collect g i n) k ≡ d
      → (d < n → used (g (i + d)) ≡ true → key (decode (g (i + d))) ≢ k) → has (collect g i n) k ≡ false
  unfolding collect
  miss lo i zero d f r e = refl
  miss lo i (suc n) zero f r e =
      (let z : i + 0 ≡ i = omega arith in
      bool (used (g i))
      (λ v.
      (let q : key (decode (g i)) ≢ k = e' z v in
      let t : k ≤ key (decode (g i)) = rank_zero (decode (g i)) (collect g (suc i) n) k (rw v at r) in
      rw (v, ne_eqb (key (decode (g i))) k q) (ap is_there (find-below key (suc (key (decode (g i)))) k (collect g (suc i) n)
      (rw v at f).1 (omega arith)))))
      (λ v. rw v))
    where
      e' : i + 0 ≡ i → used (g i) ≡ true → key (decode (g i)) ≢ k
      e' z v = rw z at (e (omega arith) (rw z v))
  miss lo i (suc n) (suc d) f r e =
      (let z : suc i + d ≡ i + suc d = omega arith in
      bool (used (g i))
      (λ v.
      (let p = rank_suc (decode (g i)) (collect g (suc i) n) k d (rw v at r) in
      rw (v, ne_eqb (key (decode (g i))) k (omega (arith, p.0)))
      (miss (suc (key (decode (g i)))) (suc i) n d (rw v at f).1 p.1 (λ l. rw z (e (omega arith))))))
      (λ v. rw v))

-- ---- put

put_past : (p q : Place) (ps : List Place) → key q < key p → put key p (q ∷ ps) ≡ q ∷ put key p ps
put_past p q ps h = rw (le-ltb (key p) (key q) (omega arith), ne_eqb (key p) (key q) (omega arith))

put_on : (p q : Place) (ps : List Place) → key p ≡ key q → put key p (q ∷ ps) ≡ p ∷ ps
put_on p q ps h = rw (le-ltb (key p) (key q) (omega arith), eq-eqb (key p) (key q) h)

put_first : (p q : Place) (ps : List Place) → key p < key q → put key p (q ∷ ps) ≡ p ∷ q ∷ ps
put_first p q ps h = rw (lt-ltb (key p) (key q) h)

module _ (g : ℕ → Row) (at : ℕ) (x : Row) (u : used x ≡ true) where
  pub replaced_at : (j : ℕ) → j ≡ at → replaced g at x j ≡ x
  replaced_at j e = rw (eq-eqb j at e)

  pub replaced_other : (j : ℕ) → j ≢ at → replaced g at x j ≡ g j
  replaced_other j n = rw (ne_eqb j at n)

  -- another mark for a candidate that has a place
  pub replace_put : (i n d : ℕ) → i + d ≡ at → rank (collect g i n) (key (decode x)) ≡ d → d < n → used (g at) ≡ true
      → key (decode (g at)) ≡ key (decode x) → collect (replaced g at x) i n ≡ put key (decode x) (collect g i n)
  unfolding collect
  replace_put i zero d e r h v q = absurd (omega arith)
  replace_put i (suc n) zero e r h v q =
      (let z : at ≡ i = omega arith in
      let w : used (g i) ≡ true = rw z at v in
      let s : collect (replaced g at x) (suc i) n ≡ collect g (suc i) n =
      collect_as (replaced g at x) g (suc i) n (λ j a b. replaced_other j (omega arith)) in
      let y : replaced g at x i ≡ x = replaced_at i (sym z) in
      rw (y, w, u, s) (sym (put_on (decode x) (decode (g i)) (collect g (suc i) n) (sym (rw z at q)))))
  replace_put i (suc n) (suc d) e r h v q =
      (let y : replaced g at x i ≡ g i = replaced_other i (omega arith) in
      bool (used (g i))
      (λ w.
      (let p = rank_suc (decode (g i)) (collect g (suc i) n) (key (decode x)) d (rw w at r) in
      rw (y, w, replace_put (suc i) n d (omega arith) p.1 (omega arith) v q)
      (sym (put_past (decode x) (decode (g i)) (collect g (suc i) n) p.0))))
      (λ w. absurd (omega (arith, rw w at r))))

  pub inserted_at : (j : ℕ) → j ≡ at → inserted g at x j ≡ x
  inserted_at j e = rw (eq-eqb j at e)

  pub inserted-low : (j : ℕ) → j < at → inserted g at x j ≡ g j
  inserted-low j h = rw (ne_eqb j at (omega arith), le-ltb at j (omega arith))

  pub inserted_high : (j : ℕ) → at ≤ j → inserted g at x (suc j) ≡ g j
  inserted_high j h =
      (let z : suc j - 1 ≡ j = omega arith in rw (ne_eqb (suc j) at (omega arith), lt-ltb at (suc j) (omega arith), z))

  -- a place for a candidate that has none, where one is free
  pub insert-put : (i n d : ℕ) → i + d ≡ at → rank (collect g i n) (key (decode x)) ≡ d
      → has (collect g i n) (key (decode x)) ≡ false
      → length (collect g i n) < n → collect (inserted g at x) i n ≡ put key (decode x) (collect g i n)
  unfolding collect
  insert-put i zero d e r h l = absurd (omega arith)
  insert-put i (suc n) zero e r h l =
      (let z : at ≡ i = omega arith in
      let s : collect (inserted g at x) (suc i) n ≡ collect g i n =
      collect-up g (inserted g at x) i n (λ j a b. inserted_high j (omega arith)) in
      let y : inserted g at x i ≡ x = inserted_at i (sym z) in
      let t : collect g i n ≡ collect g i (suc n) = collect_less g i n (omega arith) in
      rw (y, u, s, t)
      (bool (used (g i))
      (λ w. rw w (sym (put_first (decode x) (decode (g i)) (collect g (suc i) n) (above w (rw w at r) (rw w at h)))))
      (λ w. rw w)))
    where
      above : used (g i) ≡ true → rank (decode (g i) ∷ collect g (suc i) n) (key (decode x)) ≡ 0
          → has (decode (g i) ∷ collect g (suc i) n) (key (decode x)) ≡ false → key (decode x) < key (decode (g i))
      above w r' h' =
          (let k = rank_zero (decode (g i)) (collect g (suc i) n) (key (decode x)) r' in
          same (key (decode (g i))) (key (decode x)) (λ q t. absurd (true≢false (sym (rw t) ∙ h'))) (λ q t. omega arith))
  insert-put i (suc n) (suc d) e r h l =
      (let y : inserted g at x i ≡ g i = inserted-low i (omega arith) in
      bool (used (g i))
      (λ w.
      (let p = rank_suc (decode (g i)) (collect g (suc i) n) (key (decode x)) d (rw w at r) in
      let f : eqb (key (decode (g i))) (key (decode x)) ≡ false =
      ne_eqb (key (decode (g i))) (key (decode x)) (omega (arith, p.0)) in
      rw (y, w, insert-put (suc i) n d (omega arith) p.1 (rw f at (rw w at h)) (omega (arith, rw w at l)))
      (sym (put_past (decode x) (decode (g i)) (collect g (suc i) n) p.0))))
      (λ w. absurd (omega (arith, rw w at r))))
