-- Rows that come before a candidate: first those, then the others. Assumes nothing.
use Rattle.std.specs.Prelude.{◌≡◌, refl, ◌≢◌, Bool, true, false, List, ℕ, zero, suc, ◌+◌, ◌-◌, ◌/◌, ◌<◌, ◌≤◌, length, ltb, eqb}
use Rattle.std.proofs.Common.{sym, ap, ◌∙◌, true≢false, arith, lt-ltb, ltb-true, eq-eqb, ne_eqb}
use Rattle.logic.specs.Cases.{bool}
use Rattle.logic.specs.Bools.{and_to, and_from}
use Rattle.logic.specs.Reflects.{all_to_lem}
use Rattle.logic.specs.Every.{all_b}
use Rattle.front.specs.Place.{key}
use Rattle.rows.specs.Row.{Row, row_at, decode, used, collect, places_of, IsWords, row_b, front_b}
use Rattle.rows.specs.Told.{after_suc, row-after, words_from}
use Rattle.shelf.specs.Shift.{before, rank}

-- before falls from true to false once
pub record Falls (g : ℕ → Row) (k : ℕ) : Type 0 where
  pub down : (i j : ℕ) → i ≤ j → j < 256 → before g k j ≡ true → before g k i ≡ true

pub falls : (ws : List ℕ) (k : ℕ) → IsWords ws → Falls (row_at ws) k
unfolding front_b
falls ws k w =
    record { down = λ i j h b e. (let z : j - (j - i) ≡ i = omega arith in rw z at (steps (j - i) j (omega arith) b e)) }
  where
    ok : (i : ℕ) → i < 256 → row_b (row_at ws) i ≡ true
    ok = all_to_lem (row_b (row_at ws)) 256 (and_to (eqb (length ws) 1024) (all_b (row_b (row_at ws)) 256) (words_from ws w)).1

    back : (j : ℕ) → suc j < 256 → before (row_at ws) k (suc j) ≡ true → before (row_at ws) k j ≡ true
    back j b e =
        let p = and_to (used (row_at ws (suc j))) (ltb (key (decode (row_at ws (suc j)))) k) e in
        let q = after_suc (row_at ws) j (row-after (row_at ws) (suc j) (ok (suc j) b) p.0) in
        let l : key (decode (row_at ws (suc j))) < k = ltb-true (key (decode (row_at ws (suc j)))) k p.1 in
        and_from (used (row_at ws j)) (ltb (key (decode (row_at ws j))) k) q.0
        (lt-ltb (key (decode (row_at ws j))) k (omega (arith, q.1)))

    steps : (d j : ℕ) → d ≤ j → j < 256 → before (row_at ws) k j ≡ true → before (row_at ws) k (j - d) ≡ true
    steps zero j h b e = (let z : j - 0 ≡ j = omega arith in rw z e)
    steps (suc d) j h b e =
        (let y : suc (j - suc d) ≡ j - d = omega arith in
        back (j - suc d) (omega arith) (rw y (steps d j (omega arith) b e)))

-- the rank of what is collected, where d rows come before and the next does not
pub rank_is : (g : ℕ → Row) (k i n d : ℕ) → d ≤ n → ((j : ℕ) → i ≤ j → j < i + d → before g k j ≡ true)
    → (d < n → before g k (i + d) ≡ false)
    → rank (collect g i n) k ≡ d
unfolding collect
rank_is g k i zero zero h p q = refl
rank_is g k i zero (suc d) h p q = absurd (omega arith)
rank_is g k i (suc n) zero h p q =
    (let z : i + 0 ≡ i = omega arith in
    let e : before g k i ≡ false = rw z at (q (omega arith)) in
    bool (used (g i)) (λ u. rw (u, rw u at e)) (λ u. rw u))
rank_is g k i (suc n) (suc d) h p q =
    (let e = and_to (used (g i)) (ltb (key (decode (g i))) k) (p i (omega arith) (omega arith)) in
    let z : suc i + d ≡ i + suc d = omega arith in
    rw (e.0, e.1)
    (ap suc (rank_is g k (suc i) n d (omega arith) (λ j a b. p j (omega arith) (omega arith)) (λ l. rw z (q (omega arith))))))

-- ---- the search

pub record Between (g : ℕ → Row) (k lo hi : ℕ) : Type 0 where
  pub order : lo ≤ hi
  pub last : hi ≤ 256
  pub low : (j : ℕ) → j < lo → before g k j ≡ true
  pub high : (j : ℕ) → hi ≤ j → j < 256 → before g k j ≡ false

pub between_all : (g : ℕ → Row) (k : ℕ) → Between g k 0 256
between_all g k =
    record { order = omega arith; last = omega arith; low = λ j h. absurd (omega arith); high = λ j h b. absurd (omega arith) }

pub between-up : (g : ℕ → Row) (k lo hi : ℕ) (r : Bool) → Falls g k → Between g k lo hi → lo < hi
    → r ≡ before g k ((lo + hi) / 2) → r ≡ true
    → Between g k ((lo + hi) / 2 + 1) hi
between-up g k lo hi r f b h e t =
    record {
      order = omega arith;
      last = b.last;
      low = λ j l. f.down j ((lo + hi) / 2) (omega arith) (omega (arith, b.last)) (sym e ∙ t);
      high = b.high;
    }

pub between-down : (g : ℕ → Row) (k lo hi : ℕ) (r : Bool) → Falls g k → Between g k lo hi → lo < hi
    → r ≡ before g k ((lo + hi) / 2) → r ≡ false
    → Between g k lo ((lo + hi) / 2)
between-down g k lo hi r f b h e t =
    record {
      order = omega arith;
      last = omega (arith, b.last);
      low = b.low;
      high = λ j l c.
          bool (before g k j)
          (λ y. absurd (true≢false (sym (f.down ((lo + hi) / 2) j l c y) ∙ (sym e ∙ t))))
          (λ y. y);
    }

pub between_end : (ws : List ℕ) (k lo hi : ℕ) → Between (row_at ws) k lo hi → hi ≤ lo → lo ≡ rank (places_of ws) k
between_end ws k lo hi b h =
    sym (rank_is (row_at ws) k 0 256 lo (omega (arith, b.last, b.order))
    (λ j a c. b.low j (omega arith))
    (λ l. (let z : 0 + lo ≡ lo = omega arith in rw z (b.high lo h l))))

-- ---- the test

pub before-unused : (g : ℕ → Row) (k i : ℕ) → (g i).x ≡ 0 → false ≡ before g k i
before-unused g k i e = rw (eq-eqb (g i).x 0 e)

pub before-used : (g : ℕ → Row) (k i u : ℕ) → (g i).x ≢ 0 → u ≡ key (decode (g i)) → ltb u k ≡ before g k i
before-used g k i u n e = rw (ne_eqb (g i).x 0 n, e)
