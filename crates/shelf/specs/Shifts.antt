-- The laws of rows that move. Assumes nothing.
use Rattle.std.specs.Prelude.{◌≡◌, refl, ◌≢◌, List, ℕ, ◌+◌, ◌-◌, ◌*◌, ◌<◌, ◌≤◌, length, get_or, set}
use Rattle.std.proofs.Common.{ap, ◌∙◌, arith, length-set, get_or-set_same, get_or-set_other, lt-ltb, le-ltb}
use Rattle.logic.specs.Cases.{same, less}
use Rattle.rows.specs.Row.{Row, row, row_at}
use Rattle.shelf.specs.Shift.{Holds, replaced, lifted, inserted, halved_row, halved_to}

-- ---- one row stored

abbrev pub set4 : List ℕ → ℕ → ℕ → ℕ → ℕ → ℕ → List ℕ
set4 ws i a w x k = set (set (set (set ws (4 * i) a) (4 * i + 1) w) (4 * i + 2) x) (4 * i + 3) k

pub set4-length : (ws : List ℕ) (i a w x k : ℕ) → length (set4 ws i a w x k) ≡ length ws
set4-length ws i a w x k = simp length-set

module _ (ws : List ℕ) (i a w x k : ℕ) (h : 4 * i + 3 < length ws) where
  at_new : row_at (set4 ws i a w x k) i ≡ row a w x k
  at_new =
      let l3 : length (set (set (set ws (4 * i) a) (4 * i + 1) w) (4 * i + 2) x) ≡ length ws = simp length-set in
      let l2 : length (set (set ws (4 * i) a) (4 * i + 1) w) ≡ length ws = simp length-set in
      let l1 : length (set ws (4 * i) a) ≡ length ws = simp length-set in
      let e3 : get_or (set4 ws i a w x k) (4 * i + 3) 0 ≡ k =
      get_or-set_same (set (set (set ws (4 * i) a) (4 * i + 1) w) (4 * i + 2) x) (4 * i + 3) k 0 (omega arith) in
      let e2 : get_or (set4 ws i a w x k) (4 * i + 2) 0 ≡ x =
      get_or-set_other (set (set (set ws (4 * i) a) (4 * i + 1) w) (4 * i + 2) x) (4 * i + 3) (4 * i + 2) k 0 (omega arith)
      ∙ get_or-set_same (set (set ws (4 * i) a) (4 * i + 1) w) (4 * i + 2) x 0 (omega arith) in
      let e1 : get_or (set4 ws i a w x k) (4 * i + 1) 0 ≡ w =
      get_or-set_other (set (set (set ws (4 * i) a) (4 * i + 1) w) (4 * i + 2) x) (4 * i + 3) (4 * i + 1) k 0 (omega arith)
      ∙ get_or-set_other (set (set ws (4 * i) a) (4 * i + 1) w) (4 * i + 2) (4 * i + 1) x 0 (omega arith)
      ∙ get_or-set_same (set ws (4 * i) a) (4 * i + 1) w 0 (omega arith) in
      let e0 : get_or (set4 ws i a w x k) (4 * i) 0 ≡ a =
      get_or-set_other (set (set (set ws (4 * i) a) (4 * i + 1) w) (4 * i + 2) x) (4 * i + 3) (4 * i) k 0 (omega arith)
      ∙ get_or-set_other (set (set ws (4 * i) a) (4 * i + 1) w) (4 * i + 2) (4 * i) x 0 (omega arith)
      ∙ get_or-set_other (set ws (4 * i) a) (4 * i + 1) (4 * i) w 0 (omega arith)
      ∙ get_or-set_same ws (4 * i) a 0 (omega arith) in
      λ t. record { a = e0 t; w = e1 t; x = e2 t; k = e3 t }

  word_other : (m : ℕ) → m ≢ 4 * i → m ≢ 4 * i + 1 → m ≢ 4 * i + 2 → m ≢ 4 * i + 3
      → get_or (set4 ws i a w x k) m 0 ≡ get_or ws m 0
  word_other m n0 n1 n2 n3 =
      get_or-set_other (set (set (set ws (4 * i) a) (4 * i + 1) w) (4 * i + 2) x) (4 * i + 3) m k 0 n3
      ∙ get_or-set_other (set (set ws (4 * i) a) (4 * i + 1) w) (4 * i + 2) m x 0 n2
      ∙ get_or-set_other (set ws (4 * i) a) (4 * i + 1) m w 0 n1
      ∙ get_or-set_other ws (4 * i) m a 0 n0

  at_other : (j : ℕ) → j ≢ i → row_at (set4 ws i a w x k) j ≡ row_at ws j
  at_other j n =
      let e0 = word_other (4 * j) (omega arith) (omega arith) (omega arith) (omega arith) in
      let e1 = word_other (4 * j + 1) (omega arith) (omega arith) (omega arith) (omega arith) in
      let e2 = word_other (4 * j + 2) (omega arith) (omega arith) (omega arith) (omega arith) in
      let e3 = word_other (4 * j + 3) (omega arith) (omega arith) (omega arith) (omega arith) in
      λ t. record { a = e0 t; w = e1 t; x = e2 t; k = e3 t }

pub stored : (ws : List ℕ) (i a w x k : ℕ) → length ws ≡ 1024 → i < 256
    → Holds (set4 ws i a w x k) (replaced (row_at ws) i (row a w x k))
stored ws i a w x k z h =
    record {
      size = set4-length ws i a w x k ∙ z;
      rows = λ j b.
          same j i
          (λ e d. rw (d, e) (at_new ws i a w x k (omega arith)))
          (λ n d. rw d (at_other ws i a w x k (omega arith) j n));
    }

-- ---- rows of rows

pub holds_self : (ws : List ℕ) → length ws ≡ 1024 → Holds ws (row_at ws)
holds_self ws z = record { size = z; rows = λ j b. refl }

pub holds_as : (ws : List ℕ) (g h : ℕ → Row) → Holds ws g → ((j : ℕ) → j < 256 → g j ≡ h j) → Holds ws h
holds_as ws g h p e = record { size = p.size; rows = λ j b. p.rows j b ∙ e j b }

-- a row replaced in words that hold g
pub replace_on : (ws us : List ℕ) (g : ℕ → Row) (i : ℕ) (r s : Row) → Holds ws g → r ≡ s → Holds us (replaced (row_at ws) i r)
    → Holds us (replaced g i s)
replace_on ws us g i r s p e q =
    record {
      size = q.size;
      rows = λ j b. q.rows j b ∙ same j i (λ z d. rw d e) (λ z d. rw d (p.rows j b));
    }

-- ---- up

pub lift_none : (g : ℕ → Row) (j : ℕ) → j < 256 → g j ≡ lifted g 255 j
lift_none g j b = rw (le-ltb 255 j (omega arith))

pub lift_row : (g : ℕ → Row) (i : ℕ) → 0 < i → lifted g i (i - 1) ≡ g (i - 1)
lift_row g i h = rw (le-ltb i (i - 1) (omega arith))

pub lift_step : (g : ℕ → Row) (i : ℕ) → 0 < i → (j : ℕ) → replaced (lifted g i) i (g (i - 1)) j ≡ lifted g (i - 1) j
lift_step g i h j =
    same j i
    (λ e d. rw (d, lt-ltb (i - 1) j (omega arith), e))
    (λ n d. rw d (less i j
    (λ l t. rw (t, lt-ltb (i - 1) j (omega arith)))
    (λ l t. rw (t, le-ltb (i - 1) j (omega arith)))))

-- ---- halved

pub halve_none : (g : ℕ → Row) (j : ℕ) → g j ≡ halved_to g 0 j
halve_none g j = rw (le-ltb j 0 (omega arith))

pub halve-row : (g : ℕ → Row) (i : ℕ) → halved_to g i i ≡ g i
halve-row g i = rw (le-ltb i i (omega arith))

pub halve-step : (g : ℕ → Row) (i : ℕ) (j : ℕ) → replaced (halved_to g i) i (halved_row (g i)) j ≡ halved_to g (i + 1) j
halve-step g i j =
    same j i
    (λ e d. rw (d, lt-ltb j (i + 1) (omega arith), e))
    (λ n d. rw d (less j i
    (λ l t. rw (t, lt-ltb j (i + 1) (omega arith)))
    (λ l t. rw (t, le-ltb j (i + 1) (omega arith)))))

pub halve_all : (g : ℕ → Row) (i j : ℕ) → 256 ≤ i → j < 256 → halved_to g i j ≡ halved_row (g j)
halve_all g i j h b = rw (lt-ltb j i (omega arith))

-- ---- the loops' turns

pub lift_begin : (ws : List ℕ) → length ws ≡ 1024 → Holds ws (lifted (row_at ws) 255)
lift_begin ws z = holds_as ws (row_at ws) (lifted (row_at ws) 255) (holds_self ws z) (lift_none (row_at ws))

pub lift_turn : (ws us : List ℕ) (g : ℕ → Row) (i : ℕ) → 0 < i → i ≤ 255 → Holds ws (lifted g i)
    → Holds us (replaced (row_at ws) i (row_at ws (i - 1))) → Holds us (lifted g (i - 1))
lift_turn ws us g i h b p q =
    holds_as us (replaced (lifted g i) i (g (i - 1))) (lifted g (i - 1))
    (replace_on ws us (lifted g i) i (row_at ws (i - 1)) (g (i - 1)) p (p.rows (i - 1) (omega arith) ∙ lift_row g i h) q)
    (λ j _. lift_step g i h j)

pub lift_end : (ws us : List ℕ) (g : ℕ → Row) (i at : ℕ) (r : Row) → at ≤ i → i ≤ at → Holds ws (lifted g i)
    → Holds us (replaced (row_at ws) at r) → Holds us (inserted g at r)
lift_end ws us g i at r h b p q =
    let e : i ≡ at = omega arith in
    replace_on ws us (lifted g at) at r r (rw e at p) refl q

pub halve-begin : (ws : List ℕ) → length ws ≡ 1024 → Holds ws (halved_to (row_at ws) 0)
halve-begin ws z = holds_as ws (row_at ws) (halved_to (row_at ws) 0) (holds_self ws z) (λ j _. halve_none (row_at ws) j)

pub halve-turn : (ws us : List ℕ) (g : ℕ → Row) (i : ℕ) → i < 256 → Holds ws (halved_to g i)
    → Holds us (replaced (row_at ws) i (halved_row (row_at ws i))) → Holds us (halved_to g (i + 1))
halve-turn ws us g i b p q =
    holds_as us (replaced (halved_to g i) i (halved_row (g i))) (halved_to g (i + 1))
    (replace_on ws us (halved_to g i) i (halved_row (row_at ws i)) (halved_row (g i)) p
    (ap halved_row (p.rows i b ∙ halve-row g i)) q)
    (λ j _. halve-step g i j)

pub halve_end : (ws : List ℕ) (g : ℕ → Row) (i : ℕ) → 256 ≤ i → Holds ws (halved_to g i) → Holds ws (λ j. halved_row (g j))
halve_end ws g i h p = holds_as ws (halved_to g i) (λ j. halved_row (g j)) p (λ j b. halve_all g i j h b)
