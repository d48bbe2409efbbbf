-- The last two passes of a tick on the words: places below 750 with nothing kept are let go, and those that are spent go. The
-- rows are gathered to the front, and what is left is cleared. Assumes nothing.
use Rattle.std.specs.Prelude.{◌≡◌, refl, ◌≢◌, Bool, true, false, cond, ◌&&◌, List, [], ◌∷◌, ◌++◌, ℕ, zero, suc, ◌+◌, ◌*◌, ◌/◌}
use Rattle.std.specs.Prelude.{◌%◌, ◌<◌, ◌≤◌, length, ltb, leb, eqb}
use Rattle.std.proofs.Common.{sym, ap, ◌∙◌, true≢false, arith, lt-ltb, le-ltb, le-leb, eq-eqb, ne_eqb}
use Rattle.std.proofs.lemmas.Bool.{lt-leb}
use Rattle.logic.specs.Cases.{bool, less, most, same}
use Rattle.candidates.specs.Keyed.{Every}
use Rattle.restraint.specs.Keeps.{cleared}
use Rattle.front.specs.Place.{Place, marked, IsPlace, IsFront, most_places, free_below}
use Rattle.front.specs.Front.{halve, released, spent, each, let_go, unspent}
use Rattle.rows.specs.Row.{front_words, Row, row, none, row_at, mark_of, decode, used, collect, places_of, IsWords}
use Rattle.shelf.specs.Shift.{Holds, replaced, halved_row}
use Rattle.shelf.specs.Shifts.{holds_as, replace_on}
use Rattle.charge.specs.Calls.{Became}

-- ---- the first rows, used or not

unfoldable pub firsts : (ℕ → Row) → ℕ → ℕ → List Place
firsts g i zero = []
firsts g i (suc n) = decode (g i) ∷ firsts g (suc i) n

abbrev pub settled : List Place → List Place
settled ps = unspent (each let_go ps)

pub firsts_as : (g h : ℕ → Row) (i n : ℕ) → ((j : ℕ) → i ≤ j → j < i + n → g j ≡ h j) → firsts g i n ≡ firsts h i n
unfolding firsts
firsts_as g h i zero e = refl
firsts_as g h i (suc n) e =
    rw (e i (omega arith) (omega arith), firsts_as g h (suc i) n (λ j a b. e j (omega arith) (omega arith)))

pub firsts_more : (g : ℕ → Row) (i n : ℕ) → firsts g i (suc n) ≡ firsts g i n ++ (decode (g (i + n)) ∷ [])
unfolding firsts
firsts_more g i zero = (let z : i + 0 ≡ i = omega arith in rw z)
firsts_more g i (suc n) =
    (let z : i + suc n ≡ suc i + n = omega arith in rw z (ap (λ (x : List Place). decode (g i) ∷ x) (firsts_more g (suc i) n)))

-- the places of a front are its first rows
pub collect-firsts : (g : ℕ → Row) (i n : ℕ) → collect g i n ≡ firsts g i (length (collect g i n))
unfolding collect firsts
collect-firsts g i zero = refl
collect-firsts g i (suc n) =
    bool (used (g i)) (λ u. rw u (ap (λ (x : List Place). decode (g i) ∷ x) (collect-firsts g (suc i) n))) (λ u. rw u)

-- and the other way, where each is a place and the next row is not used
right_used : (r : Row) → IsPlace 32 (decode r) → used r ≡ true
right_used r p =
    rw (ne_eqb r.x 0 (λ e.
    (let b : eqb (r.x % 2) 1 ≡ false = rw e in
    let q : 1 ≤ r.x / 2 = p.right.some b in omega arith)))

pub firsts-collect : (g : ℕ → Row) (i n m : ℕ) → Every (IsPlace 32) (firsts g i m) → m ≤ n → (m < n → used (g (i + m)) ≡ false)
    → collect g i n ≡ firsts g i m
unfolding collect firsts
firsts-collect g i zero zero a h e = refl
firsts-collect g i zero (suc m) a h e = absurd (omega arith)
firsts-collect g i (suc n) zero a h e = (let z : i + 0 ≡ i = omega arith in rw (rw z at (e (omega arith))))
firsts-collect g i (suc n) (suc m) a h e =
    (let z : suc i + m ≡ i + suc m = omega arith in
    rw (right_used (g i) a.0)
    (ap (λ (x : List Place). decode (g i) ∷ x) (firsts-collect g (suc i) n m a.1 (omega arith)
    (λ l. rw z (e (omega arith))))))

firsts-length : (g : ℕ → Row) (i n : ℕ) → length (firsts g i n) ≡ n
unfolding firsts
firsts-length g i zero = refl
firsts-length g i (suc n) = ap suc (firsts-length g (suc i) n)

-- ---- halved

halved-row : (r : Row) → decode (halved_row r) ≡ halve (decode r)
halved-row r =
    let p : (r.x / 4 * 2 + r.x % 2) / 2 ≡ r.x / 2 / 2 = omega arith in
    let q : (r.x / 4 * 2 + r.x % 2) % 2 ≡ r.x % 2 = omega arith in
    λ i. record {
      addr = r.a;
      len = r.w / 8;
      feed = r.w % 8;
      mark = record { penalty = p i; back = eqb (q i) 1; kept = r.k };
    }

-- the first pass
pub halved-firsts : (g : ℕ → Row) (i n : ℕ) → firsts (λ j. halved_row (g j)) i n ≡ each halve (firsts g i n)
unfolding firsts
halved-firsts g i zero = refl
halved-firsts g i (suc n) = rw (halved-row (g i), halved-firsts g (suc i) n)

pub halve_pass : (ws us : List ℕ) → IsWords ws → Holds us (λ j. halved_row (row_at ws j))
    → firsts (row_at us) 0 (length (places_of ws)) ≡ each halve (places_of ws)
halve_pass ws us w h =
    firsts_as (row_at us) (λ j. halved_row (row_at ws j)) 0 (length (places_of ws))
    (λ j a b. h.rows j (omega (arith, w.front.few)))
    ∙ halved-firsts (row_at ws) 0 (length (places_of ws))
    ∙ ap (each halve) (sym (collect-firsts (row_at ws) 0 256))

-- ---- settled

settled_more : (ps : List Place) (p : Place)
    → settled (ps ++ (p ∷ [])) ≡ settled ps ++ cond (spent (let_go p).mark) [] (let_go p ∷ [])
settled_more [] p = bool (spent (let_go p).mark) (λ e. rw e) (λ e. rw e)
settled_more (q ∷ ps) p =
    bool (spent (let_go q).mark) (λ e. rw e (settled_more ps p))
    (λ e. rw e (ap (λ (x : List Place). let_go q ∷ x) (settled_more ps p)))

append_none : (ps : List Place) → ps ++ [] ≡ ps
append_none [] = refl
append_none (p ∷ ps) = ap (λ (x : List Place). p ∷ x) (append_none ps)

pub record Gathered (ws us : List ℕ) (i j : ℕ) : Type 0 where
  pub size : length us ≡ front_words
  pub order : j ≤ i
  pub list : firsts (row_at us) 0 j ≡ settled (firsts (row_at ws) 0 i)
  pub rest : (m : ℕ) → i ≤ m → m < most_places → row_at us m ≡ row_at ws m

pub gather_none : (ws : List ℕ) → length ws ≡ front_words → Gathered ws ws 0 0
unfolding firsts
gather_none ws z = record { size = z; order = omega arith; list = refl; rest = λ m a b. refl }

-- the mark of row i is let go: spent, and it is left out; else it stands in row j
pub record Stepped (ws us : List ℕ) (i j r : ℕ) : Type 0 where
  pub size : length us ≡ front_words
  pub gone : spent (released (decode (row_at ws i)).mark) ≡ true → (r ≡ j) × (us ≡ ws)
  pub stays : spent (released (decode (row_at ws i)).mark) ≡ false
      → (r ≡ j + 1) × Holds us (replaced (row_at ws) j (row_at us j)) × (decode (row_at us j) ≡ let_go (decode (row_at ws i)))

abbrev added : Row → List Place
added r = cond (spent (released (decode r).mark)) [] (let_go (decode r) ∷ [])

module _ (vs ws us : List ℕ) (i j r : ℕ) (h : i < most_places) (g : Gathered vs ws i j) (s : Stepped ws us i j r) where
  same_row : row_at ws i ≡ row_at vs i
  same_row = g.rest i (omega arith) h

  more : settled (firsts (row_at vs) 0 (i + 1)) ≡ firsts (row_at ws) 0 j ++ added (row_at ws i)
  more =
      let z : i + 1 ≡ suc i = omega arith in
      let y : 0 + i ≡ i = omega arith in
      let e : firsts (row_at vs) 0 (i + 1) ≡ firsts (row_at vs) 0 i ++ (decode (row_at vs i) ∷ []) =
      rw z (rw y at (firsts_more (row_at vs) 0 i)) in
      ap settled e ∙ settled_more (firsts (row_at vs) 0 i) (decode (row_at vs i))
      ∙ ap (λ (x : List Place). x ++ added (row_at vs i)) (sym g.list)
      ∙ ap (λ (y : Row). firsts (row_at ws) 0 j ++ added y) (sym same_row)

  pub gather_more : Gathered vs us (i + 1) r
  gather_more =
      bool (spent (released (decode (row_at ws i)).mark))
      (λ e.
      (let p = s.gone e in
      record {
        size = s.size;
        order = omega (arith, g.order, p.0);
        list = rw (p.0, p.1) (sym (more ∙ rw e (append_none (firsts (row_at ws) 0 j))));
        rest = λ m a b. rw p.1 (g.rest m (omega arith) b);
      }))
      (λ e.
      (let p = s.stays e in
      let z : j + 1 ≡ suc j = omega arith in
      let y : 0 + j ≡ j = omega arith in
      let f : firsts (row_at us) 0 (j + 1) ≡ firsts (row_at us) 0 j ++ (decode (row_at us j) ∷ []) =
      rw z (rw y at (firsts_more (row_at us) 0 j)) in
      let k : firsts (row_at us) 0 j ≡ firsts (row_at ws) 0 j =
      firsts_as (row_at us) (row_at ws) 0 j (λ m a b. p.1.rows m (omega (arith, g.order)) ∙ rw (ne_eqb m j (omega arith))) in
      record {
        size = s.size;
        order = omega (arith, g.order, p.0);
        list = rw p.0 (f ∙ rw (k, p.2) (sym (more ∙ rw e)));
        rest = λ m a b. p.1.rows m b ∙ rw (ne_eqb m j (omega (arith, g.order))) (g.rest m (omega arith) b);
      }))

-- ---- one row

module _ (ws us : List ℕ) (i j x : ℕ) (b : Bool)
    (m : mark_of x (row_at ws i).k ≡ released (mark_of (row_at ws i).x (row_at ws i).k))
    (e : b ≡ spent (mark_of x (row_at ws i).k)) where
  told : b ≡ spent (released (decode (row_at ws i)).mark)
  told = e ∙ ap spent m

  pub stepped_gone : length ws ≡ front_words → b ≡ true → Stepped ws ws i j j
  stepped_gone z t =
      record { size = z; gone = λ _. (refl, refl); stays = λ f. absurd (true≢false (sym t ∙ told ∙ f)) }

  pub stepped_stays : j < most_places → b ≡ false
      → Holds us (replaced (row_at ws) j (row (row_at ws i).a (row_at ws i).w x (row_at ws i).k)) → Stepped ws us i j (j + 1)
  stepped_stays l t h =
      let r : row_at us j ≡ row (row_at ws i).a (row_at ws i).w x (row_at ws i).k = h.rows j l ∙ rw (eq-eqb j j refl) in
      record {
        size = h.size;
        gone = λ f. absurd (true≢false (sym f ∙ sym told ∙ t));
        stays = λ _.
            (refl, rw r h, ap decode r ∙ ap (marked (decode (row_at ws i))) m);
      }

module _ (x k : ℕ) where
  pub let_go_high : free_below ≤ x / 2 → mark_of x k ≡ released (mark_of x k)
  let_go_high h = rw (le-ltb (x / 2) free_below h)

  pub let_go-kept : x / 2 < free_below → k ≢ 0 → mark_of x k ≡ released (mark_of x k)
  let_go-kept h n = rw (lt-ltb (x / 2) free_below h, ne_eqb k 0 n)

  pub let_go_now : x / 2 < free_below → k ≡ 0 → mark_of (x / 2 * 2) k ≡ released (mark_of x k)
  let_go_now h e =
      let p : (x / 2 * 2) / 2 ≡ x / 2 = omega arith in
      let b : eqb ((x / 2 * 2) % 2) 1 ≡ false = ne_eqb ((x / 2 * 2) % 2) 1 (omega arith) in
      rw (lt-ltb (x / 2) free_below h, eq-eqb k 0 e) (λ i. record { penalty = p i; back = b i; kept = k })

  pub spent_not : x / 2 ≢ 0 → false ≡ spent (mark_of x k)
  spent_not n = rw (ne_eqb (x / 2) 0 n)

  pub spent_by : x / 2 ≡ 0 → eqb k 0 ≡ spent (mark_of x k)
  spent_by e = rw (eq-eqb (x / 2) 0 e)

-- ---- rows cleared

abbrev pub cleared_to : (ℕ → Row) → ℕ → ℕ → ℕ → Row
cleared_to g from i m = cond (leb from m && ltb m i) none (g m)

clear_step : (g : ℕ → Row) (from i m : ℕ) → from ≤ i → replaced (cleared_to g from i) i none m ≡ cleared_to g from (i + 1) m
clear_step g from i m h =
    same m i
    (λ e d. rw (d, le-leb from m (omega arith), lt-ltb m (i + 1) (omega arith)))
    (λ n d. rw d (less m i
    (λ y u. rw (u, lt-ltb m (i + 1) (omega arith)))
    (λ y u. rw (u, le-ltb m (i + 1) (omega arith)))))

pub clear_begin : (ws : List ℕ) (from : ℕ) → length ws ≡ front_words → Holds ws (cleared_to (row_at ws) from from)
clear_begin ws from z =
    record { size = z; rows = λ m b. most from m (λ l d. rw (d, le-ltb m from l)) (λ l d. rw d) }

pub clear_turn : (ws us : List ℕ) (g : ℕ → Row) (from i : ℕ) → from ≤ i → i < most_places → Holds ws (cleared_to g from i)
    → Holds us (replaced (row_at ws) i none) → Holds us (cleared_to g from (i + 1))
clear_turn ws us g from i h b p q =
    holds_as us (replaced (cleared_to g from i) i none) (cleared_to g from (i + 1))
    (replace_on ws us (cleared_to g from i) i none none p refl q) (λ m _. clear_step g from i m h)

pub clear_end : (ws : List ℕ) (g : ℕ → Row) (from i to : ℕ) → i ≤ to → to ≤ i → Holds ws (cleared_to g from i)
    → Holds ws (cleared_to g from to)
clear_end ws g from i to h b p = (let e : i ≡ to = omega arith in rw e at p)

-- ---- all

pub record Settles (ws : List ℕ) (n : ℕ) : Type 0 where
  pub size : length ws ≡ front_words
  pub within : n ≤ most_places
  pub zeros : (i : ℕ) → n ≤ i → i < most_places → row_at ws i ≡ none
  pub front : IsFront 32 (settled (firsts (row_at ws) 0 n))

pub settle_law : (vs ws us : List ℕ) (n j : ℕ) → Settles vs n → Gathered vs ws n j → Holds us (cleared_to (row_at ws) j n)
    → Became us (settled (firsts (row_at vs) 0 n))
settle_law vs ws us n j s g h =
    let k : firsts (row_at us) 0 j ≡ firsts (row_at ws) 0 j =
    firsts_as (row_at us) (row_at ws) 0 j (λ m a b. h.rows m (omega (arith, g.order, s.within))
    ∙ rw (lt-leb j m (omega arith))) in
    let e : firsts (row_at us) 0 j ≡ settled (firsts (row_at vs) 0 n) = k ∙ g.list in
    let z : (m : ℕ) → j ≤ m → m < most_places → row_at us m ≡ none = λ m a b.
    less m n
    (λ l d. h.rows m b ∙ rw (le-leb j m a, d))
    (λ l d. h.rows m b ∙ rw (le-leb j m a, d) (g.rest m l b ∙ s.zeros m l b)) in
    let q : places_of us ≡ firsts (row_at us) 0 j =
    firsts-collect (row_at us) 0 256 j (rw e s.front.places) (omega (arith, g.order, s.within))
    (λ l. (let y : 0 + j ≡ j = omega arith in rw y (ap used (z j (omega arith) l)))) in
    let f : length (places_of us) ≡ j = ap length q ∙ firsts-length (row_at us) 0 j in
    record {
      words = record { size = h.size; front = rw (q, e) s.front; zeros = λ i a b. z i (omega arith) b };
      places = q ∙ e;
    }

pub gather_end : (vs ws : List ℕ) (i n j : ℕ) → i ≤ n → n ≤ i → Gathered vs ws i j → Gathered vs ws n j
gather_end vs ws i n j h b g = (let e : i ≡ n = omega arith in rw e at g)

-- cleared words are a front with no place
pub cleared_all : (us : List ℕ) (g : ℕ → Row) → Holds us (cleared_to g 0 256) → Became us []
unfolding firsts
cleared_all us g h =
    let z : (m : ℕ) → m < most_places → row_at us m ≡ none = λ m b. h.rows m b ∙ rw (le-leb 0 m (omega arith), lt-ltb m 256 b) in
    let q : places_of us ≡ [] = firsts-collect (row_at us) 0 256 0 tt (omega arith) (λ l. ap used (z 0 (omega arith))) in
    record {
      words = record { size = h.size; front = rw q (cleared 32); zeros = λ i a b. z i b };
      places = q;
    }
