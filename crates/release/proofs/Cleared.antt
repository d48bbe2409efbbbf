-- Rows filled with 0. Assumes nothing.
use Rattle.std.proofs.Common.{◌≡◌, List, ℕ, ◌+◌, ◌-◌, ◌*◌, ◌<◌, ◌≤◌, length, get_or, replicate, rules, arith, ap, ◌∙◌}
use Rattle.std.proofs.lemmas.List.{places, get_or-replicate, length-replicate}
use borrow.Rule.Slice.PartMut.{put_mid}
use Rattle.logic.specs.Cases.{less, most}
use Rattle.rows.specs.Row.{row_at, none}
use Rattle.shelf.specs.Shift.{Holds}
use Rattle.release.specs.Settle.{cleared_to}

module _ (a k : ℕ) (xs ys : List ℕ) (h : a + k ≤ length xs) (e : ys ≡ replicate k 0) where
  long : length ys ≡ k
  long = ap length e ∙ length-replicate k 0

  word_below : (n : ℕ) → n < a → get_or (put_mid a k xs ys) n 0 ≡ get_or xs n 0
  word_below n b = search (rules, places)

  word_above : (n : ℕ) → a + k ≤ n → get_or (put_mid a k xs ys) n 0 ≡ get_or xs n 0
  word_above n b = (let l = long in search (rules, places))

  word_in : (n : ℕ) → a ≤ n → n < a + k → get_or (put_mid a k xs ys) n 0 ≡ 0
  word_in n b c =
      (let l = long in
      let t : get_or (put_mid a k xs ys) n 0 ≡ get_or ys (n - a) 0 = search (rules, places) in
      t ∙ ap (λ (y : List ℕ). get_or y (n - a) 0) e ∙ get_or-replicate k (n - a) 0 0 (omega arith))

row_of_words : (ws vs : List ℕ) (i j : ℕ) → ((m : ℕ) → m < 4 → get_or ws (4 * i + m) 0 ≡ get_or vs (4 * j + m) 0)
    → row_at ws i ≡ row_at vs j
row_of_words ws vs i j f =
    let y : 4 * i + 0 ≡ 4 * i = omega arith in
    let z : 4 * j + 0 ≡ 4 * j = omega arith in
    let a : get_or ws (4 * i) 0 ≡ get_or vs (4 * j) 0 = rw (y, z) at (f 0 (omega arith)) in
    let w = f 1 (omega arith) in
    let x = f 2 (omega arith) in
    let k = f 3 (omega arith) in
    λ t. record { a = a t; w = w t; x = x t; k = k t }

row_none : (ws : List ℕ) (i : ℕ) → ((m : ℕ) → m < 4 → get_or ws (4 * i + m) 0 ≡ 0) → row_at ws i ≡ none
row_none ws i f =
    let y : 4 * i + 0 ≡ 4 * i = omega arith in
    let a : get_or ws (4 * i) 0 ≡ 0 = rw y at (f 0 (omega arith)) in
    let w = f 1 (omega arith) in
    let x = f 2 (omega arith) in
    let k = f 3 (omega arith) in
    λ t. record { a = a t; w = w t; x = x t; k = k t }

module _ (ws ys : List ℕ) (from to k : ℕ) (z : length ws ≡ 1024) (f : from ≤ to) (t : to ≤ 256)
    (q : k ≡ 4 * to - 4 * from) (e : ys ≡ replicate k 0) where
  within : 4 * from + k ≤ length ws
  within = omega arith

  pub filled : Holds (put_mid (4 * from) k ws ys) (cleared_to (row_at ws) from to)
  filled =
      let l : length ys ≡ k = long (4 * from) k ws ys within e in
      record {
        size = (let h = within in search (rules, places)) ∙ z;
        rows = λ j b.
            most from j
            (λ p d. less j to
            (λ u c. rw (d, c) (row_none (put_mid (4 * from) k ws ys) j
            (λ m r. word_in (4 * from) k ws ys within e (4 * j + m) (omega arith) (omega arith))))
            (λ u c. rw (d, c) (row_of_words (put_mid (4 * from) k ws ys) ws j j
            (λ m r. word_above (4 * from) k ws ys within e (4 * j + m) (omega arith)))))
            (λ p d. rw d (row_of_words (put_mid (4 * from) k ws ys) ws j j
            (λ m r. word_below (4 * from) k ws ys within e (4 * j + m) (omega arith))));
      }
