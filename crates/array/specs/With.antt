-- The words of a best and a block, and of a best and a link; a cell's word with another best, or another block. Assumes nothing.
use Rattle.std.specs.Prelude.{◌≡◌, ◌≢◌, cond, ℕ, ◌+◌, ◌-◌, ◌*◌, ◌/◌, ◌%◌, ◌<◌, ◌≤◌, eqb}
use Rattle.std.proofs.Common.{sym, ◌∙◌, arith, eq-eqb, ne_eqb}
use Rattle.logic.specs.Cases.{same}
use Rattle.sizes.specs.Sizes.{most_arrays, mark_unit, link_bound, block_bound, hop_bound, best_bound}
use Rattle.array.specs.Cell.{mark, best_in, link_in, block_in, link_none, link_some, length_none, length_some, unmarked}

-- no link, and a link to array a
abbrev pub plain : ℕ → ℕ → ℕ
plain b q = b % hop_bound * link_bound + b / hop_bound * block_bound + q

abbrev pub linked : ℕ → ℕ → ℕ
linked b a = (b / hop_bound + 1) * mark_unit + b % hop_bound * link_bound + (a - 1)

-- the word with another block, and with another best
abbrev pub with_block : ℕ → ℕ → ℕ
with_block w q = w / block_bound * block_bound + q

unfoldable pub with_best : ℕ → ℕ → ℕ
with_best w b = cond (eqb (mark w) 0) (plain b (block_in w)) (linked b (w % link_bound + 1))

-- ---- a best and a block

module _ (b q : ℕ) (h : b < best_bound) (l : q < block_bound) where
  plain-mark : mark (plain b q) ≡ 0
  plain-mark = omega arith

  pub plain_link : link_in (plain b q) ≡ 0
  plain_link = link_none (plain b q) plain-mark

  pub plain-best : best_in (plain b q) ≡ b
  plain-best =
      let n : plain b q % link_bound ≡ b / hop_bound * block_bound + q = omega arith in
      let e : plain b q % link_bound / block_bound ≡ b / hop_bound = rw n (omega arith) in
      let f : plain b q / link_bound ≡ b % hop_bound = omega arith in
      rw (length_none (plain b q) plain-mark, e, f) (omega arith)

  pub plain-block : block_in (plain b q) ≡ q
  plain-block = omega arith

-- ---- a best and a link

module _ (b a : ℕ) (h : b < best_bound) (l : 1 ≤ a) (u : a ≤ most_arrays) where
  linked-mark : mark (linked b a) ≡ b / hop_bound + 1
  linked-mark = omega arith

  pub linked_link : link_in (linked b a) ≡ a
  linked_link = omega (arith, link_some (linked b a) (λ e. omega (arith, linked-mark)))

  pub linked-best : best_in (linked b a) ≡ b
  linked-best = omega (arith, length_some (linked b a) (λ e. omega (arith, linked-mark)), linked-mark)

-- ---- another block

module _ (w q : ℕ) (l : q < block_bound) where
  block-mark : mark (with_block w q) ≡ mark w
  block-mark = omega arith

  pub block-set : block_in (with_block w q) ≡ q
  block-set = omega arith

  pub block_link : link_in w ≡ 0 → link_in (with_block w q) ≡ 0
  block_link e = link_none (with_block w q) (omega (arith, block-mark, unmarked w e))

  pub block-best : link_in w ≡ 0 → best_in (with_block w q) ≡ best_in w
  block-best e =
      let m = unmarked w e in
      let x : with_block w q / link_bound ≡ w / link_bound = omega arith in
      let y : with_block w q % link_bound / block_bound ≡ w % link_bound / block_bound = omega arith in
      rw (length_none w m, length_none (with_block w q) (omega (arith, block-mark)), x, y)

-- ---- another best

pub best-plain : (w b : ℕ) → mark w ≡ 0 → plain b (block_in w) ≡ with_best w b
unfolding with_best
best-plain w b e = rw (eq-eqb (mark w) 0 e)

pub best-linked : (w b : ℕ) → mark w ≢ 0 → linked b (w % link_bound + 1) ≡ with_best w b
unfolding with_best
best-linked w b n = rw (ne_eqb (mark w) 0 n)

module _ (w b : ℕ) (h : b < best_bound) where
  pub best-set : best_in (with_best w b) ≡ b
  unfolding with_best
  best-set =
      same (mark w) 0
      (λ q e. rw e (plain-best b (block_in w) h (omega arith)))
      (λ n e. rw e (linked-best b (w % link_bound + 1) h (omega arith) (omega arith)))

  pub link_kept : link_in (with_best w b) ≡ link_in w
  unfolding with_best
  link_kept =
      same (mark w) 0
      (λ q e. rw (e, link_none w q) (plain_link b (block_in w) h (omega arith)))
      (λ n e. rw (e, link_some w n) (linked_link b (w % link_bound + 1) h (omega arith) (omega arith)))

  pub block-kept : link_in w ≡ 0 → block_in (with_best w b) ≡ block_in w
  unfolding with_best
  block-kept e = rw (eq-eqb (mark w) 0 (unmarked w e)) (plain-block b (block_in w) h (omega arith))

-- ---- a word is made of its parts

pub plain_all : (w : ℕ) → link_in w ≡ 0 → plain (best_in w) (block_in w) ≡ w
plain_all w e =
    let m = unmarked w e in
    let n : best_in w / hop_bound ≡ w % link_bound / block_bound = rw (length_none w m) (omega arith) in
    let h : best_in w % hop_bound ≡ w / link_bound = rw (length_none w m) (omega arith) in
    rw (n, h) (omega arith)

-- no best, no link, block 0
pub cell-blank : (w : ℕ) → best_in w ≡ 0 → link_in w ≡ 0 → block_in w ≡ 0 → w ≡ 0
cell-blank w b l q = sym (plain_all w l) ∙ rw (b, q)

pub linked_all : (w : ℕ) → link_in w ≢ 0 → linked (best_in w) (link_in w) ≡ w
linked_all w n =
    same (mark w) 0 (λ q _. absurd (n (link_none w q))) (λ q _. omega (arith, link_some w q, length_some w q))

pub best_same : (w : ℕ) → with_best w (best_in w) ≡ w
best_same w =
    same (mark w) 0
    (λ q _. sym (best-plain w (best_in w) q) ∙ plain_all w (link_none w q))
    (λ n _.
    let e = link_some w n in
    let o : link_in w ≢ 0 = λ z. omega (arith, e) in
    sym (best-linked w (best_in w) n) ∙ (rw e at (linked_all w o)))
