-- Right blocks can always be written: every page has one that differs from it in blocks alone and has them right, and one with a
-- link besides. Assumes nothing.
use Rattle.std.specs.Prelude.{◌≡◌, ◌≢◌, cond, List, eqb, length, get_or, set}
use Rattle.std.proofs.Math.Path.{refl}
use Rattle.std.proofs.Common.{ap, ◌∙◌, arith, eqb-true, eq-eqb}
use Prim.Native.Nat.{ℕ, zero, suc, ◌+◌, ◌≤◌, ◌<◌}
use Rattle.std.proofs.Math.ListN.{length-set}
use Rattle.std.proofs.Math.Seq.{get_or-set_same, get_or-set_other}
use Rattle.logic.specs.Cases.{same}
use Rattle.sizes.specs.Sizes.{array_words, most_arrays, cell_count, cells_at, best_bound}
use Rattle.calm.specs.Least.{block_of, settled_exists}
use Rattle.array.specs.Cell.{best_in, link_in}
use Rattle.array.specs.With.{linked, with_block, linked_link, linked-best}
use Rattle.array.specs.Page.{slots, word, bests, links}
use Rattle.settle.specs.Part.{Recelled}
use Rattle.settle.specs.Settled.{Resettled, put-settled}
use Rattle.settle.specs.Link.{Relinked, set_here, set_other, set-low, set_high}

-- ---- the first n cells, each sent through h

unfoldable pub recelled : (ℕ → ℕ → ℕ) → List ℕ → ℕ → List ℕ
recelled h l zero = l
recelled h l (suc n) = set (recelled h l n) (cells_at + n) (h n (word l n))

module _ (h : ℕ → ℕ → ℕ) (l : List ℕ) where
  recelled-length : (n : ℕ) → length (recelled h l n) ≡ length l
  unfolding recelled
  recelled-length zero = refl
  recelled-length (suc n) = length-set (recelled h l n) (cells_at + n) _ ∙ recelled-length n

  -- a word that is none of the cells
  recelled_other : (n r : ℕ) → ((j : ℕ) → j < n → r ≢ cells_at + j) → get_or (recelled h l n) r 0 ≡ get_or l r 0
  unfolding recelled
  recelled_other zero r o = refl
  recelled_other (suc n) r o =
      get_or-set_other (recelled h l n) (cells_at + n) r _ 0 (o n (omega arith)) ∙ recelled_other n r (λ j b. o j (omega arith))

  -- one of the cells
  recelled-cell : (n j : ℕ) → j < n → cells_at + j < length l → word (recelled h l n) j ≡ h j (word l j)
  unfolding recelled
  recelled-cell zero j b w = absurd (omega arith)
  recelled-cell (suc n) j b w =
      same j n
      (λ e _. rw (e, get_or-set_same (recelled h l n) (cells_at + n) _ 0 (rw (recelled-length n, ← e) w)))
      (λ m _. get_or-set_other (recelled h l n) (cells_at + n) (cells_at + j) _ 0 (λ z. m (omega arith))
      ∙ recelled-cell n j (omega arith) w)

  pub recelled_all : length l ≡ array_words → Recelled l (recelled h l cell_count) h
  recelled_all size = record {
    size = recelled-length cell_count;
    low = λ r b. recelled_other cell_count r (λ j _ e. omega arith);
    high = λ r b. recelled_other cell_count r (λ j c e. omega arith);
    cells = λ j b. recelled-cell cell_count j b (omega arith);
  }

-- ---- all blocks

abbrev pub resettled : List ℕ → List ℕ
resettled l = recelled (λ j w. cond (eqb (links l j) 0) (with_block w (block_of (slots l) (links l) j)) w) l cell_count

pub resettled_right : (l : List ℕ) → length l ≡ array_words → Resettled l (resettled l)
resettled_right l size =
    put-settled l (resettled l) (λ j. eqb (links l j) 0) (block_of (slots l) (links l)) (recelled_all _ l size)
    (λ j b t. let o = eqb-true _ _ t in (o, omega (arith, (settled_exists (slots l) (links l) j b o).fits)))
    (block_of (slots l) (links l)) (λ j b o. rw (eq-eqb _ _ o)) (settled_exists (slots l) (links l))

-- ---- a link

-- cell i with its best and the link a, then all blocks
abbrev pub relinked : List ℕ → ℕ → ℕ → List ℕ
relinked l i a = resettled (set l (cells_at + i) (linked (bests l i) a))

pub relinked_right : (l : List ℕ) (i a : ℕ) → length l ≡ array_words → i < cell_count → bests l i < best_bound
    → 1 ≤ a → a ≤ most_arrays → Relinked l (relinked l i a) i a
relinked_right l i a size ib small some most = record {
  size = r.size ∙ length-set l (cells_at + i) v;
  low = λ k h. r.low k h ∙ set-low l i v size ib k h;
  high = λ k h. r.high k h ∙ set_high l i v size ib k h;
  same_bests = λ j h. r.same_bests j h ∙ same j i
      (λ e _. rw e (ap best_in (set_here l i v size ib) ∙ linked-best (bests l i) a small some most))
      (λ n _. ap best_in (set_other l i v size ib j n));
  here = r.same_links i ib ∙ ap link_in (set_here l i v size ib) ∙ linked_link (bests l i) a small some most;
  same_links = λ j h n. r.same_links j h ∙ ap link_in (set_other l i v size ib j n);
  settled = r.settled;
}
  where
    v : ℕ
    v = linked (bests l i) a

    r : Resettled (set l (cells_at + i) v) (relinked l i a)
    r = resettled_right (set l (cells_at + i) v) (length-set l (cells_at + i) v ∙ size)
