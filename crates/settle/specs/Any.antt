-- What the writes of slots, links and blocks promise of every page, right or not, and what they promise besides where it was
-- right. Assumes nothing.
use Rattle.std.specs.Prelude.{◌≡◌, refl, ◌≢◌, cond, List, ℕ, ◌+◌, ◌≤◌, ◌<◌, leb, length, get_or, set}
use Rattle.std.proofs.Common.{ap, ◌∙◌, arith, length-set}
use Rattle.sizes.specs.Sizes.{array_words, most_arrays, cell_count, cells_at, totals_at, best_bound}
use Rattle.numbers.specs.Agree.{agreement}
use Rattle.calm.specs.Climb.{climb_of}
use Rattle.array.specs.Page.{slots, bests, links, blocks}
use Rattle.array.specs.Cell.{best_in, link_in}
use Rattle.array.specs.With.{plain, linked, with_block, linked_link, linked-best}
use Rattle.array.specs.Right.{Sound}
use Rattle.array.specs.Body.{BodyOnly}
use Rattle.array.specs.Reslot.{changed_in}
use Rattle.array.specs.declared.change.Changed.{Changed}
use Rattle.settle.specs.Part.{Recelled, stage}
use Rattle.settle.specs.Recell.{reset_in, linked_in, cut_in, linked_is, cut_is}
use Rattle.settle.specs.Settled.{SettledPage, Resettled}
use Rattle.settle.specs.Reset.{Resets}
use Rattle.settle.specs.Link.{Relinked, set_here, set-low, set_high, link_set, link_cut}

-- m is l but for cells
pub record CellsOnly (l m : List ℕ) : Type 0 where
  pub size : length m ≡ length l
  pub low : (r : ℕ) → r < cells_at → get_or m r 0 ≡ get_or l r 0
  pub high : (r : ℕ) → totals_at ≤ r → get_or m r 0 ≡ get_or l r 0

pub cells_same : (l : List ℕ) → CellsOnly l l
cells_same l = record { size = refl; low = λ r h. refl; high = λ r h. refl }

pub cells-again : {l m : List ℕ} {h : ℕ → ℕ → ℕ} → Recelled l m h → CellsOnly l m
cells-again x = record { size = x.size; low = x.low; high = x.high }

pub cells-join : {l m n : List ℕ} → CellsOnly l m → CellsOnly m n → CellsOnly l n
cells-join x y =
    record { size = y.size ∙ x.size; low = λ r h. y.low r h ∙ x.low r h; high = λ r h. y.high r h ∙ x.high r h }

pub body_cells : {l m n : List ℕ} → BodyOnly l m → CellsOnly m n → BodyOnly l n
body_cells x y =
    record { size = y.size ∙ x.size; tag = y.low 0 (omega arith) ∙ x.tag; high = λ r h. y.high r h ∙ x.high r h }

-- blocks written, to the page n; where P held before, they are right
pub record ResettledAny (P : Type 0) (l m n : List ℕ) : Type 0 where
  pub is : m ≡ n
  pub cells : CellsOnly l m
  pub right : P → Resettled l m

-- a slot's word set
pub record ResetsAny (l m : List ℕ) (d x f w : ℕ) (r : Changed) : Type 0 where
  pub is : m ≡ reset_in l d x f w
  pub said : r ≡ changed_in l d x f w
  pub body : BodyOnly l m
  pub right : Sound (slots l) (bests l) → SettledPage l → Resets l m d x f w r

-- the link a put into cell i
pub record LinkedAny (l m : List ℕ) (i a : ℕ) : Type 0 where
  pub is : m ≡ linked_in l i a
  pub cells : CellsOnly l m
  pub here : links m i ≡ a
  pub best : bests m i ≡ bests l i
  pub right : SettledPage l → links l i ≡ 0 → Relinked l m i a

-- the link of cell i cut
pub record CutAny (l m : List ℕ) (i : ℕ) : Type 0 where
  pub is : m ≡ cut_in l i
  pub cells : CellsOnly l m
  pub right : SettledPage l → links l i ≢ 0 → Relinked l m i 0

-- ---- how they come about

set-cells : (l : List ℕ) (i v : ℕ) → length l ≡ array_words → i < cell_count → CellsOnly l (set l (cells_at + i) v)
set-cells l i v n b = record { size = length-set l (cells_at + i) v; low = set-low l i v n b; high = set_high l i v n b }

pub link_any : (l m : List ℕ) (i a q b : ℕ) → length l ≡ array_words → i < cell_count → 1 ≤ a → a ≤ most_arrays
    → b ≡ bests l i → b < best_bound → q ≡ blocks l i → Recelled l m (stage i q 8)
    → LinkedAny l (set m (cells_at + i) (linked b a)) i a
link_any l m i a q b size ib low high be bb qe x =
    let v = linked b a in
    let ms : length m ≡ array_words = x.size ∙ size in
    record {
      is = linked_is l i m a q b size be qe x;
      cells = cells-join (cells-again x) (set-cells m i v ms ib);
      here = ap link_in (set_here m i v ms ib) ∙ linked_link b a bb low high;
      best = ap best_in (set_here m i v ms ib) ∙ linked-best b a bb low high ∙ be;
      right = λ z o. link_set l m i a q b size ib low high z o be bb qe x;
    }

pub cut_any : (l m : List ℕ) (i q v b : ℕ) → length l ≡ array_words → i < cell_count → b ≡ bests l i → b < best_bound
    → q ≡ climb_of (slots (set l (cells_at + i) (plain b 8))) (links (set l (cells_at + i) (plain b 8)))
    (blocks (set l (cells_at + i) (plain b 8))) i 8
    → v ≡ q → Recelled (set l (cells_at + i) (plain b 8)) m (λ j x. cond (leb q (agreement 8 j i)) (with_block x v) x)
    → CutAny l m i
cut_any l m i q v b size ib be bb qe ve x = record {
  is = cut_is l i m q v b size be qe ve x;
  cells = cells-join (set-cells l i (plain b 8) size ib) (cells-again x);
  right = λ z o. link_cut l m i q v b size ib z o be bb qe ve x;
}
