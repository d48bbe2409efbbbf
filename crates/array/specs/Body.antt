-- What every page keeps while a slot's word is set and cells are rewritten, right or not: its size, its tag, its totals. Assumes
-- nothing.
use Rattle.std.specs.Prelude.{◌≡◌, List, ℕ, ◌+◌, ◌-◌, ◌^◌, ◌≤◌, ◌<◌, length, get_or}
use Rattle.std.proofs.Common.{◌∙◌, inl, inr, arith, length-set}
use Rattle.sizes.specs.Sizes.{slot_words, slot_at, slot_end, cell_count, totals_at}
use Rattle.slots.specs.Word.{IsFeed}
use Rattle.slots.specs.Page.{page_with, set-outside}
use Rattle.array.specs.Put.{Spot}
use Rattle.array.specs.Place.{slot_low, slot_high}
use Rattle.array.specs.Rewrite.{map_cells, map-length, map_other}

-- m is l but for slots and cells
pub record BodyOnly (l m : List ℕ) : Type 0 where
  pub size : length m ≡ length l
  pub tag : get_or m 0 0 ≡ get_or l 0 0
  pub high : (r : ℕ) → totals_at ≤ r → get_or m r 0 ≡ get_or l r 0

pub body_join : {l m n : List ℕ} → BodyOnly l m → BodyOnly m n → BodyOnly l n
body_join x y = record { size = y.size ∙ x.size; tag = y.tag ∙ x.tag; high = λ r h. y.high r h ∙ x.high r h }

module _ (l : List ℕ) (d x f w : ℕ) (o : Spot l d x) (fe : IsFeed f) where
  high : 2 ^ d + x < slot_end
  high = slot_high d x o.depth o.value

  whole : slot_at (2 ^ d + x) + slot_words ≤ length l
  whole = omega (arith, o.page, high)

  pub body_set : BodyOnly l (page_with l (slot_at (2 ^ d + x)) f w)
  body_set = record {
    size = length-set l (slot_at (2 ^ d + x) + f - 1) w;
    tag = set-outside l (slot_at (2 ^ d + x)) f w whole fe 0 (inl (omega (arith, slot_low d x o.depth o.value)));
    high = λ r h. set-outside l (slot_at (2 ^ d + x)) f w whole fe r (inr (omega (arith, high)));
  }

pub body_map : (f : ℕ → ℕ) (l : List ℕ) (i n : ℕ) → i + n ≤ cell_count → BodyOnly l (map_cells f l i n)
body_map f l i n h = record {
  size = map-length f l i n;
  tag = map_other f l i n 0 (λ j a b e. omega arith);
  high = λ r w. map_other f l i n r (λ j a b e. omega arith);
}
