-- The same block written into a run of cells, one after another: what the words are then. Assumes nothing.
use Rattle.std.specs.Prelude.{◌≡◌, ◌≢◌, List, length, get_or, set}
use Rattle.std.proofs.Math.Path.{refl}
use Rattle.std.proofs.Common.{◌∙◌, arith}
use Prim.Native.Nat.{ℕ, zero, suc, ◌+◌, ◌-◌, ◌≤◌, ◌<◌}
use Rattle.std.proofs.Math.ListN.{length-set}
use Rattle.std.proofs.Math.Seq.{get_or-set_same, get_or-set_other}
use Rattle.logic.specs.Cases.{same}
use Rattle.sizes.specs.Sizes.{cells_at}
use Rattle.array.specs.With.{with_block}
use Rattle.array.specs.Page.{word}

-- n cells from i on
unfoldable pub filled : List ℕ → ℕ → ℕ → ℕ → List ℕ
filled l i zero q = l
filled l i (suc n) q = set (filled l i n q) (cells_at + (i + n)) (with_block (word l (i + n)) q)

module _ (l : List ℕ) (i q : ℕ) where
  pub fill_length : (n : ℕ) → length (filled l i n q) ≡ length l
  unfolding filled
  fill_length zero = refl
  fill_length (suc n) = length-set (filled l i n q) (cells_at + (i + n)) _ ∙ fill_length n

  -- a word that is none of the cells
  pub fill_other : (n r : ℕ) → ((j : ℕ) → i ≤ j → j < i + n → r ≢ cells_at + j) → get_or (filled l i n q) r 0 ≡ get_or l r 0
  unfolding filled
  fill_other zero r h = refl
  fill_other (suc n) r h =
      get_or-set_other (filled l i n q) (cells_at + (i + n)) r _ 0 (h (i + n) (omega arith) (omega arith))
      ∙ fill_other n r (λ j a b. h j a (omega arith))

  -- one of the cells
  pub fill_cell : (n j : ℕ) → i ≤ j → j < i + n → cells_at + j < length l → word (filled l i n q) j ≡ with_block (word l j) q
  unfolding filled
  fill_cell zero j a b h = absurd (omega arith)
  fill_cell (suc n) j a b h =
      same j (i + n)
      (λ e _. rw (e, get_or-set_same (filled l i n q) (cells_at + (i + n)) _ 0 (rw (fill_length n, ← e) h)))
      (λ m _. get_or-set_other (filled l i n q) (cells_at + (i + n)) (cells_at + j) _ 0 (λ z. omega arith)
      ∙ fill_cell n j a (omega arith) h)

-- ---- a turn of the loop, at cell j

pub fill_none : (l : List ℕ) (i q : ℕ) → l ≡ filled l i (i - i) q
unfolding filled
fill_none l i q = let e : i - i ≡ 0 = omega arith in rw e

pub fill_more : (l m : List ℕ) (i j q : ℕ) → i ≤ j → m ≡ filled l i (j - i) q
    → set m (cells_at + j) (with_block (word m j) q) ≡ filled l i (j + 1 - i) q
unfolding filled
fill_more l m i j q h e =
    let next : j + 1 - i ≡ suc (j - i) = omega arith in
    let back : i + (j - i) ≡ j = omega arith in
    let here : word m j ≡ word l j = rw e (fill_other l i q (j - i) (cells_at + j) (λ k a b z. omega arith)) in
    rw (next, back, ← here, e)
