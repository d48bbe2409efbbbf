-- A word set at a prefix's place: the candidate's list afterwards, and the cells counted are those that a change of the list
-- reports. Assumes nothing.
use Rattle.std.specs.Prelude.{◌≡◌, cond, List, ℕ, ◌+◌, ◌-◌, ◌*◌, ◌^◌, ◌≤◌, ◌<◌, eqb}
use Rattle.std.proofs.Common.{ap, ◌∙◌, arith}
use Rattle.candidates.specs.Answers.{reloaded}
use Rattle.slots.specs.Word.{IsFeed, RightWord}
use Rattle.slots.specs.Winner.{won_hop}
use Rattle.slots.specs.Slot.{with_word}
use Rattle.tree.specs.SlotSet.{TreeSlotSet, Place}
use Rattle.gather.proofs.Views.{tree_winners}
use Rattle.gather.specs.WordSet.{TreeWordSet, won_set}
use Rattle.gather.proofs.WordSet.{won_before, won_after}
use Rattle.words.specs.Words.{feeds_of, arrays_of, array_count, words_of, slots_of}
use Rattle.words.specs.Table.{list_of}
use Rattle.words.specs.TableBut.{TableBut}
use Rattle.words.specs.SlotSet.{slot_set_tree}
use Rattle.update.specs.Reseat.{Reseated}
use Rattle.update.specs.Cells.{cells-place}

module _ {L e : ℕ} {ws vs : List ℕ} {b q k d x f w c m : ℕ} (ok : TableBut L e ws)
    (p : Place (array_count ws) L (arrays_of ws) b q k d x) (g : Reseated ws vs b m d x f w c) where
  -- the tree with the word, and the winners' view of it
  pub seated_tree : TreeWordSet (feeds_of ws) (feeds_of vs) b (2 ^ d + x) f w
  seated_tree = slot_set_tree L e ws vs b (2 ^ d + x) f w p.array g.slot

  pub seated_won : TreeSlotSet (arrays_of ws) (arrays_of vs) b (2 ^ d + x) (won_hop (with_word (words_of ws b (2 ^ d + x)) f w))
  seated_won = won_set (feeds_of ws) (feeds_of vs) b (2 ^ d + x) f w seated_tree

  module _ (i : IsFeed f) (r : RightWord w) (top : k < L) where
    abbrev a : ℕ
    a = (q * 2 ^ d + x) * 2 ^ (8 * L - (8 * k + d))

    abbrev l : ℕ
    l = 8 * k + d

    wide : 8 * L < 256
    wide = omega (arith, ok.shape.levels)

    fits : 8 * k + d ≤ 8 * L
    fits = omega (arith, p.deep)

    pub seated_cells : c ≡ reloaded (8 * L) (list_of L ws) (list_of L vs) ((q * 2 ^ d + x) * 2 ^ (8 * L - (8 * k + d)))
        (8 * k + d)
    seated_cells =
        let t = feeds_of ws in
        let u = feeds_of vs in
        let A = array_count ws in
        rw (
          won_before A L t u b q k d x f w ok.shape p i seated_tree (8 * L) wide fits ok.words,
          won_after A L t u b q k d x f w ok.shape p i seated_tree (8 * L) wide fits ok.words r,
          tree_winners A L t ok.shape ok.words (8 * L) wide,
        )
        (g.count
        ∙ ap (λ (n : ℕ). cond (eqb (slots_of ws b (2 ^ d + x)) (won_hop (with_word (words_of ws b (2 ^ d + x)) f w))) 0 n)
        (cells-place A L (arrays_of ws) b q k d x 0 wide top p))
