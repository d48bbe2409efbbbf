-- `packed_build::lay` lays one array after the other. Assumes nothing.
use mathlib.Core.Path.{◌≡◌, sym, ◌∙◌}
use native.Mathlib.Omega.{arith}
use Prim.Native.Nat.{ℕ, ◌≤◌}
use Rattle.std.proofs.Common.{Some, ne_eqb}
use Rattle.logic.specs.Nonzero.{nonzero}
use Rattle.words.specs.Words.{arrays_of}
use Rattle.packed_arrays.specs.Flags.{table_tells}
use Rattle.packed_build.specs.Laying.{room_at, laid_more, laid_same}
use Rattle.packed_build.proofs.lay.Goals as goal
use Rattle.packed_build.proofs.lay.Goals.{then-tag-ne0, else-tag-ne0}

some : (a : ℕ) → 1 ≤ a → Some a ≡ nonzero a
some a h = rw (ne_eqb a 0 (λ z. omega arith))

pub fill-requires : goal.fill-requires
fill-requires c =
    let l = c.loop-a in
    let s = some l.a l.auto.a in
    let room = room_at c.args.table.now c.args.map.now c.args.words.now c.requires l.a l.auto.a
    (omega (arith, c.arrays_in-a-end.ensures)) (omega (arith, c.tag.ensures, c.if-tag-ne0.true))
    c.place_in.result c.mask_in.result (c.place_in.ensures l.a s) (c.mask_in.ensures.mask l.a s) in
    let tells = table_tells c.args.table.now c.requires.table l.a l.auto.a (omega (arith, c.arrays_in-a-end.ensures)) in
    (c.mask_in.ensures.small, rw l.invariant.size room, rw c.page.ensures tells)

pub loop-a-preserved : goal.loop-a-preserved
loop-a-preserved c =
    let l = c.loop-a in
    let a = c.args in
    let g = c.tag in
    let s = some l.a l.auto.a in
    elim c.if-tag-ne0.branch [
      | then-tag-ne0 w ↦ rw w.words-is (laid_more a.table.now a.map.now a.words.now c.requires l.a l.auto.a
          (omega (arith, c.arrays_in-a-end.ensures)) (omega (arith, g.ensures, w.if-tag-ne0.true))
          w.place_in.result w.mask_in.result (w.place_in.ensures l.a s) (w.mask_in.ensures.mask l.a s)
          _ l.words _ w.page.ensures w.fill.ensures l.invariant)
      | else-tag-ne0 w ↦ rw w.words-is (laid_same (arrays_of a.table.now) a.words.now l.words l.a l.auto.a
          (sym g.ensures ∙ w.if-tag-ne0.false) l.invariant)
    ]
