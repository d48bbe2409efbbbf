-- `packed_arrays::places::places` goes up through the arrays. Assumes nothing.
use mathlib.Core.Path.{sym, ◌∙◌}
use native.Mathlib.Omega.{arith}
use Rattle.words.specs.Words.{arrays_of}
use Rattle.packed_arrays.specs.Flags.{table_tells}
use Rattle.packed_arrays.specs.Mapped.{maps_none, maps_free, maps_used}
use Rattle.packed_arrays.proofs.places.places.Goals as goal
use Rattle.packed_arrays.proofs.places.places.Goals.{then-tag-ne0, else-tag-ne0}

pub loop-a-init : goal.loop-a-init
loop-a-init c =
    maps_none (arrays_of c.args.table.now) c.args.map.now c.told-map

pub mask_at-m-requires : goal.mask_at-m-requires
mask_at-m-requires c =
    let f = c.requires in (
      omega arith,
      omega (arith, c.arrays_in-a-end.ensures, f.whole, f.low),
      table_tells c.args.table.now f c.loop-a.a (omega arith) (omega (arith, c.arrays_in-a-end.ensures)),
    )

pub loop-a-preserved : goal.loop-a-preserved
loop-a-preserved c =
    let l = c.loop-a in
    let t = arrays_of c.args.table.now in
    let g = c.tag in
    elim c.if-tag-ne0.branch [
      | then-tag-ne0 w ↦ rw (w.map-is, w.n-is) (maps_used t l.map l.a l.n l.auto.a l.invariant w.mask_at-m.result w.entries-n.result
          (omega (arith, c.arrays_in-a-end.ensures, c.requires.high)) (omega (arith, g.ensures, w.if-tag-ne0.true)) w.mask_at-m.ensures.0
          w.entries-n.ensures.0)
      | else-tag-ne0 w ↦ rw (w.map-is, w.n-is) (maps_free t l.map l.a l.n l.auto.a l.invariant (sym g.ensures ∙ w.if-tag-ne0.false))
    ]
