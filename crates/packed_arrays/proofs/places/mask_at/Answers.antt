-- `packed_arrays::places::mask_at` finds the mask of the flags of a page. Assumes nothing.
use Rattle.packed_arrays.proofs.Laws.{mask_one, mask_later}
use Rattle.words.specs.Words.{arrays_of}
use Rattle.packed_arrays.proofs.places.mask_at.Goals as goal

pub returns-then-a-eq1 : goal.returns-then-a-eq1
returns-then-a-eq1 c = mask_one (arrays_of c.args.table.now) c.args.a c.if-a-eq1.true

pub returns : goal.returns
returns c =
    let a = c.args in
    let m = c.mask in
    let later = mask_later a.table.now _ _ a.a m.result c.if-a-eq1.false c.page.ensures c.flag_all.ensures
    m.ensures.0 in
    (later, m.ensures.1)
