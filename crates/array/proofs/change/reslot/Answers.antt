-- `array::change::reslot` meets its contract. Where the same hop wins as before, nothing but the word is to be set; else the cells
-- below take the slot's cover, and those that no longer slot covers give way. Assumes nothing.
use Rattle.array.proofs.Laws.{reslot_still, reslot_done}
use Rattle.array.proofs.change.reslot.Goals as goal

pub returns-then-before-after : goal.returns-then-before-after
returns-then-before-after c =
    let a = c.args in
    let t = c.store-before in
    let o = c.slot_of in
    reslot_still a.page.now t.new.page a.d a.x a.feed a.word c.requires.0 c.requires.1 t.result o.result
    o.ensures.0 t.ensures c.if-before-after.true

pub returns-else-before-after : goal.returns-else-before-after
returns-else-before-after c =
    let a = c.args in
    let t = c.store-before in
    let o = c.slot_of in
    let r = c.recover-cells in
    reslot_done a.page.now t.new.page a.d a.x a.feed a.word c.requires.0 c.requires.1 t.result o.result
    o.ensures.0 t.ensures c.if-before-after.false r.new.page r.result r.ensures
