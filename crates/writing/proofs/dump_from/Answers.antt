-- `writing::dump_from` meets its contract: the root's length 0, what is below it, and the end, one after the other. Assumes nothing.
use mathlib.Core.Path.{◌∙◌}
use native.Mathlib.Omega.{arith}
use Rattle.writing.proofs.Laws.{ask_root, ask-below_root, end_room, end_wrote}
use Rattle.writing.proofs.dump_from.Goals as goal

pub put_slot-p-requires : goal.put_slot-p-requires
put_slot-p-requires c = ask_root c.requires.starts c.requires.dumps

pub halves-end-requires : goal.halves-end-requires
halves-end-requires c =
    let p = c.put_slot-p in
    ask-below_root c.requires.starts c.requires.dumps p.new.buffer p.result p.auto.buffer p.ensures.place

pub put_all-requires : goal.put_all-requires
put_all-requires c = (
  omega arith,
  omega (
    arith,
    end_room c.requires.starts c.requires.dumps c.put_slot-p.ensures c.halves-end.ensures.wrote,
    c.halves-end.auto.buffer ∙ c.put_slot-p.auto.buffer,
  ),
)

pub returns : goal.returns
returns c = end_wrote c.requires.starts c.requires.dumps c.put_slot-p.ensures c.halves-end.ensures.wrote c.put_all.ensures
