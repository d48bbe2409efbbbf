-- `writing::put_slot` meets its contract: a free slot has no records, and any other's are those of its feeds. Assumes nothing.
use mathlib.Core.Path.{sym, ◌∙◌}
use Rattle.writing.proofs.Own.{slot_free}
use Rattle.writing.proofs.put_slot.Goals as goal

pub returns-then-is_free : goal.returns-then-is_free
returns-then-is_free c =
    let f = c.is_free in
    slot_free c.requires (sym c.if-is_free.true ∙ f.ensures)
