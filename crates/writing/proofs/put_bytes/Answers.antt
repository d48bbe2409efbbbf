-- `writing::put_bytes` meets its contract: what is left to be copied, and the whole, write the same. Assumes nothing.
use Rattle.std.proofs.Common.{◌≡◌, ◌<◌, length, get_or, sym, ◌∙◌, arith}
use Rattle.address.specs.Parts.{filled, filled-length, filled-own, filled_zero}
use Rattle.writing.proofs.Own.{copy_turn, copy_done}
use Rattle.writing.proofs.put_bytes.Goals as goal
use Rattle.writing.proofs.put_bytes.Goals.{then-i-reach, else-i-reach}

pub loop-i-preserved : goal.loop-i-preserved
loop-i-preserved g c =
    let a = c.args in
    let i = c.loop-i.i in
    let h = filled a.reach a.address in
    let r = c.requires.0 in
    let l : i < length h = omega (arith, filled-length a.address a.reach) in
    let e : c.if-i-reach.byte ≡ get_or h i 0 =
    elim c.if-i-reach.branch [
      | then-i-reach w ↦ w.byte-is ∙ sym (filled-own a.address a.reach (omega arith) i w.if-i-reach.true)
      | else-i-reach w ↦ w.byte-is ∙ sym (filled_zero a.address a.reach (omega arith) i w.if-i-reach.false)
    ]
    in
    copy_turn a.buffer.now h a.at c.loop-i.buffer i c.loop-i.invariant l c.if-i-reach.byte e

pub returns : goal.returns
returns g c =
    let a = c.args in
    copy_done a.buffer.now (filled a.reach a.address) a.at c.loop-i.buffer c.loop-i.i c.loop-i.invariant g.row.L
    (omega (arith, filled-length a.address a.reach)) (omega arith)
