-- `writing::put_all` meets its contract: the part copied to is written whole. Assumes nothing.
use Rattle.std.proofs.Common.{◌≡◌, ◌+◌, ◌-◌, length, arith}
use Rattle.writing.proofs.Own.{put_part}
use Rattle.writing.proofs.put_all.Goals as goal

pub returns : goal.returns
returns g c =
    let a = c.args in
    let k : a.at + g.row.N - a.at ≡ g.row.N = omega arith in
    let l : length a.bytes.now ≡ g.row.N = omega arith in
    let e = put_part a.buffer.now a.at g.row.N a.bytes.now c.copy_from_slice.new.self c.copy_from_slice.ensures.after l (omega arith) in
    record { place = omega arith; list = rw k e }
