-- `sweep::down::put` meets its contract: kind, address, length and hop are the record. Assumes nothing.
use Rattle.std.proofs.Common.{arith}
use Rattle.sweep.proofs.Records.{put_none, put_room, put_address, put_some}
use Rattle.sweep.proofs.down.put.Goals as goal

pub returns-then-hop-eq0 : goal.returns-then-hop-eq0
returns-then-hop-eq0 c = put_none c.requires c.if-hop-eq0.true

pub put_all-requires : goal.put_all-requires
put_all-requires c = (omega arith, omega (arith, put_room c.requires c.if-hop-eq0.false))

pub returns : goal.returns
returns c =
    put_some c.requires c.if-hop-eq0.false _ (put_address c.requires) c.to_be_bytes.ensures c.to_be_bytes-2.ensures c.put_all.ensures
