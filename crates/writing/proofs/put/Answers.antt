-- `writing::put` meets its contract: kind, address, and what follows it, one after the other, are the record. Assumes nothing.
use Rattle.std.proofs.Common.{arith, rules}
use Rattle.writing.proofs.Own.{put_none, put_room, put_end, put_some}
use Rattle.writing.proofs.put.Goals as goal

pub returns-then-word-eq0 : goal.returns-then-word-eq0
returns-then-word-eq0 c = put_none c.requires c.if-word-eq0.true

pub put_all-start-requires : goal.put_all-start-requires
put_all-start-requires c = (omega arith, omega (arith, put_room c.requires c.if-word-eq0.false))

pub put_address-end-requires-clause-room : goal.put_address-end-requires-clause-room
put_address-end-requires-clause-room c =
    (omega arith, omega (arith, put_room c.requires c.if-word-eq0.false, c.put_all-start.ensures.place, c.put_all-start.auto.buffer))

pub put_all-requires : goal.put_all-requires
put_all-requires c = (
  omega arith,
  omega (
    arith,
    put_end c.requires c.if-word-eq0.false c.put_all-start.ensures.place c.put_address-end.ensures.place,
    c.put_all-start.auto.buffer,
    c.put_address-end.auto.buffer,
  ),
)

pub returns : goal.returns
returns c =
    put_some c.requires (search rules) c.if-word-eq0.false c.list_kind.ensures c.put_all-start.ensures c.put_address-end.ensures
    (rw (c.to_be_bytes.ensures, c.hop_in.ensures.0, c.preference_in.ensures.0)) c.put_all.ensures
