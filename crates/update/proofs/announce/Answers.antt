-- `update::announce` meets its contract: the bytes lent are the address. Assumes nothing.
use Rattle.std.proofs.Common.{arith}
use Rattle.update.proofs.announce.Goals as goal

pub announce_of-requires : goal.announce_of-requires
announce_of-requires g c =
    let s = rw (← c.as_slice.ensures) at c.bytes-bytes.ensures.sized in
    record {
      some = omega (arith, s, g.met.A.Address.some_level);
      levels = omega (arith, s, g.met.A.Address.most_levels);
    }

pub returns : goal.returns
returns g c =
    let s = rw (← c.as_slice.ensures) at c.bytes-bytes.ensures.sized in
    let v = rw (← c.as_slice.ensures) at c.bytes-bytes.ensures.valued in
    rw (← s, ← v) c.announce_of.ensures
