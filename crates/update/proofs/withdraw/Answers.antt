-- `update::withdraw` meets its contract: the bytes lent are the address. Assumes nothing.
use Rattle.std.proofs.Common.{arith}
use Rattle.update.proofs.withdraw.Goals as goal

pub withdraw_of-requires : goal.withdraw_of-requires
withdraw_of-requires g c =
    let s = rw (← c.as_slice.ensures) at c.bytes-bytes.ensures.sized in
    record {
      some = omega (arith, s, g.met.A.Address.some_level);
      levels = omega (arith, s, g.met.A.Address.most_levels);
    }

pub returns : goal.returns
returns g c =
    let s = rw (← c.as_slice.ensures) at c.bytes-bytes.ensures.sized in
    let v = rw (← c.as_slice.ensures) at c.bytes-bytes.ensures.valued in
    rw (← s, ← v) c.withdraw_of.ensures
