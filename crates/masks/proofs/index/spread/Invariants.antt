-- `masks::index::spread` puts the bits of an index at the places of the mask, lowest first. Assumes nothing.
use Rattle.std.proofs.Common.{◌≡◌, ◌-◌, ◌^◌}
use Rattle.masks.specs.Index.{scatter}
use Rattle.masks.specs.Spread.{spreads}
use Rattle.masks.proofs.index.spread.Given as goal

abbrev pub invariant-loop-k : goal.invariant-loop-k
invariant-loop-k l = spreads (8 - l.k) l.m l.v l.r (2 ^ l.k) ≡ scatter 8 l.mask l.index
