-- `masks::sieve::against` takes the pairs of one prefix with those before it. Assumes nothing.
use Rattle.masks.specs.Sieve.{Sifted}
use Rattle.masks.proofs.Pairs.{row_to}
use Rattle.masks.proofs.sieve.against.Given as goal

abbrev pub invariant-loop-slot : goal.invariant-loop-slot
invariant-loop-slot l = Sifted l.initial.xs l.xs l.from l.y (row_to l.held l.s.slot l.slot)
