-- `masks::sieve::products` takes all pairs. Assumes nothing.
use Rattle.masks.specs.Sieve.{Sifted}
use Rattle.masks.proofs.Pairs.{all_to}
use Rattle.masks.proofs.sieve.products.Given as goal

abbrev pub invariant-loop-slot : goal.invariant-loop-slot
invariant-loop-slot l = Sifted l.initial.xs l.xs 0 l.y (all_to l.held l.slot)
