-- The measure is the number of bits left.
use Rattle.sweep.proofs.small.+small_hops.Given as goal

abbrev pub decreases-small_hops : goal.decreases-small_hops
decreases-small_hops l = l.bits
