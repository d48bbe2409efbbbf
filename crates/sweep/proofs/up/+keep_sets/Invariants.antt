-- The measure is the number of bits left.
use Rattle.sweep.proofs.up.+keep_sets.Given as goal

abbrev pub decreases-keep_sets : goal.decreases-keep_sets
decreases-keep_sets l = l.bits
