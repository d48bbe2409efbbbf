-- The measure is the number of bits left.
use Rattle.sweep.proofs.up.+spread.Given as goal

abbrev pub decreases-spread : goal.decreases-spread
decreases-spread l = l.bits
