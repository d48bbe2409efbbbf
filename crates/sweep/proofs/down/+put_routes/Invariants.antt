-- The measure is the number of bits left.
use Rattle.sweep.proofs.down.+put_routes.Given as goal

abbrev pub decreases-put_routes : goal.decreases-put_routes
decreases-put_routes l = l.bits
