-- `masks::sieve::passes` tests the bits of Y, then each difference in X. Assumes nothing.
use Rattle.std.proofs.Common.{◌≡◌, true}
use Rattle.logic.specs.Every.{all_b}
use Rattle.masks.specs.Sieve.{meets}
use Rattle.masks.proofs.sieve.passes.Given as goal

abbrev pub invariant-loop-x : goal.invariant-loop-x
invariant-loop-x l = all_b (meets l.xs l.m) l.x ≡ true
