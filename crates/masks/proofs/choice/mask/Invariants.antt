-- `masks::choice::mask` goes up through the masks and keeps the first of the fewest set bits. Assumes nothing.
use Rattle.std.proofs.Common.{◌≡◌, ℕ}
use Rattle.masks.specs.Mask.{free_b, pick}
use Rattle.masks.specs.Sieve.{held_in, passes}
use Rattle.masks.proofs.choice.mask.Given as goal

abbrev pub invariant-loop-m : goal.invariant-loop-m
invariant-loop-m l = record {
  best : l.best ≡ pick (free_b (held_in l.held)) l.m;
  sifted : (k : ℕ) → passes l.xs l.y k ≡ free_b (held_in l.held) k;
}
