-- `lengths_build::tables` meets its contract. The loop keeps that the tables of the lengths below m stand, and end where the next
-- begins. Assumes nothing.
use Rattle.lengths_build.proofs.Whole.{Going}
use Rattle.lengths_build.proofs.tables.Given as goal

abbrev pub invariant-loop-m : goal.invariant-loop-m
invariant-loop-m l = Going l.list.bytes.now l.initial.words l.words l.m l.before
