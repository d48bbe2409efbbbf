-- `writing::put_bytes` meets its contract: what is left to be copied, and the whole, write the same. Assumes nothing.
use Rattle.std.proofs.Common.{◌≡◌, ◌+◌, drop}
use Rattle.std.proofs.lemmas.List.Edits.{sets}
use Rattle.address.specs.Parts.{filled}
use Rattle.writing.proofs.put_bytes.Given as goal

abbrev pub invariant-loop-i : goal.invariant-loop-i
invariant-loop-i g l =
    sets l.buffer (l.at + l.i) (drop l.i (filled l.reach l.fn.address)) ≡ sets l.initial.buffer l.at (filled l.reach l.fn.address)
