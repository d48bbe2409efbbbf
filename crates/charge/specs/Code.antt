-- The row that a search tells as its last two words, both 0 where the candidate has no place. Assumes nothing.
use Rattle.std.specs.Prelude.{Option, Some, None, ℕ}
use Rattle.rows.specs.declared.Row as code

abbrev pub mark_in : Option code.Row → ℕ
mark_in None = 0
mark_in (Some r) = r.mark

abbrev pub kept_in : Option code.Row → ℕ
kept_in None = 0
kept_in (Some r) = r.kept
