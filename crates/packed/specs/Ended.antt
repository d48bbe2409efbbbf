-- The end of a walk: the last best on the way as one number, its whole length * 65536 + its hop, or a refusal. Assumes nothing.
use Rattle.std.specs.Prelude.{ℕ, Option, Some, None, Result, Ok, Err}
use Rattle.routes.specs.Match.{Match, none, found}
use Rattle.routes.specs.Seen.{Answer, gives, refuses}
use Rattle.lookup.specs.Walk.{deeper}
use Rattle.refusals.specs.declared.Refusal.{Refusal}
use Rattle.refusals.specs.Number.{number}
use Rattle.replies.specs.declared.Best.{Best}

-- past the bests of an address, whose lengths are at most 32: 33 * 65536
abbrev pub astray : ℕ
astray = 2162688

abbrev pub ended : Result ℕ Refusal → Answer Match
ended (Ok e) = gives (deeper 0 none e)
ended (Err r) = refuses (number r)

-- what a lookup finds
abbrev pub told : Option Best → Match
told (Some b) = found b.hop b.length
told None = none
