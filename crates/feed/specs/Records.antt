-- What a record asks for, as the code reads it from a feed. Assumes nothing.
use Rattle.std.specs.Prelude.{ℕ}
use Rattle.candidates.specs.Answers.{Record, update, announce, withdraw, lookup}
use Rattle.feed.specs.declared.Ask.{Ask}
use Rattle.feed.specs.declared.Ask.TheVariants as ask

-- of the address a
abbrev pub asked_by : Ask → ℕ → Record
asked_by (ask.Announce l h f p) a = update (announce a l h f p)
asked_by (ask.Withdraw l f) a = update (withdraw a l f)
asked_by ask.Look a = lookup a
