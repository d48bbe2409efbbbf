-- What the numbers of an answer for C say: the refusal's number, or 0 and the values; every field not meant is 0. Assumes
-- nothing.
use Rattle.std.specs.Prelude.{ℕ}
use Rattle.routes.specs.Match as match
use Rattle.routes.specs.Match.{Match}
use Rattle.routes.specs.Answers.{Reply, done, found, none, refused}
use Rattle.routes.specs.Seen.{Answer, gives, refuses, Counts}
use Rattle.feed.specs.declared.Report.{Report}
use Rattle.answers.specs.declared.Counted.{Counted}
use Rattle.answers.specs.declared.Found.{Found}
use Rattle.answers.specs.declared.Total.{Total}
use Rattle.answers.specs.declared.Updated.{Updated}
use Rattle.answers.specs.declared.Written.{Written}
use Rattle.answers.specs.declared.Ran.{Ran as Fields}
use Rattle.answers.specs.declared.Needed.{Needed}
use Rattle.answers.specs.declared.Matched.{Matched}

abbrev pub refusal : Answer (Unit {0}) → ℕ
refusal (gives u) = 0
refusal (refuses n) = n

abbrev pub counted : Answer Counts → Counted
counted (gives c) = record { refusal = 0; routes = c.routes; arrays = c.arrays }
counted (refuses n) = record { refusal = n; routes = 0; arrays = 0 }

-- no lookup is answered by `done`
abbrev pub looked : Reply → Found
looked (done h c) = record { refusal = 0; found = 0; hop = 0; length = 0; block = 0 }
looked (found h l q) = record { refusal = 0; found = 1; hop = h; length = l; block = q }
looked (none q) = record { refusal = 0; found = 0; hop = 0; length = 0; block = q }
looked (refused n) = record { refusal = n; found = 0; hop = 0; length = 0; block = 0 }

abbrev pub totalled : Answer ℕ → Total
totalled (gives n) = record { refusal = 0; prefixes = n }
totalled (refuses n) = record { refusal = n; prefixes = 0 }

-- no update is answered by `found` or `none`
abbrev pub updated : Reply → Updated
updated (done h c) = record { refusal = 0; hop = h; cells = c }
updated (found h l q) = record { refusal = 0; hop = 0; cells = 0 }
updated (none q) = record { refusal = 0; hop = 0; cells = 0 }
updated (refused n) = record { refusal = n; hop = 0; cells = 0 }

abbrev pub wrote : Answer ℕ → Written
wrote (gives n) = record { refusal = 0; bytes = n }
wrote (refuses n) = record { refusal = n; bytes = 0 }

abbrev pub ran : Answer Report → Fields
ran (gives r) =
    record {
      refusal = 0;
      stop = r.stop;
      consumed = r.consumed;
      written = r.written;
      accepted = r.accepted;
      refused = r.refused;
    }
ran (refuses n) = record { refusal = n; stop = 0; consumed = 0; written = 0; accepted = 0; refused = 0 }

-- ---- the read-only engines

abbrev pub needed : Answer ℕ → Needed
needed (gives n) = record { refusal = 0; words = n }
needed (refuses n) = record { refusal = n; words = 0 }

-- they know no block
abbrev pub matched : Answer Match → Matched
matched (gives match.none) = record { refusal = 0; found = 0; hop = 0; length = 0 }
matched (gives (match.found h l)) = record { refusal = 0; found = 1; hop = h; length = l }
matched (refuses n) = record { refusal = n; found = 0; hop = 0; length = 0 }
