-- The C face's promises from those of the calls below it. Assumes nothing.
use Rattle.std.specs.Prelude.{◌≡◌, List, ℕ, length}
use Rattle.routes.specs.Seen.{refuses}
use Rattle.logic.specs.Cases.{less}
use Rattle.laws.specs.Given.{given_refused}
use Rattle.lengths.specs.Marks.{words_for}
use Rattle.listing.specs.Listed.{Listed, unlisted, listed}
use Rattle.lengths_build.specs.Answer.{build_on}
use Rattle.lengths_build.specs.Build.{LeavesOn}

-- ---- the copy's build

pub build_kept : (l : Listed) (ws vs : List ℕ) (n : ℕ) → LeavesOn l ws vs → build_on l (length ws) ≡ refuses n → vs ≡ ws
build_kept unlisted ws vs n p e = p
build_kept (listed rs) ws vs n p e =
    less (length ws) (words_for rs)
    (λ h _. p.refused h)
    (λ h d. absurd (given_refused (rw d at e)))
