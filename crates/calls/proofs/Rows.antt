-- Document 01's small cases, of IPv4, said of the calls: whatever clear, the updates, the call and the check of a row may answer
-- by their contracts, it is what the row says. Each update is of feed 1 with preference 0. Assumes nothing.
--
--     clear ──▶ the row's updates ──▶ the row's call ──▶ check
--     Ok                              what it gives      the arrays
use Rattle.std.specs.Prelude.{◌≡◌, List, [], ◌∷◌}
use Rattle.candidates.specs.Small.{Case, gots, small, small_cases, further, further-cases}
use Rattle.calls.specs.Rows.{Played, AsSaid, as_said, Each}

each : (cs : List Case) → gots cs ≡ cs → Each (λ c. (p : Played c) → AsSaid c p) cs
each [] e = tt
each (c ∷ cs) e = (as_said c (cc), each cs (cc))

-- P1 to P12
pub small_called : Each (λ c. (p : Played c) → AsSaid c p) small
small_called = each small small_cases.0

-- the A = 4 case, bad input, and the traps of the trade
pub further_called : Each (λ c. (p : Played c) → AsSaid c p) further
further_called = each further further-cases
