-- Document 01's small cases, of IPv4, said of the C face: whatever numbers toggleash_clear, the updates, the call and
-- toggleash_check of a row may answer by their contracts, they say what the row says. Assumes nothing.
--
--     toggleash_clear ──▶ the row's updates ──▶ the row's call ──▶ toggleash_check
--            0                                  what it gives      0, the routes, the arrays
use Rattle.calls.proofs.Rows as rattle_proved
use Rattle.std.specs.Prelude.{List, [], ◌∷◌}
use Rattle.std.proofs.Common.{ap, ◌∙◌}
use Rattle.routes.specs.Family.{v4}
use Rattle.candidates.specs.Small.{Case, small, further}
use Rattle.answers.specs.Numbers.{counted}
use Rattle.calls.specs.Below.{check_below}
use Rattle.calls.specs.Rows as rattle
use Rattle.calls.specs.Rows.{Each}
use Rattle.calls.specs.Exported.{clear_done}
use Rattle.calls.proofs.Exported.{asked-below, series_below}
use Rattle.calls.specs.ExportedRows.{Played, AsSaid}

-- the calls below
abbrev under : {c : Case} → Played c → rattle.Played c
under p =
    record {
      lent = p.cleared.lent;
      size = p.cleared.size;
      cleared = p.words;
      clears = clear_done p.cleared;
      ready = p.ready;
      earlier = p.earlier;
      took = series_below p.took;
      left = p.left;
      told = p.told;
      asked = asked-below p.asked;
      counts = (check_below v4 p.left p.counts p.checks).answer;
      checks = (check_below v4 p.left p.counts p.checks).promise;
    }

as_said : (c : Case) → ((p : rattle.Played c) → rattle.AsSaid c p) → (p : Played c) → AsSaid c p
as_said c f p =
    let s = f (under p) in
    record { answer = s.answer; counts = (check_below v4 p.left p.counts p.checks).told ∙ ap counted s.arrays }

each : (cs : List Case) → Each (λ c. (p : rattle.Played c) → rattle.AsSaid c p) cs → Each (λ c. (p : Played c) → AsSaid c p) cs
each [] f = tt
each (c ∷ cs) f = (as_said c f.0, each cs f.1)

-- P1 to P12
pub small_exported : Each (λ c. (p : Played c) → AsSaid c p) small
small_exported = each small rattle_proved.small_called

-- the A = 4 case, bad input, and the traps of the trade
pub further_exported : Each (λ c. (p : Played c) → AsSaid c p) further
further_exported = each further rattle_proved.further_called
