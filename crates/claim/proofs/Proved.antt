-- The claim is proved: the three demands hold of the C calls of IPv4 and of IPv6. Assumes nothing.
use Rattle.routes.specs.Family.{Family, v4, v6}
use Rattle.claim.specs.Demands.{Demands}
use Rattle.claim.specs.Refusals as refusals
use Rattle.claim.specs.Sessions as sessions
use Rattle.claim.specs.Proved.{demand_2, in_a_row}

pub demands : (F : Family) → Demands F
demands F = record { safe = refusals.demand_1 F; right = demand_2 F; then_held = in_a_row F; any_order = sessions.demand_3 F }

-- "Next on our list is IPv6 by the same method"
pub ipv4 : Demands v4
ipv4 = demands v4

pub ipv6 : Demands v6
ipv6 = demands v6
