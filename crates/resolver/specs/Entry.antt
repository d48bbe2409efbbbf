-- The run of entries, one for each hop, and what the entry of a hop says. Assumes nothing.
--
--     hop 1    { 1, - }             interface 1
--     hop 2    { 0, 192.0.2.9 }     the gateway 192.0.2.9, to be looked up in turn
--     hop 3    { 65, - }            out of range
use Rattle.std.specs.Prelude.{cond, List, ℕ, zero, suc, ◌+◌, ◌*◌, ◌/◌, leb, ltb, eqb, length, get_or}
use Rattle.resolver.specs.declared.entry.Hop.{Hop}

pub data Lead : Type 0 where
  interface : (number : ℕ) → Lead
  gateway : (address : ℕ) → Lead
  nowhere : Lead

-- an interface from 1 to 64 is one, 0 means the gateway, and anything else is out of range. The gateway beside an interface has
-- no meaning
abbrev pub lead_of : Hop → Lead
lead_of e = cond (eqb e.interface 0) (gateway e.gateway) (cond (ltb 64 e.interface) nowhere (interface e.interface))

-- how many entries there are, and where the entry of a hop leads
pub record Entries : Type 0 where
  pub count : ℕ
  pub lead : ℕ → Lead

-- the first entry is for hop 1, so hop 0 has none
abbrev pub lead_by : (ℕ → Hop) → ℕ → Lead
lead_by at zero = nowhere
lead_by at (suc k) = lead_of (at k)

-- where there is no entry, one out of range stands for it
abbrev pub absent : Hop
absent = record { interface = 65; gateway = 0 }

abbrev pub hops : List Hop → Entries
hops es = record { count = length es; lead = lead_by (λ k. get_or es k absent) }

-- ---- the same as plain words, two an entry

abbrev pub plain_at : List ℕ → ℕ → Hop
plain_at ws k = cond (leb (length ws / 2) k) absent
    (record { interface = get_or ws (2 * k) 0; gateway = get_or ws (2 * k + 1) 0 })

abbrev pub plain : List ℕ → Entries
plain ws = record { count = length ws / 2; lead = lead_by (plain_at ws) }
