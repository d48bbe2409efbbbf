-- From an address to an interface, by the lookups left: four in all. What a lookup answers is a function of the address, so that
-- nothing here knows where it looks. Assumes nothing.
--
--     look 10.1.2.3 ── hop 3 ── its entry ── interface       reached, with the last gateway used
--                                        ── gateway b        look b, with a lookup less
--                                        ── nowhere          21
use Rattle.std.specs.Prelude.{cond, List, ℕ, zero, suc, ltb}
use Rattle.std.proofs.Math.Option.{Option, none, some}
use Rattle.routes.specs.Route.{Route}
use Rattle.routes.specs.Match.{Match, longest}
use Rattle.routes.specs.Match as match
use Rattle.routes.specs.Answers.{Reply}
use Rattle.routes.specs.Answers as reply
use Rattle.routes.specs.Seen.{Answer, gives, refuses}
use Rattle.candidates.specs.Winners.{winners}
use Rattle.candidates.specs.Seen.{Seen, misfit, foreign, table}
use Rattle.lookup.specs.Walk.{walk}
use Rattle.resolver.specs.Entry.{Lead, interface, gateway, nowhere, Entries}
use Rattle.resolver.specs.declared.way.Resolved.{Resolved}

-- ---- the definition

-- the interface, and the last gateway used, if any
pub record Reached : Type 0 where
  pub interface : ℕ
  pub gateway : Option ℕ

-- where an entry leads, after the gateway g: it ends there, or `on` goes on with its gateway
abbrev pub led : Lead → Option ℕ → (ℕ → Answer Reached) → Answer Reached
led (interface i) g on = gives (record { interface = i; gateway = g })
led (gateway b) g on = on b
led nowhere g on = refuses 21

-- what a lookup answers, a longest match or none or a refusal, leads to
abbrev pub found : Answer Match → (ℕ → Lead) → Option ℕ → (ℕ → Answer Reached) → Answer Reached
found (gives (match.found h l)) lead g on = led (lead h) g on
found (gives match.none) lead g on = refuses 20
found (refuses n) lead g on = refuses n

-- the address a, with n lookups left, after the gateway g
unfoldable pub resolve : (ℕ → Answer Match) → (ℕ → Lead) → ℕ → Option ℕ → ℕ → Answer Reached
resolve look lead zero g a = refuses 22
resolve look lead (suc n) g a = found (look a) lead g (λ b. resolve look lead n (some b) b)

-- four lookups, and no more than 256 entries
abbrev pub resolved : (ℕ → Answer Match) → Entries → ℕ → Answer Reached
resolved look es a = cond (ltb 256 es.count) (refuses 21) (resolve look es.lead 4 none a)

-- in a route list
abbrev pub resolve_in : List Route → Entries → ℕ → Answer Reached
resolve_in rs = resolved (λ b. gives (longest 32 b rs))

-- in words, by what they are seen to be: a table's winners decide, and on words that are no table what the walk answers
abbrev pub resolve_on : Seen → (ℕ → Answer Match) → Entries → ℕ → Answer Reached
resolve_on misfit walked es a = refuses 1
resolve_on foreign walked es a = resolved walked es a
resolve_on (table A cs) walked es a = resolve_in (winners cs) es a

-- ---- the layout's walk as such a function

-- a lookup's reply, without the block; no lookup is answered by `done`
abbrev pub match_of : Reply → Answer Match
match_of (reply.done h c) = gives match.none
match_of (reply.found h l q) = gives (match.found h l)
match_of (reply.none q) = gives match.none
match_of (reply.refused n) = refuses n

abbrev pub walked_by : List ℕ → ℕ → Answer Match
walked_by ws a = match_of (walk 4 ws a)

-- ---- the answer in plain numbers: the refusal's number, or 0 and the values; every field not meant is 0

abbrev pub has_one : Option ℕ → ℕ
has_one none = 0
has_one (some g) = 1

abbrev pub or_zero : Option ℕ → ℕ
or_zero none = 0
or_zero (some g) = g

abbrev pub refused_by : ℕ → Resolved
refused_by n = record { refusal = n; interface = 0; through = 0; gateway = 0 }

abbrev pub routed : Answer Reached → Resolved
routed (gives r) =
    record { refusal = 0; interface = r.interface; through = has_one r.gateway; gateway = or_zero r.gateway }
routed (refuses n) = refused_by n
