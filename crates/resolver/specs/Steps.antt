-- How far resolving has come, as numbers, and one turn of it. Assumes nothing.
--
--     waits    left 3, at 1, gateway 10.9.9.9      hop 2 was met, its entry comes next; three lookups are left, its own counted
--     ended    left 0                              the other fields are the answer
use Rattle.std.specs.Prelude.{cond, List, ℕ, zero, suc, ◌-◌, ltb}
use Rattle.routes.specs.Match.{Match}
use Rattle.routes.specs.Match as match
use Rattle.routes.specs.Seen.{Answer, gives, refuses, misfits}
use Rattle.candidates.specs.Seen.{lookup_on}
use Rattle.words.specs.Table.{seen}
use Rattle.lookup.specs.Walk.{walk}
use Rattle.resolver.specs.Entry.{Lead, interface, gateway, nowhere, lead_of}
use Rattle.resolver.specs.Resolve.{match_of, refused_by}
use Rattle.resolver.specs.declared.entry.Hop.{Hop}
use Rattle.resolver.specs.declared.way.Resolved.{Resolved}

-- what the call of lookup answers
abbrev pub looks : List ℕ → ℕ → Answer Match
looks ws a = match_of (lookup_on 32 (seen 4 ws) (walk 4 ws a) a)

-- ---- the numbers

pub record Way : Type 0 where
  pub left : ℕ
  pub at : ℕ
  pub refusal : ℕ
  pub interface : ℕ
  pub through : ℕ
  pub gateway : ℕ

abbrev pub ended : Resolved → Way
ended r =
    record {
      left = 0;
      at = 0;
      refusal = r.refusal;
      interface = r.interface;
      through = r.through;
      gateway = r.gateway;
    }

abbrev pub told_of : Way → Resolved
told_of w =
    record { refusal = w.refusal; interface = w.interface; through = w.through; gateway = w.gateway }

-- a hop is met, with n lookups left, its own counted, after the gateway g if `has` is 1
abbrev pub met : ℕ → ℕ → ℕ → ℕ → Way
met zero n has g = ended (refused_by 21)
met (suc k) n has g = record { left = n; at = k; refusal = 0; interface = 0; through = has; gateway = g }

abbrev pub asked : Answer Match → ℕ → ℕ → ℕ → Way
asked (gives (match.found h l)) n has g = met h n has g
asked (gives match.none) n has g = ended (refused_by 20)
asked (refuses m) n has g = ended (refused_by m)

abbrev pub begun : ℕ → (ℕ → Answer Match) → ℕ → ℕ → Way
begun n look count a =
    cond (misfits n) (ended (refused_by 1)) (cond (ltb 256 count) (ended (refused_by 21)) (asked (look a) 4 0 0))

-- a gateway is looked up, where a lookup is left
abbrev pub goes : (ℕ → Answer Match) → ℕ → ℕ → Way
goes look n b = cond (ltb n 2) (ended (refused_by 22)) (asked (look b) (n - 1) 1 b)

abbrev pub reaches : Way → ℕ → Way
reaches w i =
    record { left = 0; at = 0; refusal = 0; interface = i; through = w.through; gateway = w.gateway }

abbrev pub turned_by : (ℕ → Answer Match) → Way → Lead → Way
turned_by look w (interface i) = reaches w i
turned_by look w (gateway b) = goes look w.left b
turned_by look w nowhere = ended (refused_by 21)

abbrev pub turned : (ℕ → Answer Match) → Way → Hop → Way
turned look w e = turned_by look w (lead_of e)
