-- Document 02's worked cases of item 11: addresses resolved in lists, with their entries. Rows under one statement, decided by
-- computation. Assumes nothing.
use Rattle.std.specs.Prelude.{◌≡◌, refl, List, [], ◌∷◌, ℕ, replicate}
use Rattle.std.proofs.Math.Option.{none, some}
use Rattle.routes.specs.Seen.{Answer, gives, refuses}
use Rattle.routes.specs.Small.{ip}
use Rattle.candidates.specs.Candidate.{Candidate, candidate}
use Rattle.candidates.specs.Seen.{Seen, misfit, foreign, table}
use Rattle.resolver.specs.Entry.{hops}
use Rattle.resolver.specs.Resolve.{Reached, resolve, resolve_on}
use Rattle.resolver.specs.declared.entry.Hop.{Hop}

-- words seen so, with these entries: the address is answered so. The number is the case's in item 11, 0 for a further one
pub record Case : Type 0 where
  pub number : ℕ
  pub words : Seen
  pub entries : List Hop
  pub address : ℕ
  pub answer : Answer Reached

abbrev row : ℕ → Seen → List Hop → ℕ → Answer Reached → Case
row n s es a r = record { number = n; words = s; entries = es; address = a; answer = r }

-- the row with what the definition gives; where the words are no table, every lookup of the walk is refused with 2
abbrev pub got : Case → Case
got c =
    row c.number c.words c.entries c.address
    (resolve_on c.words (λ b. refuses 2) (hops c.entries) c.address)

abbrev pub gots : List Case → List Case
gots [] = []
gots (c ∷ cs) = got c ∷ gots cs

abbrev pub numbers : List Case → List ℕ
numbers [] = []
numbers (c ∷ cs) = c.number ∷ numbers cs

-- ---- lists and entries

abbrev held : ℕ → ℕ → ℕ → Candidate
held a l h = candidate a l 1 0 h

abbrev leaves : ℕ → Hop
leaves i = record { interface = i; gateway = 0 }

abbrev via : ℕ → Hop
via g = record { interface = 0; gateway = g }

abbrev reached : ℕ → Answer Reached
reached i = gives (record { interface = i; gateway = none })

abbrev reached_by : ℕ → ℕ → Answer Reached
reached_by i g = gives (record { interface = i; gateway = some g })

-- 11.1 and 11.3
abbrev mixed : Seen
mixed =
    table 7
    (held 0 0 1
    ∷ held (ip 10 0 0 0) 8 2
    ∷ held (ip 10 1 0 0) 16 3
    ∷ held (ip 192 0 2 0) 24 4
    ∷ held (ip 192 0 2 1) 32 5
    ∷ held (ip 203 0 113 0) 24 300
    ∷ [])

abbrev five : List Hop
five =
    leaves 1
    ∷ via (ip 192 0 2 9)
    ∷ via (ip 10 9 9 9)
    ∷ record { interface = 64; gateway = ip 10 1 0 1 }
    ∷ via (ip 10 1 0 1)
    ∷ []

-- 11.5 and 11.7: n.0.0.0/8 via n, and a chain of four gateways, then an entry of its own
abbrev eights : Seen
eights =
    table 1
    (held (ip 1 0 0 0) 8 1
    ∷ held (ip 2 0 0 0) 8 2
    ∷ held (ip 3 0 0 0) 8 3
    ∷ held (ip 4 0 0 0) 8 4
    ∷ held (ip 5 0 0 0) 8 5
    ∷ [])

abbrev chain : Hop → List Hop
chain e = via (ip 2 0 0 0) ∷ via (ip 3 0 0 0) ∷ via (ip 4 0 0 0) ∷ via (ip 5 0 0 0) ∷ e ∷ []

-- ---- the rows

abbrev pub worked : List Case
worked =
    row 1 mixed five (ip 8 8 8 8) (reached 1)
    ∷ row 1 mixed five (ip 192 0 2 200) (reached 64)
    ∷ row 1 mixed five (ip 10 9 9 9) (reached_by 64 (ip 192 0 2 9))
    ∷ row 1 mixed five (ip 10 1 2 3) (reached_by 64 (ip 192 0 2 9))
    ∷ row 1 mixed five (ip 192 0 2 1) (reached_by 64 (ip 192 0 2 9))
    ∷ row 3 mixed (leaves 1 ∷ via (ip 10 0 0 1) ∷ []) (ip 10 0 0 1) (refuses 22)
    ∷ row 5 eights (chain (leaves 65)) (ip 5 0 0 0) (refuses 21)
    ∷ row 5 eights (chain (leaves 65)) (ip 2 0 0 0) (refuses 21)
    ∷ row 5 eights (chain (leaves 65)) (ip 1 0 0 0) (refuses 22)
    ∷ row 5 eights (chain (leaves 64)) (ip 5 0 0 0) (reached 64)
    ∷ row 7 eights (replicate 256 (leaves 1)) (ip 1 0 0 0) (reached 1)
    ∷ row 7 eights (replicate 257 (leaves 1)) (ip 1 0 0 0) (refuses 21)
    ∷ row 7 eights (replicate 257 (leaves 1)) (ip 9 9 9 9) (refuses 21)
    ∷ row 7 misfit (replicate 257 (leaves 1)) (ip 1 0 0 0) (refuses 1)
    ∷ row 7 foreign (replicate 257 (leaves 1)) (ip 1 0 0 0) (refuses 21)
    ∷ []

-- no route; a hop past the last entry, and with no entry at all; the chain of 11.5 from its second address; a lookup refused
abbrev pub further : List Case
further =
    row 0 eights (chain (leaves 9)) (ip 9 9 9 9) (refuses 20)
    ∷ row 0 mixed five (ip 203 0 113 1) (refuses 21)
    ∷ row 0 mixed [] (ip 8 8 8 8) (refuses 21)
    ∷ row 0 eights (chain (leaves 9)) (ip 1 0 0 0) (refuses 22)
    ∷ row 0 eights (chain (leaves 9)) (ip 2 0 0 0) (reached_by 9 (ip 5 0 0 0))
    ∷ row 0 foreign five (ip 8 8 8 8) (refuses 2)
    ∷ []

pub record Holds : Type 0 where
  pub cases : gots worked ≡ worked
  pub further-cases : gots further ≡ further
  -- none is left out
  pub complete : numbers worked ≡ 1 ∷ 1 ∷ 1 ∷ 1 ∷ 1 ∷ 3 ∷ 5 ∷ 5 ∷ 5 ∷ 5 ∷ 7 ∷ 7 ∷ 7 ∷ 7 ∷ 7 ∷ []

pub resolve-cases : Holds
unfolding resolve
resolve-cases = record { cases = refl; further-cases = refl; complete = refl }
