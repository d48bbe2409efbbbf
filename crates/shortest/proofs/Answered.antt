-- A list that is given for a table is a shortest one for it. Assumes nothing.
use Rattle.std.specs.Prelude.{◌≡◌, List, ℕ, eqb, ltb, length}
use Rattle.std.proofs.Common.{arith}
use Rattle.std.proofs.lemmas.Bool.{eqb-false}
use Rattle.logic.specs.Cases.{bool}
use Rattle.routes.specs.Route.{Route, held, IsList}
use Rattle.routes.specs.Seen.{gives}
use Rattle.laws.specs.Given.{given_one}
use Rattle.shortest.specs.Shortest.{IsShortest, upto}
use Rattle.shortest.specs.Seen.{shortest4, bytes_for, short_for}
use Rattle.shortest.specs.Answered.{no_gift}
use Rattle.shortest.proofs.Proved.{shortest_of}

pub given_shortest : (rs : List Route) (room : ℕ) (qs : List Route) → IsList 32 rs → short_for rs room ≡ gives qs
    → IsShortest 32 rs qs
given_shortest rs room qs i e =
    bool (eqb (held rs 0 0) 0)
    (λ q. no_gift (rw q at e))
    (λ q. bool (upto 32 rs)
    (λ u. bool (ltb room (bytes_for (length (shortest4 rs))))
    (λ r. no_gift (rw (q, u, r) at e))
    (λ r.
    let g : shortest4 rs ≡ qs = given_one (rw (q, u, r) at e) in
    let n = eqb-false (held rs 0 0) 0 q in
    rw g at (shortest_of rs i (omega arith) u)))
    (λ u. no_gift (rw (q, u) at e)))
