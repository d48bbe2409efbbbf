-- The view of any words gives a list where they are a table's, and where it gives none one of the refusals is due. Assumes
-- nothing.
use Rattle.std.specs.Prelude.{◌≡◌, refl, Bool, true, false, List, ℕ, ◌≤◌, length}
use Rattle.std.proofs.Common.{arith, ne_eqb, le-ltb}
use Rattle.routes.specs.Route.{Route, held}
use Rattle.routes.specs.Seen.{gives, refuses}
use Rattle.candidates.specs.Candidate.{Candidate}
use Rattle.candidates.specs.Winners.{winners}
use Rattle.candidates.specs.Seen.{Seen, misfit, foreign, table}
use Rattle.shortest.specs.Shortest.{upto}
use Rattle.shortest.specs.Seen.{shortest4, bytes_for, short_for, short_on}

pub no_gift : {P : Type 0} {n : ℕ} {qs : List Route} → refuses n ≡ gives qs → P
no_gift e = absurd (let z : ◌≡◌ {A = ℕ} 0 1 = cc in omega arith)

-- with a default route, small hops and the room there is one
pub short_given : (rs : List Route) (room : ℕ) → 1 ≤ held rs 0 0 → upto 32 rs ≡ true
    → bytes_for (length (shortest4 rs)) ≤ room → short_for rs room ≡ gives (shortest4 rs)
short_given rs room d u h =
    rw (ne_eqb (held rs 0 0) 0 (λ e. omega arith), u, le-ltb room (bytes_for (length (shortest4 rs))) h)

-- of any words: only a table has one
pub table_shortest : {P : Type 0} (s : Seen) (l : Bool) (room : ℕ) (qs : List Route) → short_on s l room ≡ gives qs
    → ((A : ℕ) (cs : List Candidate) → s ≡ table A cs → short_for (winners cs) room ≡ gives qs → P) → P
table_shortest s true room qs e p = no_gift e
table_shortest misfit false room qs e p = no_gift e
table_shortest foreign false room qs e p = no_gift e
table_shortest (table A cs) false room qs e p = p A cs refl e
