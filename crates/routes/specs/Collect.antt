-- The list of all prefixes that are held, in the order of writing out, from what is held at each: f v l is the hop of the first
-- l bits v, and 0 where that prefix is not held. Assumes nothing.
--
--     a prefix, then all inside its lower half, then all inside its upper half
use Rattle.std.specs.Prelude.{List, [], ◌∷◌, ◌++◌, ℕ, zero, suc, ◌+◌, ◌*◌, ◌^◌}
use Rattle.routes.specs.Route.{Route}

-- the route of the prefix (v, l), where d bits are below it
abbrev pub route_of : ℕ → ℕ → ℕ → ℕ → Route
route_of d v l h = record { addr = v * 2 ^ d; len = l; hop = h }

-- the prefix itself, where it is held
abbrev pub own : ℕ → ℕ → ℕ → ℕ → List Route
own d v l zero = []
own d v l (suc h) = route_of d v l (suc h) ∷ []

-- those that begin with the first l bits v, where d bits are below them
unfoldable pub collect : (ℕ → ℕ → ℕ) → ℕ → ℕ → ℕ → List Route
collect f zero v l = own zero v l (f v l)
collect f (suc d) v l = own (suc d) v l (f v l) ++ (collect f d (2 * v) (suc l) ++ collect f d (2 * v + 1) (suc l))

-- all of the width W
unfoldable pub routes : ℕ → (ℕ → ℕ → ℕ) → List Route
routes W f = collect f W 0 0
