-- Of the shortest lists the one that is chosen. Assumes nothing.
--
-- The set of an address is its hop; the set of a prefix is what the sets of its halves have in common, or all of both if that is
-- nothing. From the shortest prefix down, a prefix gets a route exactly if the hop from above is not in its set, and the hop is
-- the lowest of its set.
--
--     v, d     the first bits of a prefix and how many bits are below it, so that it has 2 ^ d addresses
--     G        the hop of each address
--     N        no hop is over it
use Rattle.std.specs.Prelude.{cond, List, ℕ, zero, suc, ◌+◌, ◌-◌, ◌*◌, ◌/◌, eqb}
use Rattle.std.specs.Int.Bits.{bit_and, bit_or}
use Rattle.routes.specs.Route.{Route}
use Rattle.routes.specs.Collect.{routes}
use Rattle.shortest.specs.HopSet.{has, only, lowest}
use Rattle.shortest.specs.Shortest.{forwards}

-- what two sets have in common, or all of both if that is nothing
abbrev pub meet : ℕ → ℕ → ℕ
meet x y = cond (eqb (bit_and x y) 0) (bit_or x y) (bit_and x y)

-- the set of a prefix
unfoldable pub set_of : (ℕ → ℕ) → ℕ → ℕ → ℕ
set_of G zero v = only (G v)
set_of G (suc d) v = meet (set_of G d (2 * v)) (set_of G d (2 * v + 1))

-- the hop of the route that a prefix with the set m gets, 0 for none, where h comes from above
abbrev pub pick : ℕ → ℕ → ℕ → ℕ
pick N m h = cond (has m h) 0 (lowest N m)

-- the hop below a prefix: its own, or where that is 0 the one from above
abbrev pub under : ℕ → ℕ → ℕ
under zero h = h
under (suc own) h = suc own

-- the hop that comes from above to the prefix of the first l bits v; nothing comes to length 0
unfoldable pub above : ℕ → ℕ → (ℕ → ℕ) → ℕ → ℕ → ℕ
above N W G zero v = 0
above N W G (suc l) v =
    let h = above N W G l (v / 2) in
    under (pick N (set_of G (W - l) (v / 2)) h) h

-- the hop of its route, 0 for none
unfoldable pub chosen : ℕ → ℕ → (ℕ → ℕ) → ℕ → ℕ → ℕ
chosen N W G v l = pick N (set_of G (W - l) v) (above N W G l v)

-- the list for a list of routes whose hops are up to N
unfoldable pub shortest : ℕ → ℕ → List Route → List Route
shortest N W rs = routes W (chosen N W (forwards W rs))
