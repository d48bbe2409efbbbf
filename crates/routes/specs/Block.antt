-- How much of an answer may be remembered: the route that an address gets, the first bits whose addresses all get one, and the
-- fewest such bits. Assumes nothing.
--
--     10.0.0.0/8, 10.1.4.0/22      10.1.8.0 gets the /8, and so do all that share 21 bits with it
--                                  of those that share 20, 10.1.4.0 does not: its block is 21
use Rattle.std.specs.Prelude.{◌≡◌, List, [], ◌∷◌, ℕ, suc, ◌-◌, ◌/◌, ◌^◌, ◌≤◌, ◌<◌, min, max}
use Rattle.routes.specs.Route.{Route}
use Rattle.routes.specs.Match.{Match, none, found, longest}
use Rattle.numbers.specs.Agree.{agreement}

-- the prefix of the route that an address gets: its first bits and their number. A list has one route for a prefix
pub data Prefix : Type 0 where
  nothing : Prefix
  first : (bits length : ℕ) → Prefix

abbrev pub prefix_of : ℕ → ℕ → Match → Prefix
prefix_of W a none = nothing
prefix_of W a (found h l) = first (a / 2 ^ (W - l)) l

abbrev pub gets : ℕ → List Route → ℕ → Prefix
gets W rs a = prefix_of W a (longest W a rs)

-- two addresses share the first q bits
abbrev pub Share : ℕ → ℕ → ℕ → ℕ → Type 0
Share W q a b = b / 2 ^ (W - q) ≡ a / 2 ^ (W - q)

-- all addresses that share the first q bits with a get the route that a gets, or none as a does
abbrev pub Uniform : ℕ → List Route → ℕ → ℕ → Type 0
Uniform W rs a q = (b : ℕ) → b < 2 ^ W → Share W q a b → gets W rs b ≡ gets W rs a

-- q is the smallest such number
pub record Smallest (W : ℕ) (rs : List Route) (a q : ℕ) : Type 0 where
  pub uniform : Uniform W rs a q
  pub least : (p : ℕ) → p ≤ W → Uniform W rs a p → q ≤ p

-- ---- in a closed form, which `laws` proves to be the smallest

-- a route counts for its length, or for the bits up to the first where it leaves the address
abbrev pub reach : ℕ → ℕ → Route → ℕ
reach W a r = min r.len (suc (agreement W a r.addr))

abbrev pub block : ℕ → List Route → ℕ → ℕ
block W [] a = 0
block W (r ∷ rs) a = max (reach W a r) (block W rs a)
