-- The shortest list that forwards the same: what is meant. Assumes nothing.
--
--     0.0.0.0/0 via 1 ── 0.0.0.0/1 via 2 ── 128.0.0.0/1 via 2            forwards as
--     0.0.0.0/0 via 2                                                    does, and no list of fewer routes forwards so
use Rattle.std.specs.Prelude.{◌≡◌, Bool, true, ◌&&◌, List, [], ◌∷◌, ℕ, ◌^◌, ◌≤◌, ◌<◌, leb, length}
use Rattle.routes.specs.Route.{Route, All, Wf, IsList}
use Rattle.routes.specs.Match.{Match, none, found, longest}

-- the hop of a match, 0 for none
abbrev pub hop_of : Match → ℕ
hop_of none = 0
hop_of (found h l) = h

-- the hop that a list gives to an address, 0 for none
abbrev pub forwards : ℕ → List Route → ℕ → ℕ
forwards W rs a = hop_of (longest W a rs)

-- two lists forward alike: they give every address the same hop, or both none
abbrev pub Alike : ℕ → List Route → List Route → Type 0
Alike W rs qs = (a : ℕ) → a < 2 ^ W → forwards W rs a ≡ forwards W qs a

-- rs is a shortest list for qs: it forwards alike, and every list of prefixes, in order or not, that forwards alike has at least
-- as many routes
pub record IsShortest (W : ℕ) (qs rs : List Route) : Type 0 where
  pub list : IsList W rs
  pub alike : Alike W rs qs
  pub least : (ps : List Route) → All (Wf W) ps → Alike W ps qs → length rs ≤ length ps

-- no hop is over N
abbrev pub upto : ℕ → List Route → Bool
upto N [] = true
upto N (r ∷ rs) = leb r.hop N && upto N rs
