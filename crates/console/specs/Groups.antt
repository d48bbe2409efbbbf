-- The groups of an IPv6 address in a record, and which stretch of zero groups RFC 5952 shortens. Assumes nothing.
use Rattle.std.specs.Prelude.{◌≡◌, ◌≢◌, ◌⊎◌, List, ℕ, ◌+◌, ◌*◌, ◌-◌, ◌<◌, ◌≤◌, get_or}

-- group i, two bytes of the address; it stands after the kind
abbrev pub group : List ℕ → ℕ → ℕ
group bs i = get_or bs (1 + 2 * i) 0 * 256 + get_or bs (1 + 2 * i + 1) 0

-- the groups from f to before t are all zero
abbrev pub Zeros : (ℕ → ℕ) → ℕ → ℕ → Type 0
Zeros g f t = (k : ℕ) → f ≤ k → k < t → g k ≡ 0

-- from a to before b stands the longest stretch of zeros among the first n groups, of equally long ones the first
pub record FirstLongest (g : ℕ → ℕ) (n a b : ℕ) : Type 0 where
  pub ordered : a ≤ b
  pub inside : b ≤ n
  pub zeros : Zeros g a b
  pub longest : (f t : ℕ) → f ≤ t → t ≤ n → Zeros g f t → t - f ≤ b - a
  pub first : (f t : ℕ) → f ≤ t → t ≤ n → Zeros g f t → t - f ≡ b - a → a ≤ f

-- ---- the search, one group a step

-- a stretch from s goes on over a zero group i, and starts anew after another
abbrev pub Goes : (x s i s' : ℕ) → Type 0
Goes x s i s' = ((x ≡ 0) × (s' ≡ s)) ⊎ ((x ≢ 0) × (s' ≡ i + 1))

-- the stretch from a to b, or the one from s to t where that is longer
abbrev pub Longer : (a b s t a' b' : ℕ) → Type 0
Longer a b s t a' b' = ((t - s ≤ b - a) × (a' ≡ a) × (b' ≡ b)) ⊎ ((b - a < t - s) × (a' ≡ s) × (b' ≡ t))
