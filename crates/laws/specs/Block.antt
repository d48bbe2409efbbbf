-- The block is uniform and no smaller number of bits is. Assumes nothing.
use Rattle.std.specs.Prelude.{◌≡◌, List, [], ◌∷◌, ℕ, ◌^◌, ◌≤◌, ◌<◌}
use Rattle.std.proofs.Common.{sym, inl, inr, arith}
use Rattle.routes.specs.Route.{Route, All, Wf, IsRoute, IsList}
use Rattle.logic.specs.Cases.{most}
use Rattle.laws.specs.Sorted.{all_map}
use Rattle.laws.specs.Longest.{Wfs}
use Rattle.numbers.specs.Agree.{agreement, agree_from, agree_to}
use Rattle.routes.specs.Block.{Uniform, Smallest, reach, block}
use Rattle.laws.specs.Uniform.{Aside, Clear, clear_uniform, uniform_clear}

module _ (W a q : ℕ) (small : a < 2 ^ W) (fits : q ≤ W) where
  reach_aside : (r : Route) → Wf W r → reach W a r ≤ q → Aside W a q r
  reach_aside r w h =
      most r.len q (λ l _. inl l)
      (λ l _. inr (λ s. omega (arith, agree_from W a r.addr q small w.inside fits (sym s))))

  aside_reach : (r : Route) → Wf W r → Aside W a q r → reach W a r ≤ q
  aside_reach r w (inl h) = omega arith
  aside_reach r w (inr n) =
      most q (agreement W a r.addr) (λ h _. absurd (n (sym (agree_to W a r.addr q small w.inside fits h))))
      (λ h _. omega arith)

  pub block_clear : (rs : List Route) → Wfs W rs → block W rs a ≤ q → Clear W rs a q
  block_clear [] f h = tt
  block_clear (r ∷ rs) f h = (reach_aside r f.0 (omega arith), block_clear rs f.1 (omega arith))

  pub clear_block : (rs : List Route) → Wfs W rs → Clear W rs a q → block W rs a ≤ q
  clear_block [] f c = omega arith
  clear_block (r ∷ rs) f c = omega (arith, aside_reach r f.0 c.0, clear_block rs f.1 c.1)

-- a route of at most W bits; no block over such a list has more
abbrev pub Short : ℕ → Route → Type 0
Short W r = r.len ≤ W

pub short_block : (W a : ℕ) (rs : List Route) → All (Short W) rs → block W rs a ≤ W
short_block W a [] f = omega arith
short_block W a (r ∷ rs) f = omega (arith, f.0, short_block W a rs f.1)

pub block-fits : (W a : ℕ) (rs : List Route) → Wfs W rs → block W rs a ≤ W
block-fits W a rs f = short_block W a rs (all_map (Wf W) (Short W) (λ r x. x.fits) rs f)

pub list_wfs : (W : ℕ) (rs : List Route) → IsList W rs → Wfs W rs
list_wfs W rs l = all_map (IsRoute W) (Wf W) (λ r x. x.wf) rs l.routes

-- ---- what is asked of it

-- all addresses that share that many first bits get the same
pub block_uniform : (W : ℕ) (rs : List Route) (a : ℕ) → IsList W rs → a < 2 ^ W → Uniform W rs a (block W rs a)
block_uniform W rs a l small =
    let f = list_wfs W rs l in
    clear_uniform W rs a (block W rs a) (block_clear W a (block W rs a) small (block-fits W a rs f) rs f (omega arith))

-- and it is the smallest number for which they do
pub block_least : (W : ℕ) (rs : List Route) (a q : ℕ) → IsList W rs → a < 2 ^ W → q ≤ W → Uniform W rs a q → block W rs a ≤ q
block_least W rs a q l small fits u =
    let f = list_wfs W rs l in clear_block W a q small fits rs f (uniform_clear W rs a q f small u)

-- the block is what document 02 asks for
pub block_smallest : (W : ℕ) (rs : List Route) (a : ℕ) → IsList W rs → a < 2 ^ W → Smallest W rs a (block W rs a)
block_smallest W rs a l small = record {
  uniform = block_uniform W rs a l small;
  least = λ q fits u. block_least W rs a q l small fits u;
}

-- and no other number is
pub smallest_block : (W : ℕ) (rs : List Route) (a q : ℕ) → IsList W rs → a < 2 ^ W → q ≤ W → Smallest W rs a q
    → q ≡ block W rs a
smallest_block W rs a q l small fits s =
    let b = block_smallest W rs a l small in
    let h : q ≤ block W rs a = s.least (block W rs a) (block-fits W a rs (list_wfs W rs l)) b.uniform in
    omega (arith, b.least q fits s.uniform)
