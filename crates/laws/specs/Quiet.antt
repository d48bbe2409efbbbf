-- The block over the list of a table f : prefix (v, l) ↦ hop: at most q where nothing longer is held below the first q bits.
-- Assumes nothing.
use Rattle.std.specs.Prelude.{◌≡◌, List, [], ◌∷◌}
use Rattle.std.proofs.Common.{◌∙◌, inl, inr, ⊎_elim, mul-div_cancel, arith, pow_pos, shr_lt, shl_lt}
use Prim.Native.Nat.{ℕ, zero, suc, ◌+◌, ◌-◌, ◌*◌, ◌/◌, ◌^◌, ◌≤◌, ◌<◌}
use Rattle.routes.specs.Route.{Route, key, All, hop_at, Wf}
use Rattle.logic.specs.Cases.{same, most}
use Rattle.laws.specs.Sorted.{all_append, hop_skip}
use Rattle.laws.specs.Collect.{routes_hop}
use Rattle.laws.specs.Longest.{routes_wfs}
use Rattle.routes.specs.Collect.{route_of, own, collect, routes}
use Rattle.routes.specs.Block.{Share, block}
use Rattle.laws.specs.Uniform.{Aside, Clear, Member, all_member, share_less}
use Rattle.laws.specs.Block.{block_clear, clear_block}

-- nothing longer is held below the first q bits of a
abbrev pub Quiet : ℕ → (ℕ → ℕ → ℕ) → ℕ → ℕ → Type 0
Quiet W f a q = (b : ℕ) → b < 2 ^ W → Share W q a b → (l : ℕ) → q < l → l ≤ W → f (b / 2 ^ (W - l)) l ≡ 0

pub quiet_more : (W : ℕ) (f : ℕ → ℕ → ℕ) (a q r : ℕ) → q ≤ r → Quiet W f a q → Quiet W f a r
quiet_more W f a q r h z b s e l u w = z b s (share_less W r q a b h e) l (omega arith) w

-- ---- a property of all routes of a table

module _ (W : ℕ) (f : ℕ → ℕ → ℕ) (P : Route → Type 0)
    (each : (d v l : ℕ) → l + d ≡ W → v < 2 ^ l → 1 ≤ f v l → P (route_of d v l (f v l))) where
  all_own : (d v l h : ℕ) → (1 ≤ h → P (route_of d v l h)) → All P (own d v l h)
  all_own d v l zero z = tt
  all_own d v l (suc h) z = (z (omega arith), tt)

  all_collect : (d v l : ℕ) → l + d ≡ W → v < 2 ^ l → All P (collect f d v l)
  unfolding collect
  all_collect zero v l p b = all_own zero v l (f v l) (each zero v l p b)
  all_collect (suc d) v l p b =
      all_append P (own (suc d) v l (f v l)) _ (all_own (suc d) v l (f v l) (each (suc d) v l p b))
      (all_append P (collect f d (2 * v) (suc l)) _ (all_collect d (2 * v) (suc l) (omega arith) (omega arith))
      (all_collect d (2 * v + 1) (suc l) (omega arith) (omega arith)))

  pub all_routes : All P (routes W f)
  unfolding routes
  all_routes = all_collect W 0 0 (omega arith) (omega arith)

-- a hop that the list has is some route's
pub record Has (rs : List Route) (k : ℕ) : Type 0 where
  pub r : Route
  pub member : Member r rs
  pub here : key r ≡ k

pub hop_member : (rs : List Route) (k : ℕ) → 1 ≤ hop_at rs k → Has rs k
hop_member [] k h = absurd (omega arith)
hop_member (r ∷ rs) k h =
    same (key r) k
    (λ e _. record { r = r; member = inl (λ i. r); here = e })
    (λ n _.
    (let z = hop_member rs k (rw (hop_skip r rs k n) at h) in
    record { r = z.r; member = inr z.member; here = z.here }))

-- ---- quiet is clear

module _ (W : ℕ) (f : ℕ → ℕ → ℕ) (a q : ℕ) (w : W < 256) where
  pub quiet_clear : Quiet W f a q → Clear W (routes W f) a q
  quiet_clear z = all_routes W f (Aside W a q) (λ d v l p b h. most l q (λ u _. inl u) (λ u _. inr (λ s.
      let e : W - l ≡ d = omega arith in
      let y = z (v * 2 ^ d) (rw p at (shl_lt l d b)) s l u (omega arith) in
      omega (arith, h, rw (e, mul-div_cancel v (pow_pos d)) at y))))

  -- the first l bits of b, then zeros
  cut_share : (b l : ℕ) → Share W l b (b / 2 ^ (W - l) * 2 ^ (W - l))
  cut_share b l = mul-div_cancel (b / 2 ^ (W - l)) (pow_pos (W - l))

  pub clear_quiet : Clear W (routes W f) a q → Quiet W f a q
  clear_quiet c b small s l u fits =
      let e : l + (W - l) ≡ W = omega arith in
      let v = b / 2 ^ (W - l) in
      let vs : v < 2 ^ l = shr_lt l (W - l) (rw e small) in
      same (f v l) 0 (λ z _. z) (λ n _.
      let h = hop_member (routes W f) (v * 2 ^ (W - l) * 256 + l) (rw (routes_hop W w f v l fits vs) (omega arith)) in
      let g = all_member (Wf W) (routes W f) (routes_wfs W f) h.r h.member in
      let k : h.r.len ≡ l = omega (arith, h.here, g.fits) in
      let m : h.r.addr ≡ v * 2 ^ (W - l) = omega (arith, h.here, g.fits) in
      let t : Share W q a h.r.addr = rw m (share_less W l q b (v * 2 ^ (W - l)) (omega arith) (cut_share b l) ∙ s) in
      absurd (⊎_elim (λ (x : h.r.len ≤ q). omega arith) (λ (x : Share W q a h.r.addr → ⊥). x t)
      (all_member (Aside W a q) (routes W f) c h.r h.member)))

  -- ---- so the block is the fewest bits that are quiet

  pub block_quiet : a < 2 ^ W → q ≤ W → block W (routes W f) a ≤ q → Quiet W f a q
  block_quiet small fits h = clear_quiet (block_clear W a q small fits (routes W f) (routes_wfs W f) h)

  pub quiet_block : a < 2 ^ W → q ≤ W → Quiet W f a q → block W (routes W f) a ≤ q
  quiet_block small fits z = clear_block W a q small fits (routes W f) (routes_wfs W f) (quiet_clear z)
