-- A prefix in which a list holds no longer one: all of its addresses get one route, so one hop. Assumes nothing.
use Rattle.std.proofs.Math.Path.{◌≡◌, refl, sym, ap}
use Rattle.std.proofs.Common.{◌∙◌, inl, inr, true≢false, arith, eq-eqb}
use Rattle.std.specs.Prelude.{Bool, false, ◌&&◌, ◌||◌, ℕ, ◌+◌, ◌-◌, ◌*◌, ◌/◌, ◌^◌, ◌<◌, ltb, eqb}
use mathlib.Core.List.{List, [], ◌∷◌}
use Rattle.std.proofs.lemmas.Nat.{shl-shr}
use Rattle.logic.specs.Bools.{and_from, or_false}
use Rattle.logic.specs.Cases.{less}
use Rattle.routes.specs.Route.{Route, hop_at}
use Rattle.routes.specs.Match.{Match, none, found, longest}
use Rattle.routes.specs.Block.{Prefix, nothing, first, prefix_of, gets}
use Rattle.laws.specs.Longest.{Wfs, Top, key_at, along, longest-top}
use Rattle.laws.specs.Uniform.{Aside, Clear, clear_uniform}
use Rattle.shortest.specs.HopSet.{only}
use Rattle.shortest.specs.Shortest.{hop_of, forwards}
use Rattle.shortest.specs.Chosen.{set_of}
use Rattle.shortest.specs.Inside.{cost, In, in_head, in_low}
use Rattle.shortest.specs.Leaf.{one_hop}

-- a route is longer than l and lies in the prefix v of length l, with d bits below it
abbrev pub longer_b : ℕ → ℕ → ℕ → Route → Bool
longer_b d v l r = ltb l r.len && eqb (r.addr / 2 ^ d) v

-- some route of a list does
unfoldable pub holds_b : List Route → ℕ → ℕ → ℕ → Bool
holds_b [] d v l = false
holds_b (r ∷ rs) d v l = longer_b d v l r || holds_b rs d v l

-- ---- one route, one hop

bits : Prefix → ℕ
bits nothing = 0
bits (first v l) = v

size : Prefix → ℕ
size nothing = 0
size (first v l) = l

some : Prefix → ℕ
some nothing = 0
some (first v l) = 1

module _ (W : ℕ) (w : W < 256) (rs : List Route) (a b : ℕ) where
  same_hop : (m n : Match) → Top (along W a w rs) W m → Top (along W b w rs) W n → prefix_of W a m ≡ prefix_of W b n
      → hop_of m ≡ hop_of n
  unfolding bits size some
  same_hop none none s t e = refl
  same_hop none (found h l) s t e = absurd (let z : ◌≡◌ {A = ℕ} 0 1 = ap some e in omega arith)
  same_hop (found h l) none s t e = absurd (let z : ◌≡◌ {A = ℕ} 1 0 = ap some e in omega arith)
  same_hop (found h l) (found k m) s t e =
      let q : l ≡ m = ap size e in
      let v : a / 2 ^ (W - l) ≡ b / 2 ^ (W - m) = ap bits e in
      let u : key_at W a l ≡ key_at W b m = rw (v, q) in
      sym s.2 ∙ ap (hop_at rs) u ∙ t.2

  gets_hop : Wfs W rs → gets W rs a ≡ gets W rs b → forwards W rs a ≡ forwards W rs b
  gets_hop f e = same_hop (longest W a rs) (longest W b rs) (longest-top W a w rs f) (longest-top W b w rs f) e

module _ (W : ℕ) (d v l : ℕ) where
  aside : (r : Route) → W - l ≡ d → longer_b d v l r ≡ false → Aside W (v * 2 ^ d) l r
  aside r q t =
      less l r.len
      (λ h e. inr (λ s. true≢false (sym (and_from (ltb l r.len) (eqb (r.addr / 2 ^ d) v) e
      (eq-eqb (r.addr / 2 ^ d) v ((rw q at s) ∙ shl-shr v d))) ∙ t)))
      (λ h _. inl h)

  clear : (rs : List Route) → W - l ≡ d → holds_b rs d v l ≡ false → Clear W rs (v * 2 ^ d) l
  unfolding holds_b
  clear [] q t = tt
  clear (r ∷ rs) q t =
      let x = or_false (longer_b d v l r) (holds_b rs d v l) t in
      (aside r q x, clear rs q (rw x at t))

module _ (W : ℕ) (w : W < 256) (rs : List Route) (f : Wfs W rs) where
  flat_hop : (d v l a : ℕ) → l + d ≡ W → v < 2 ^ l → holds_b rs d v l ≡ false → In d v a
      → forwards W rs a ≡ forwards W rs (v * 2 ^ d)
  flat_hop d v l a e b t i =
      let x = v * 2 ^ d in
      let q : W - l ≡ d = omega arith in
      let h : a / 2 ^ (W - l) ≡ x / 2 ^ (W - l) = rw q (in_head d v a i ∙ sym (shl-shr v d)) in
      gets_hop W w rs a x f (clear_uniform W rs x l (clear W d v l rs q t) a (in_low W d v l a e b i) h)

  -- its set is one hop, and it costs nothing
  pub flat-set : (d v l : ℕ) → l + d ≡ W → v < 2 ^ l → holds_b rs d v l ≡ false
      → (set_of (forwards W rs) d v ≡ only (forwards W rs (v * 2 ^ d))) × (cost (forwards W rs) d v ≡ 0)
  flat-set d v l e b t = one_hop (forwards W rs) (forwards W rs (v * 2 ^ d)) d v (λ a i. flat_hop d v l a e b t i)
