-- Chains of gateways: what resolving comes to after k of them, so that a chain that meets an interface within the lookups left is
-- found, and a longer one, or a loop, ends by 22. Assumes nothing.
--
--     a ──▶ b ──▶ c ── interface      two gateways, three lookups
--     a ──▶ b ──▶ a                   a loop: as many gateways as one likes
use Rattle.std.specs.Prelude.{◌≡◌, refl, ℕ, zero, suc, ◌+◌, ◌-◌, ◌*◌, ◌<◌}
use Rattle.std.proofs.Math.Path.{ap}
use Rattle.std.proofs.Common.{subst, ◌∙◌}
use Rattle.std.proofs.Math.Option.{Option, some}
use native.Mathlib.Omega.{arith}
use Rattle.routes.specs.Match.{Match}
use Rattle.routes.specs.Match as match
use Rattle.routes.specs.Seen.{Answer, gives, refuses}
use Rattle.resolver.specs.Entry.{Lead, interface, gateway}
use Rattle.resolver.specs.Resolve.{Reached, led, resolve}

module _ (look : ℕ → Answer Match) (lead : ℕ → Lead) where
  -- the address a has a route, and the entry of its hop leads there
  pub record Leads (a : ℕ) (there : Lead) : Type 0 where
    pub hop : ℕ
    pub length : ℕ
    pub finds : look a ≡ gives (match.found hop length)
    pub says : lead hop ≡ there

  -- from a to b by k gateways
  abbrev pub Chain : ℕ → ℕ → ℕ → Type 0
  Chain zero a b = a ≡ b
  Chain (suc k) a b = (c : ℕ) × (Leads a (gateway c) × Chain k c b)

  -- the last gateway used after k more, the last of which is b
  abbrev pub last_used : ℕ → Option ℕ → ℕ → Option ℕ
  last_used zero g b = g
  last_used (suc k) g b = some b

  later : (k c b : ℕ) → Chain k c b → last_used k (some c) b ≡ some b
  later zero c b e = rw e
  later (suc k) c b w = refl

  abbrev onward : ℕ → ℕ → Answer Reached
  onward n b = resolve look lead n (some b) b

  -- one lookup
  leads_on : (n : ℕ) (g : Option ℕ) (a : ℕ) (there : Lead) → Leads a there
      → resolve look lead (suc n) g a ≡ led there g (onward n)
  unfolding resolve
  leads_on n g a there s = rw (s.finds, s.says)

  -- k gateways take k lookups
  pub after : (k n : ℕ) (g : Option ℕ) (a b : ℕ) → Chain k a b
      → resolve look lead (k + n) g a ≡ resolve look lead n (last_used k g b) b
  after zero n g a b e = let z : 0 + n ≡ n = omega arith in rw (z, e)
  after (suc k) n g a b w =
      let z : suc k + n ≡ suc (k + n) = omega arith in
      rw z (leads_on (k + n) g a (gateway w.0) w.1.0 ∙ after k n (some w.0) w.0 b w.1.1
      ∙ ap (λ (h : Option ℕ). resolve look lead n h b) (later k w.0 b w.1.1))

  -- an interface that is met within the lookups left is found, with the last gateway used
  pub met-found : (k n : ℕ) (g : Option ℕ) (a b i : ℕ) → Chain k a b → k < n → Leads b (interface i)
      → resolve look lead n g a ≡ gives (record { interface = i; gateway = last_used k g b })
  met-found k n g a b i w l s =
      let z : n ≡ k + suc (n - suc k) = omega arith in
      rw z (after k (suc (n - suc k)) g a b w ∙ leads_on (n - suc k) (last_used k g b) b (interface i) s)

  -- a chain of as many gateways as there are lookups, or of more, ends by 22
  pub long_refused : (n : ℕ) (g : Option ℕ) (a b : ℕ) → Chain n a b → resolve look lead n g a ≡ refuses 22
  unfolding resolve
  long_refused n g a b w = let z : n ≡ n + 0 = omega arith in ap (λ (m : ℕ). resolve look lead m g a) z ∙ after n 0 g a b w

  -- ---- a loop is a chain of any length

  join : (k m a b c : ℕ) → Chain k a b → Chain m b c → Chain (k + m) a c
  join zero m a b c e v = let z : 0 + m ≡ m = omega arith in rw (z, e) v
  join (suc k) m a b c w v =
      let z : suc k + m ≡ suc (k + m) = omega arith in rw z (w.0, (w.1.0, join k m w.0 b c w.1.1 v))

  front : (n m a c : ℕ) → Chain (n + m) a c → (b : ℕ) × Chain n a b
  front zero m a c w = (a, refl)
  front (suc n) m a c w =
      let z : suc n + m ≡ suc (n + m) = omega arith in
      let v : Chain (suc (n + m)) a c = subst (λ (j : ℕ). Chain j a c) z w in
      let r = front n m v.0 c v.1.1 in
      (r.0, (v.0, (v.1.0, r.1)))

  rounds : (n k a : ℕ) → Chain (suc k) a a → Chain (n * suc k) a a
  rounds zero k a w = let z : 0 * suc k ≡ 0 = omega arith in rw z refl
  rounds (suc n) k a w =
      let z : suc n * suc k ≡ suc k + n * suc k = omega arith in
      rw z (join (suc k) (n * suc k) a a a w (rounds n k a w))

  pub loop_refused : (n k : ℕ) (g : Option ℕ) (a : ℕ) → Chain (suc k) a a → resolve look lead n g a ≡ refuses 22
  loop_refused n k g a w =
      let z : n * suc k ≡ n + n * k = omega arith in
      let r = front n (n * k) a a (subst (λ (j : ℕ). Chain j a a) z (rounds n k a w)) in
      long_refused n g a r.0 r.1
