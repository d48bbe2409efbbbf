-- The first q bits of an address are uniform exactly where no route is longer and shares them. Assumes nothing.
use Rattle.std.specs.Prelude.{◌≡◌, refl, ◌⊎◌, true, false, List, [], ◌∷◌, ℕ, suc, ◌+◌, ◌-◌, ◌*◌, ◌/◌, ◌^◌, ◌≤◌, ◌<◌}
use Rattle.std.proofs.Common.{sym, ap, ◌∙◌, inl, inr, mul-div_cancel, mul-le-mul_right, arith, pow_pos, pow-add, shr-shr, shr_lt}
use Rattle.std.proofs.Common.{eqb-true, eq-eqb, ne_eqb}
use Rattle.std.proofs.Math.Nat.{pow-succ'}
use Rattle.routes.specs.Route.{Route, All, Wf}
use Rattle.routes.specs.Match.{Match, none, found, matches, or_longer, longest}
use Rattle.logic.specs.Cases.{bool, less, most}
use Rattle.laws.specs.Longest.{Wfs}
use Rattle.routes.specs.Block.{Prefix, nothing, first, prefix_of, gets, Share, Uniform}

-- a route is not longer than q, or does not share the first q bits
abbrev pub Aside : ℕ → ℕ → ℕ → Route → Type 0
Aside W a q r = (r.len ≤ q) ⊎ (Share W q a r.addr → ⊥)

abbrev pub Clear : ℕ → List Route → ℕ → ℕ → Type 0
Clear W rs a q = All (Aside W a q) rs

-- who shares more bits shares fewer
pub share_less : (W q l a b : ℕ) → l ≤ q → Share W q a b → Share W l a b
share_less W q l a b h e =
    let s : W - q + (W - l - (W - q)) ≡ W - l = omega arith in
    rw (← s, ← (shr-shr b (W - q) (W - l - (W - q))), ← (shr-shr a (W - q) (W - l - (W - q))), e)

-- ---- clear is uniform

module _ (W a b q : ℕ) (share : Share W q a b) where
  -- a route that matches is not longer than q
  pub aside_short : (r : Route) → Aside W a q r → matches W a r ≡ true → r.len ≤ q
  aside_short r (inl h) m = h
  aside_short r (inr n) m =
      most r.len q (λ h _. h) (λ h _. absurd (n (share_less W r.len q a r.addr (omega arith) (eqb-true _ _ m))))

  alike : (r : Route) → r.len ≤ q → matches W b r ≡ matches W a r
  alike r h = rw (share_less W q r.len a b h share)

  apart : (x : ℕ) → Share W q a x → (r : Route) → q < r.len → (Share W q a r.addr → ⊥) → matches W x r ≡ false
  apart x s r h n = ne_eqb _ _ (λ e. n (share_less W r.len q x r.addr (omega arith) e ∙ s))

  match_same : (r : Route) → Aside W a q r → matches W b r ≡ matches W a r
  match_same r (inl h) = alike r h
  match_same r (inr n) = most r.len q (λ h _. alike r h) (λ h _. apart b share r h n ∙ sym (apart a refl r h n))

  longest_same : (rs : List Route) → Clear W rs a q → longest W b rs ≡ longest W a rs
  longest_same [] c = refl
  longest_same (r ∷ rs) c = rw (match_same r c.0, longest_same rs c.1)

  abbrev Short : Match → Type 0
  Short none = Unit {0}
  Short (found h l) = l ≤ q

  short_or : (r : Route) (m : Match) → r.len ≤ q → Short m → Short (or_longer r m)
  short_or r none h s = h
  short_or r (found g l) h s = less r.len l (λ _ e. rw e s) (λ _ e. rw e h)

  longest_short : (rs : List Route) → Clear W rs a q → Short (longest W a rs)
  longest_short [] c = tt
  longest_short (r ∷ rs) c =
      bool (matches W a r)
      (λ e. rw e (short_or r (longest W a rs) (aside_short r c.0 e) (longest_short rs c.1)))
      (λ e. rw e (longest_short rs c.1))

  prefix_same : (m : Match) → Short m → prefix_of W b m ≡ prefix_of W a m
  prefix_same none s = refl
  prefix_same (found h l) s = rw (share_less W q l a b s share)

  clear_gets : (rs : List Route) → Clear W rs a q → gets W rs b ≡ gets W rs a
  clear_gets rs c = rw (longest_same rs c) (prefix_same (longest W a rs) (longest_short rs c))

pub clear_uniform : (W : ℕ) (rs : List Route) (a q : ℕ) → Clear W rs a q → Uniform W rs a q
clear_uniform W rs a q c b _ s = clear_gets W a b q s rs c

-- ---- uniform is clear

abbrev pub Member : Route → List Route → Type 0
Member r [] = ⊥
Member r (s ∷ rs) = (r ≡ s) ⊎ Member r rs

pub all_members : (P : Route → Type 0) (rs : List Route) → ((r : Route) → Member r rs → P r) → All P rs
all_members P [] f = tt
all_members P (r ∷ rs) f = (f r (inl refl), all_members P rs (λ s m. f s (inr m)))

pub all_member : (P : Route → Type 0) (rs : List Route) → All P rs → (r : Route) → Member r rs → P r
all_member P [] f r m = absurd m
all_member P (s ∷ rs) f r (inl e) = rw e f.0
all_member P (s ∷ rs) f r (inr m) = all_member P rs f.1 r m

-- a prefix of at least n bits
abbrev Long : ℕ → Prefix → Type 0
Long n nothing = ⊥
Long n (first v l) = n ≤ l

abbrev LongM : ℕ → Match → Type 0
LongM n none = ⊥
LongM n (found h l) = n ≤ l

long_own : (r : Route) (m : Match) → LongM r.len (or_longer r m)
long_own r none = omega arith
long_own r (found h l) = less r.len l (λ g e. rw e (omega arith)) (λ g e. rw e (omega arith))

long_or : (n : ℕ) (r : Route) (m : Match) → LongM n m → LongM n (or_longer r m)
long_or n r none x = absurd x
long_or n r (found h l) x = less r.len l (λ g e. rw e x) (λ g e. rw e (omega arith))

long_match : (W a n : ℕ) (m : Match) → LongM n m → Long n (prefix_of W a m)
long_match W a n none x = x
long_match W a n (found h l) x = x

-- the address of a route gets one that is no shorter
own_long : (W : ℕ) (rs : List Route) (r : Route) → Member r rs → LongM r.len (longest W r.addr rs)
own_long W [] r m = absurd m
own_long W (s ∷ rs) r (inl e) =
    rw (← e, eq-eqb (r.addr / 2 ^ (W - r.len)) (r.addr / 2 ^ (W - r.len)) refl) (long_own r (longest W r.addr rs))
own_long W (s ∷ rs) r (inr m) =
    bool (matches W r.addr s)
    (λ e. rw e (long_or r.len s (longest W r.addr rs) (own_long W rs r m)))
    (λ e. rw e (own_long W rs r m))

abbrev some : Prefix → ℕ
some nothing = 0
some (first v k) = 1

no : (v k : ℕ) → nothing ≡ first v k → ⊥
no v k z = let w : ◌≡◌ {A = ℕ} 0 1 = ap some z in omega arith

-- one prefix of two addresses: they share its bits
one_prefix : (W n x y : ℕ) (p : Prefix) (l m : Match) → Long n p → prefix_of W x l ≡ p → prefix_of W y m ≡ p → Share W n x y
one_prefix W n x y nothing l m g e d = absurd g
one_prefix W n x y (first v k) none m g e d = absurd (no v k e)
one_prefix W n x y (first v k) (found h l) none g e d = absurd (no v k d)
one_prefix W n x y (first v k) (found h l) (found h' l') g e d =
    let p : l ≡ k = cc in
    let q : l' ≡ k = cc in
    let u : x / 2 ^ (W - l) ≡ v = cc in
    let w : y / 2 ^ (W - l') ≡ v = cc in
    share_less W k n x y g (rw (← p) (rw (p, ← q) w ∙ sym u))

-- the two halves below v, where e bits follow the next
module _ (W q e v : ℕ) (sum : W ≡ suc (q + e)) (small : v < 2 ^ q) where
  half : (i : ℕ) → i < 2
      → ((2 * v + i) * 2 ^ e < 2 ^ W)
      × ((2 * v + i) * 2 ^ e / 2 ^ (W - q) ≡ v) × ((2 * v + i) * 2 ^ e / 2 ^ (W - suc q) ≡ 2 * v + i)
  half i h =
      let r : W - q ≡ e + 1 = omega arith in
      let s : W - suc q ≡ e = omega arith in
      let z : suc (q + e) ≡ suc q + e = omega arith in
      let t = mul-div_cancel (2 * v + i) (pow_pos e) in
      let k : suc (2 * v + i) ≤ 2 ^ suc q = omega (arith, pow-succ' 2 q) in
      let b : (2 * v + i) / 2 ≡ v = omega arith in (
        rw (sum, z) (omega (arith, pow-add 2 (suc q) e, mul-le-mul_right (2 ^ e) k, pow_pos e)),
        rw (r, ← (shr-shr ((2 * v + i) * 2 ^ e) e 1), t) b,
        rw (s, t),
      )

  halves : Share W (suc q) ((2 * v + 0) * 2 ^ e) ((2 * v + 1) * 2 ^ e) → ⊥
  halves s = omega (arith, (half 0 (omega arith)).2, (half 1 (omega arith)).2)

pub uniform_clear : (W : ℕ) (rs : List Route) (a q : ℕ) → Wfs W rs → a < 2 ^ W → Uniform W rs a q → Clear W rs a q
uniform_clear W rs a q f small u =
    all_members (Aside W a q) rs (λ r m. most r.len q (λ h _. inl h) (λ h _. inr (bad r m h)))
  where
    bad : (r : Route) → Member r rs → q < r.len → Share W q a r.addr → ⊥
    bad r m h s =
        let w = all_member (Wf W) rs f r m in
        let e = W - suc q in
        let v = a / 2 ^ (W - q) in
        let sum : W ≡ suc (q + e) = omega (arith, w.fits) in
        let z : q + (W - q) ≡ W = omega (arith, w.fits) in
        let vs : v < 2 ^ q = shr_lt q (W - q) (rw z small) in
        let x = half W q e v sum vs in
        let g : Long (suc q) (gets W rs a) = rw (← (u r.addr w.inside s)) (longer r m h) in
        let b = (2 * v + 0) * 2 ^ e in
        let c = (2 * v + 1) * 2 ^ e in
        let y = x 0 (omega arith) in
        let z = x 1 (omega arith) in
        halves W q e v sum vs
        (one_prefix W (suc q) _ _ (gets W rs a) (longest W b rs) (longest W c rs) g (u b y.0 y.1) (u c z.0 z.1))
      where
        more : (n k : ℕ) (p : Prefix) → n ≤ k → Long k p → Long n p
        more n k nothing h x = x
        more n k (first v l) h x = omega arith

        longer : (r : Route) → Member r rs → q < r.len → Long (suc q) (gets W rs r.addr)
        longer r m h =
            let a = r.addr in
            more (suc q) r.len (gets W rs a) h (long_match W a r.len (longest W a rs) (own_long W rs r m))
