-- The search for the longest stretch of zero groups: at the start, and over one group more. Assumes nothing.
use mathlib.Core.Path.{◌≡◌, sym, ap, ◌∙◌}
use mathlib.Core.Logic.{◌≢◌, ⊎_elim}
use Prim.Native.Nat.{ℕ, ◌+◌, ◌-◌, ◌<◌, ◌≤◌}
use native.Mathlib.Omega.{arith}
use Rattle.logic.specs.Cases.{less}
use Rattle.console.specs.Groups.{Zeros, FirstLongest, Goes, Longer}

-- from s to before n stands the stretch of zeros that ends the first n groups: no other that ends them starts before
pub record Current (g : ℕ → ℕ) (n s : ℕ) : Type 0 where
  pub below : s ≤ n
  pub zeros : Zeros g s n
  pub whole : (f : ℕ) → f ≤ n → Zeros g f n → s ≤ f

-- ---- the stretch that ends the groups

goes_on : (g : ℕ → ℕ) (i s : ℕ) → Current g i s → g i ≡ 0 → Current g (i + 1) s
goes_on g i s c e =
    let h = c.below in
    record {
      below = omega arith;
      zeros = λ k a b. less k i (λ l _. c.zeros k a l) (λ l _. let z : k ≡ i = omega arith in ap g z ∙ e);
      whole = λ f a z. less i f (λ l _. omega arith) (λ l _. c.whole f l (λ k p q. z k p (omega arith)));
    }

starts_anew : (g : ℕ → ℕ) (i : ℕ) → g i ≢ 0 → Current g (i + 1) (i + 1)
starts_anew g i n =
    record {
      below = omega arith;
      zeros = λ k a b. absurd (omega arith);
      whole = λ f a z. less i f (λ l _. omega arith) (λ l _. absurd (n (z i l (omega arith))));
    }

pub current : (g : ℕ → ℕ) (x i s s' : ℕ) → Current g i s → x ≡ g i → Goes x s i s' → Current g (i + 1) s'
current g x i s s' c e r =
    ⊎_elim (λ w. rw w.1 (goes_on g i s c (sym e ∙ w.0)))
    (λ w. rw w.1 (starts_anew g i (λ z. w.0 (e ∙ z)))) r

-- ---- the longest

module _ (g : ℕ → ℕ) (i a b s : ℕ) (l : FirstLongest g i a b) (c : Current g (i + 1) s) where
  kept : (i + 1) - s ≤ b - a → FirstLongest g (i + 1) a b
  kept h =
      let o = l.ordered in
      let p = l.inside in
      record {
        ordered = o;
        inside = omega arith;
        zeros = l.zeros;
        longest = λ f t x y z. less i t
            (λ q _. let e : t ≡ i + 1 = omega arith in let d = c.whole f (omega arith) (rw e at z) in omega arith)
            (λ q _. l.longest f t x q z);
        first = λ f t x y z m. less i t (λ q _. omega arith) (λ q _. l.first f t x q z m);
      }

  taken : b - a < (i + 1) - s → FirstLongest g (i + 1) s (i + 1)
  taken h =
      let o = c.below in
      record {
        ordered = o;
        inside = omega arith;
        zeros = c.zeros;
        longest = λ f t x y z. less i t
            (λ q _. let e : t ≡ i + 1 = omega arith in let d = c.whole f (omega arith) (rw e at z) in omega arith)
            (λ q _. let d = l.longest f t x q z in omega arith);
        first = λ f t x y z m. less i t
            (λ q _. let e : t ≡ i + 1 = omega arith in c.whole f (omega arith) (rw e at z))
            (λ q _. let d = l.longest f t x q z in absurd (omega arith));
      }

  pub best : (a' b' : ℕ) → Longer a b s (i + 1) a' b' → FirstLongest g (i + 1) a' b'
  best a' b' r = ⊎_elim (λ w. rw (w.1, w.2) (kept w.0)) (λ w. rw (w.1, w.2) (taken w.0)) r

-- ---- both

-- after n groups: the stretch that ends them starts at s, the longest stands from a to before b
pub record Search (g : ℕ → ℕ) (n s a b : ℕ) : Type 0 where
  pub within : n ≤ 8
  pub running : Current g n s
  pub longest : FirstLongest g n a b

pub turn : (g : ℕ → ℕ) (x i s a b s' a' b' : ℕ) → i < 8 → Search g i s a b → x ≡ g i → Goes x s i s'
    → Longer a b s' (i + 1) a' b' → Search g (i + 1) s' a' b'
turn g x i s a b s' a' b' h p e r l =
    let c = current g x i s s' p.running e r in
    record { within = omega arith; running = c; longest = best g i a b s' p.longest c a' b' l }

pub whole : (g : ℕ → ℕ) (n s a b : ℕ) → Search g n s a b → 8 ≤ n → FirstLongest g 8 a b
whole g n s a b p h =
    let w = p.within in
    let e : 8 ≡ n = omega arith in
    rw e p.longest
