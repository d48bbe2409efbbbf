-- What a way stands for: the answer that it is to come to. A turn keeps it, and leaves fewer lookups. Assumes nothing.
--
--     begun ── turned ── turned ── ended        each stands for the answer, and the end is it
use Rattle.std.specs.Prelude.{◌≡◌, ◌≢◌}
use Rattle.std.proofs.Math.Path.{refl}
use Rattle.std.proofs.Math.Option.{Option, some}
use Prim.Native.Nat.{ℕ, zero, suc, ◌-◌, ◌≤◌, ◌<◌}
use native.Mathlib.Omega.{arith}
use Rattle.logic.specs.Cases.{less}
use Rattle.routes.specs.Match.{Match}
use Rattle.routes.specs.Match as match
use Rattle.routes.specs.Seen.{Answer, gives, refuses}
use Rattle.resolver.specs.Entry.{Lead, interface, gateway, nowhere, lead_of, lead_by}
use Rattle.resolver.specs.Resolve.{refused_by, led, resolve, routed, has_one, or_zero}
use Rattle.resolver.specs.Steps.{Way, told_of, met, asked, goes, reaches, turned_by, turned}
use Rattle.resolver.specs.declared.entry.Hop.{Hop}
use Rattle.resolver.specs.declared.way.Resolved.{Resolved}

-- where `lead` says what the entry of a hop leads to, with n lookups left after this one
abbrev pub leads : (ℕ → Answer Match) → (ℕ → Lead) → Way → ℕ → Lead → Resolved
leads look lead w n (interface i) = told_of (reaches w i)
leads look lead w n (gateway b) = routed (resolve look lead n (some b) b)
leads look lead w n nowhere = refused_by 21

abbrev pub stands_with : (ℕ → Answer Match) → (ℕ → Lead) → Way → ℕ → Resolved
stands_with look lead w zero = told_of w
stands_with look lead w (suc n) = leads look lead w n (lead (suc w.at))

abbrev pub stands : (ℕ → Answer Match) → (ℕ → Lead) → Way → Resolved
stands look lead w = stands_with look lead w w.left

module _ (look : ℕ → Answer Match) (at : ℕ → Hop) where
  abbrev pub lead : ℕ → Lead
  lead = lead_by at

  pub led-stands : (k n : ℕ) (g : Option ℕ) (l : Lead) → leads look lead (met (suc k) (suc n) (has_one g) (or_zero g)) n l
      ≡ routed (led l g (λ b. resolve look lead n (some b) b))
  led-stands k n g (interface i) = refl
  led-stands k n g (gateway b) = refl
  led-stands k n g nowhere = refl

  -- an end is its own answer
  pub ended-stands : (w : Way) → w.left ≡ 0 → told_of w ≡ stands look lead w
  ended-stands w e = rw e

-- ---- and leaves fewer lookups

asked-left : (m : Answer Match) (n t g : ℕ) → (asked m n t g).left ≤ n
asked-left (gives (match.found zero l)) n t g = omega arith
asked-left (gives (match.found (suc k) l)) n t g = omega arith
asked-left (gives match.none) n t g = omega arith
asked-left (refuses m) n t g = omega arith

goes_left : (look : ℕ → Answer Match) (n b : ℕ) → n ≢ 0 → (goes look n b).left < n
goes_left look n b p =
    less n 2 (λ l e. rw e (omega arith)) (λ l e. rw e (omega (arith, asked-left (look b) (n - 1) 1 b)))

pub turned_left : (look : ℕ → Answer Match) (w : Way) (e : Hop) → w.left ≢ 0 → (turned look w e).left < w.left
turned_left look w e p = go (lead_of e)
  where
    go : (l : Lead) → (turned_by look w l).left < w.left
    go (interface i) = omega arith
    go (gateway b) = goes_left look w.left b p
    go nowhere = omega arith
