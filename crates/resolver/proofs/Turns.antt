-- What a way stands for: the answer that it is to come to. A turn keeps it, and leaves fewer lookups. Assumes nothing.
--
--     begun ── turned ── turned ── ended        each stands for the answer, and the end is it
use Rattle.std.specs.Prelude.{◌≡◌, ◌≢◌}
use Rattle.std.proofs.Math.Path.{refl}
use Rattle.std.proofs.Math.Option.{Option, some}
use Prim.Native.Nat.{ℕ, zero, suc, ◌-◌, ◌≤◌}
use native.Mathlib.Omega.{arith}
use Rattle.std.proofs.Common.{le-ltb, ap, ◌∙◌, Result}
use Rattle.std.specs.declared.ops.ControlFlow.{ControlFlow}
use Rattle.refusals.specs.declared.Refusal.{Refusal}
use Rattle.resolver.specs.declared.way.Reached.{Reached}
use Rattle.resolver.specs.declared.met.Way as code
use Rattle.resolver.specs.Coded.{as_way, next_of}
use Rattle.routes.specs.Match.{Match}
use Rattle.routes.specs.Match as match
use Rattle.routes.specs.Seen.{Answer, gives, refuses}
use Rattle.resolver.specs.Entry.{Lead, interface, gateway, nowhere, lead_of}
use Rattle.resolver.specs.Resolve.{found, resolve, routed, has_one, or_zero}
use Rattle.resolver.specs.Steps.{Way, asked, goes, turned_by, turned}
use Rattle.resolver.specs.declared.entry.Hop.{Hop}
use Rattle.resolver.specs.declared.way.Resolved.{Resolved}
use Rattle.resolver.specs.Turns.{leads, stands_with, stands, lead, led-stands}

module _ (look : ℕ → Answer Match) (at : ℕ → Hop) where
  asked_by : (n : ℕ) (g : Option ℕ) (m : Answer Match)
      → stands look (lead look at) (asked m (suc n) (has_one g) (or_zero g)) ≡ routed
      (found m (lead look at) g (λ b. resolve look (lead look at) n (some b) b))
  asked_by n g (gives (match.found zero l)) = refl
  asked_by n g (gives (match.found (suc k) l)) = (led-stands look at) k n g (lead_of (at k))
  asked_by n g (gives match.none) = refl
  asked_by n g (refuses m) = refl

  -- a lookup's answer stands for what resolving its address comes to
  pub asked-stands : (n : ℕ) (g : Option ℕ) (a : ℕ)
      → stands look (lead look at) (asked (look a) (suc n) (has_one g) (or_zero g)) ≡ routed
      (resolve look (lead look at) (suc n) g a)
  unfolding resolve
  asked-stands n g a = asked_by n g (look a)

  goes-stands : (n b : ℕ) → stands look (lead look at) (goes look (suc n) b) ≡ routed (resolve look (lead look at) n (some b) b)
  unfolding resolve
  goes-stands zero b = refl
  goes-stands (suc n) b =
      let e : suc (suc n) - 1 ≡ suc n = omega arith in
      rw (le-ltb (suc (suc n)) 2 (omega arith), e) (asked-stands n (some b) b)

  turned_by_lem : (w : Way) (n : ℕ) (l : Lead) → w.left ≡ suc n
      → stands look (lead look at) (turned_by look w l) ≡ leads look (lead look at) w n l
  turned_by_lem w n (interface i) e = refl
  turned_by_lem w n (gateway b) e = rw e (goes-stands n b)
  turned_by_lem w n nowhere e = refl

  -- a turn keeps what is stood for
  pub turned-stands : (w : Way) → w.left ≢ 0 → stands look (lead look at) (turned look w (at w.at)) ≡ stands look (lead look at) w
  turned-stands w p = go w.left refl
    where
      go : (n : ℕ) → w.left ≡ n → stands look (lead look at) (turned look w (at w.at)) ≡ stands_with look (lead look at) w n
      go zero e = absurd (p e)
      go (suc n) e = turned_by_lem w n (lead_of (at w.at)) e

  -- so what the code's turn gives stands for the same
  pub next-stands : (w : code.Way) (n : Result (ControlFlow Reached code.Way) Refusal) (r : Resolved)
      → next_of n ≡ turned look (as_way w) (at w.at) → 1 ≤ w.left → stands look (lead look at) (as_way w) ≡ r
      → stands look (lead look at) (next_of n) ≡ r
  next-stands w n r e s h =
      ap (stands look (lead look at)) e ∙ turned-stands (as_way w) (λ z. omega arith) ∙ h
