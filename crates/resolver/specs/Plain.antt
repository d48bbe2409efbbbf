-- Entries as plain words, two an entry, say the same as the entries themselves. Assumes nothing.
--
--     { 1, 0 } { 0, 192.0.2.9 }      1  0  0  192.0.2.9
use Rattle.std.specs.Prelude.{◌≡◌, refl, List, [], ◌∷◌, ℕ, zero, suc, ◌+◌, ◌*◌, ◌/◌, ◌<◌, length, get_or}
use Rattle.std.proofs.Common.{ap, arith}
use Rattle.std.proofs.Math.ListN.{get_or-eq_default}
use Rattle.logic.specs.Cases.{most}
use Rattle.routes.specs.Match.{Match}
use Rattle.routes.specs.Seen.{Answer}
use Rattle.candidates.specs.Seen.{Seen}
use Rattle.resolver.specs.Entry.{Entries, lead_by, absent, hops, plain_at, plain}
use Rattle.resolver.specs.Resolve.{resolve_on}
use Rattle.resolver.specs.declared.entry.Hop.{Hop}

abbrev pub flat : List Hop → List ℕ
flat [] = []
flat (e ∷ es) = e.interface ∷ e.gateway ∷ flat es

flat-length : (es : List Hop) → length (flat es) ≡ 2 * length es
flat-length [] = refl
flat-length (e ∷ es) = let h = flat-length es in omega (arith, h)

flat-count : (es : List Hop) → length (flat es) / 2 ≡ length es
flat-count es = omega (arith, flat-length es)

flat_at : (es : List Hop) (k : ℕ) → k < length es
    → record { interface = get_or (flat es) (2 * k) 0; gateway = get_or (flat es) (2 * k + 1) 0 } ≡ get_or es k absent
flat_at [] k l = absurd (omega arith)
flat_at (e ∷ es) zero l = refl
flat_at (e ∷ es) (suc k) l =
    let y : 2 * suc k ≡ suc (suc (2 * k)) = omega arith in
    let z : suc (suc (2 * k)) + 1 ≡ suc (suc (2 * k + 1)) = omega arith in
    rw (y, z) (flat_at es k (omega arith))

plain_at_lem : (es : List Hop) (k : ℕ) → plain_at (flat es) k ≡ get_or es k absent
plain_at_lem es k =
    rw (flat-count es)
    (most (length es) k (λ l d. rw (d, get_or-eq_default es absent l)) (λ l d. rw d (flat_at es k l)))

plain_flat : (es : List Hop) → plain (flat es) ≡ hops es
plain_flat es = λ i. record { count = flat-count es i; lead = lead_by (λ k. plain_at_lem es k i) }

-- so both calls answer alike
pub plain-alike : (s : Seen) (walked : ℕ → Answer Match) (es : List Hop) (a : ℕ)
    → resolve_on s walked (plain (flat es)) a ≡ resolve_on s walked (hops es) a
plain-alike s walked es a = ap (λ (x : Entries). resolve_on s walked x a) (plain_flat es)
