-- What the code's answers say, in the words of `Resolve` and in the numbers of `Steps`. Assumes nothing.
use Rattle.std.specs.Prelude.{◌≡◌, refl, ◌⊎◌, Bool, true, false, cond, List, ℕ, zero, suc, ◌+◌, ◌-◌, ◌*◌, ◌/◌, ltb, eqb, length}
use Rattle.std.specs.Prelude.{◌≤◌, Option, Some, None, Result, Ok, Err}
use Rattle.std.specs.declared.ops.ControlFlow.{ControlFlow}
use Rattle.std.specs.declared.ops.ControlFlow.TheVariants.{Continue, Break}
use Rattle.std.proofs.Math.Option as words
use Rattle.std.proofs.Common.{inl, inr}
use Rattle.routes.specs.Answers.{Reply, done, found, none, refused, refuse, matched}
use Rattle.routes.specs.Match as match
use Rattle.sizes.specs.Sizes.{hop_bound}
use Rattle.candidates.specs.Seen.{misfits}
use Rattle.routes.specs.Seen.{Answer, gives, refuses}
use Rattle.numbers.specs.Front.{byte_of}
use Rattle.words.specs.Words.{arrays_of, array_count, bests_of, blocks_of}
use Rattle.lookup.specs.Walk.{deeper, turn, walk_from, walked}
use Rattle.refusals.specs.declared.Refusal.{Refusal}
use Rattle.refusals.specs.Number.{number}
use Rattle.resolver.specs.Resolve as documents
use Rattle.resolver.specs.Resolve.{has_one, or_zero, refused_by, routed}
use Rattle.resolver.specs.Steps.{Way, ended}
use Rattle.resolver.specs.declared.way.Reached.{Reached}
use Rattle.resolver.specs.declared.met.Way as code

-- the gateway used last
abbrev pub last_of : Option ℕ → words.Option ℕ
last_of None = words.none
last_of (Some g) = words.some g

-- as numbers: whether there is one, and which
abbrev pub had : Option ℕ → ℕ
had g = has_one (last_of g)

abbrev pub used : Option ℕ → ℕ
used g = or_zero (last_of g)

-- ---- the answer

abbrev pub reached_of : Reached → documents.Reached
reached_of r = record { interface = r.interface; gateway = last_of r.gateway }

abbrev pub answer_of : Result Reached Refusal → Answer documents.Reached
answer_of (Ok r) = gives (reached_of r)
answer_of (Err e) = refuses (number e)

-- ---- how far it has come

abbrev pub as_way : code.Way → Way
as_way w =
    record {
      left = w.left;
      at = w.at;
      refusal = 0;
      interface = 0;
      through = had w.gateway;
      gateway = used w.gateway;
    }

abbrev pub first_of : Result code.Way Refusal → Way
first_of (Ok w) = as_way w
first_of (Err e) = ended (refused_by (number e))

abbrev pub next_of : Result (ControlFlow Reached code.Way) Refusal → Way
next_of (Ok (Continue w)) = as_way w
next_of (Ok (Break r)) = ended (routed (gives (reached_of r)))
next_of (Err e) = ended (refused_by (number e))

-- a way that goes on has a lookup left, the one that met its hop counted
abbrev pub GoesOn : Result (ControlFlow Reached code.Way) Refusal → Type 0
GoesOn (Ok (Continue w)) = 1 ≤ w.left
GoesOn (Ok (Break r)) = Unit {0}
GoesOn (Err e) = Unit {0}

-- ---- a lookup refuses by 1 or by 2

abbrev pub Knows : Reply → Type 0
Knows (done h c) = Unit {0}
Knows (found h l q) = Unit {0}
Knows (none q) = Unit {0}
Knows (refused n) = (n ≡ 1) ⊎ (n ≡ 2)

knows_refuse : (n : ℕ) (b : Bool) (r : Reply) → (n ≡ 1) ⊎ (n ≡ 2) → Knows r → Knows (refuse n b r)
knows_refuse n true r e k = e
knows_refuse n false r e k = k

knows_matched : (m : match.Match) (q : ℕ) → Knows (matched m q)
knows_matched match.none q = tt
knows_matched (match.found h l) q = tt

knows_turn : (A base b q c : ℕ) (m : match.Match) (on : ℕ → match.Match → Reply)
    → ((a : ℕ) (f : match.Match) → Knows (on a f)) → Knows (turn A base b q c m on)
knows_turn A base b q c m on k =
    knows_refuse 2 (ltb 8 (b / hop_bound)) _ (inr refl)
    (at (eqb c 0))
  where
    at : (z : Bool) → Knows (cond z (refuse 2 (ltb 8 q) (matched (deeper base m b) (base + q)))
        (refuse 2 (ltb A c) (on c (deeper base m b))))
    at true = knows_refuse 2 (ltb 8 q) _ (inr refl) (knows_matched (deeper base m b) (base + q))
    at false = knows_refuse 2 (ltb A c) _ (inr refl) (k c (deeper base m b))

knows_from : (L : ℕ) (ws : List ℕ) (x n a : ℕ) (m : match.Match) → Knows (walk_from L ws x n a m)
unfolding walk_from
knows_from L ws x zero a m = inr refl
knows_from L ws x (suc n) a m =
    let k = L - suc n in
    let i = byte_of L x k in
    knows_turn (array_count ws) (8 * k) (bests_of ws a i) (blocks_of ws a i) ((arrays_of ws).link a i) m (walk_from L ws x n)
    (knows_from L ws x n)

pub knows_walked : (L : ℕ) (ws : List ℕ) (x : ℕ) → Knows (walked L ws x)
knows_walked L ws x = knows_refuse 1 (misfits (length ws)) _ (inl refl) (knows_from L ws x L 1 match.none)
