-- What a walk can answer, on any words of a right size: a length and a block are at most the bits of the address. Assumes
-- nothing.
use Rattle.std.specs.Prelude.{◌≡◌, List, ℕ, zero, suc, ◌+◌, ◌-◌, ◌*◌, ◌/◌, ◌≤◌, ltb, eqb}
use Rattle.std.proofs.Common.{arith}
use Rattle.logic.specs.Cases.{bool, less}
use Rattle.sizes.specs.Sizes.{hop_bound}
use Rattle.routes.specs.Match.{Match, none, found}
use Rattle.routes.specs.Answers.{Reply, done, refused, matched}
use Rattle.routes.specs.Answers as reply
use Rattle.numbers.specs.Front.{byte_of}
use Rattle.words.specs.Words.{arrays_of, array_count, bests_of, blocks_of}
use Rattle.lookup.specs.Walk.{hop_of, deeper, walk_from}

-- at most W bits
abbrev pub Within : ℕ → Reply → Type 0
Within W (done h c) = Unit {0}
Within W (reply.found h l q) = (l ≤ W) × (q ≤ W)
Within W (reply.none q) = q ≤ W
Within W (refused n) = Unit {0}

abbrev Short : ℕ → Match → Type 0
Short W none = Unit {0}
Short W (found h l) = l ≤ W

short_more : (W X : ℕ) (m : Match) → W ≤ X → Short W m → Short X m
short_more W X none h s = tt
short_more W X (found a l) h s = omega arith

matched_within : (W q : ℕ) (m : Match) → Short W m → q ≤ W → Within W (matched m q)
matched_within W q none s h = h
matched_within W q (found a l) s h = (s, h)

deeper_short : (base b : ℕ) (m : Match) → b / hop_bound ≤ 8 → Short base m → Short (base + 8) (deeper base m b)
deeper_short base b m h s =
    bool (eqb (hop_of b) 0) (λ e. rw e (short_more base (base + 8) m (omega arith) s)) (λ e. rw e (omega arith))

-- with n of L levels left and a match of the levels above
pub from_within : (L : ℕ) (ws : List ℕ) (x n a : ℕ) (m : Match) → n ≤ L → Short (8 * (L - n)) m
    → Within (8 * L) (walk_from L ws x n a m)
unfolding walk_from
from_within L ws x zero a m h s = tt
from_within L ws x (suc n) a m h s =
    let k = L - suc n in
    let i = byte_of L x k in
    let b = bests_of ws a i in
    let q = blocks_of ws a i in
    let c = (arrays_of ws).link a i in
    let e : 8 * (L - suc n) + 8 ≡ 8 * (L - n) = omega arith in
    less 8 (b / hop_bound)
    (λ _ t. rw t tt)
    (λ l t. rw t (
    let d : Short (8 * (L - n)) (deeper (8 * k) m b) = rw e at (deeper_short (8 * k) b m l s) in
    bool (eqb c 0)
    (λ u. rw u (less 8 q
    (λ _ v. rw v tt)
    (λ p v. rw v (matched_within (8 * L) (8 * k + q) (deeper (8 * k) m b)
    (short_more (8 * (L - n)) (8 * L) (deeper (8 * k) m b) (omega arith) d) (omega arith)))))
    (λ u. rw u (bool (ltb (array_count ws) c)
    (λ v. rw v tt)
    (λ v. rw v (from_within L ws x n c (deeper (8 * k) m b) (omega arith) d))))))
