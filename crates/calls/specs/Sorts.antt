-- Which sorts of reply can come: no lookup is done, no update is found or finds nothing, and no refusal has the number 0.
-- So the numbers of the C face are read as the replies that they were. Assumes nothing.
use Rattle.std.specs.Prelude.{Bool, true, false, List, ℕ, zero, suc, ◌-◌, ◌*◌, ◌/◌, ◌≤◌, ltb, eqb}
use Rattle.std.proofs.Common.{arith}
use Rattle.logic.specs.Cases.{bool}
use Rattle.sizes.specs.Sizes.{hop_bound}
use Rattle.routes.specs.Family.{Family, levels, width}
use Rattle.routes.specs.Route.{too_long, stray, bad_hop}
use Rattle.routes.specs.Match.{Match, longest}
use Rattle.routes.specs.Match as best
use Rattle.routes.specs.Answers.{Reply, done, found, none, refused, refuse, lacking, matched}
use Rattle.candidates.specs.Candidate.{Candidate, bad_feed, held}
use Rattle.candidates.specs.Winners.{winners}
use Rattle.candidates.specs.Answers.{Update, announce, withdraw, changed, reloaded, faulty, verdict, answer}
use Rattle.candidates.specs.Seen.{Seen, misfit, foreign, table, answer_on, lookup_on}
use Rattle.numbers.specs.Front.{byte_of}
use Rattle.words.specs.Table.{seen}
use Rattle.words.specs.Words.{arrays_of, array_count, bests_of, blocks_of}
use Rattle.lookup.specs.Walk.{deeper, turn, walk_from, walk}

-- ---- a lookup

abbrev pub OfLookup : Reply → Type 0
OfLookup (done h c) = ⊥
OfLookup (found h l q) = Unit {0}
OfLookup (none q) = Unit {0}
OfLookup (refused n) = 1 ≤ n

best-looks : (m : Match) (q : ℕ) → OfLookup (matched m q)
best-looks best.none q = tt
best-looks (best.found h l) q = tt

refuse-looks : (n : ℕ) (b : Bool) (y : Reply) → 1 ≤ n → OfLookup y → OfLookup (refuse n b y)
refuse-looks n true y h p = h
refuse-looks n false y h p = p

turn-looks : (A base b q c : ℕ) (m : Match) (on : ℕ → Match → Reply) → ((c : ℕ) (m : Match) → OfLookup (on c m))
    → OfLookup (turn A base b q c m on)
turn-looks A base b q c m on f =
    refuse-looks 2 (ltb 8 (b / hop_bound)) _ (omega arith)
    (bool (eqb c 0)
    (λ e. rw e (refuse-looks 2 (ltb 8 q) _ (omega arith) (best-looks (deeper base m b) _)))
    (λ e. rw e (refuse-looks 2 (ltb A c) _ (omega arith) (f c (deeper base m b)))))

walk_looks : (L : ℕ) (ws : List ℕ) (x n a : ℕ) (m : Match) → OfLookup (walk_from L ws x n a m)
unfolding walk_from
walk_looks L ws x zero a m = omega arith
walk_looks L ws x (suc n) a m =
    let k = L - suc n in
    let i = byte_of L x k in
    turn-looks (array_count ws) (8 * k) (bests_of ws a i) (blocks_of ws a i) ((arrays_of ws).link a i) m
    (walk_from L ws x n) (walk_looks L ws x n)

pub lookup_looks : (F : Family) (ws : List ℕ) (a : ℕ)
    → OfLookup (lookup_on (width F) (seen (levels F) ws) (walk (levels F) ws a) a)
lookup_looks F ws a = go (seen (levels F) ws)
  where
    go : (s : Seen) → OfLookup (lookup_on (width F) s (walk (levels F) ws a) a)
    go misfit = omega arith
    go foreign = walk_looks (levels F) ws a (levels F) 1 best.none
    go (table A cs) = best-looks (longest (width F) a (winners cs)) _

-- ---- an update

abbrev pub OfUpdate : Reply → Type 0
OfUpdate (done h c) = Unit {0}
OfUpdate (found h l q) = ⊥
OfUpdate (none q) = ⊥
OfUpdate (refused n) = 1 ≤ n

refuse_made : (n : ℕ) (b : Bool) (y : Reply) → 1 ≤ n → OfUpdate y → OfUpdate (refuse n b y)
refuse_made n true y h p = h
refuse_made n false y h p = p

faulty_made : (W : ℕ) (u : Update) (y : Reply) → OfUpdate y → OfUpdate (faulty W u y)
faulty_made W (announce a l h f n) y p =
    refuse_made 3 (too_long W l) _ (omega arith)
    (refuse_made 4 (stray W a l) _ (omega arith)
    (refuse_made 5 (bad_hop h) _ (omega arith) (refuse_made 10 (bad_feed f) y (omega arith) p)))
faulty_made W (withdraw a l f) y p =
    refuse_made 3 (too_long W l) _ (omega arith)
    (refuse_made 4 (stray W a l) _ (omega arith) (refuse_made 10 (bad_feed f) y (omega arith) p))

verdict_made : (W A : ℕ) (cs : List Candidate) (u : Update) → OfUpdate (verdict W A cs u)
verdict_made W A cs (announce a l h f n) =
    refuse_made 8 (lacking W A (winners cs) a l h) (done h (reloaded W cs (changed (announce a l h f n) cs) a l))
    (omega arith) tt
verdict_made W A cs (withdraw a l f) =
    refuse_made 7 (eqb (held cs a l f) 0) (done (held cs a l f) (reloaded W cs (changed (withdraw a l f) cs) a l))
    (omega arith) tt

pub answer_made : (F : Family) (s : Seen) (u : Update) → OfUpdate (answer_on (width F) s u)
unfolding answer
answer_made F misfit u = omega arith
answer_made F foreign u = faulty_made (width F) u (refused 2) (omega arith)
answer_made F (table A cs) u = faulty_made (width F) u (verdict (width F) A cs u) (verdict_made (width F) A cs u)
