-- What the functions of the lookup cite: a turn of the walk, as the loop takes it, and the whole. Assumes nothing.
use Rattle.std.proofs.Common.{◌≡◌, sym, List, ℕ, suc, cond, ◌+◌, ◌-◌, ◌*◌, ◌/◌, ◌%◌, ◌≤◌, ◌<◌, eqb, length, arith}
use Rattle.logic.specs.Cases.{same}
use Rattle.sizes.specs.Sizes.{hop_bound}
use Rattle.routes.specs.Match.{Match, none}
use Rattle.routes.specs.Answers.{refused}
use Rattle.numbers.specs.Front.{byte_of}
use Rattle.numbers.specs.Number.{number, AreBytes, number_lt}
use Rattle.words.specs.Words.{arrays_of, array_count, bests_of, blocks_of}
use Rattle.lookup.specs.Walk.{hop_of, deeper, turn, walk_from, walked, looked_up}
use Rattle.lookup.specs.Longest.{walked-seen}

-- the best so far or the cell's own, below `base` bits: what is found down to here
pub newer_found : (best own base r : ℕ) → r ≡ cond (eqb (hop_of own) 0) best (base * hop_bound + own)
    → deeper 0 none r ≡ deeper base (deeper 0 none best) own
newer_found best own base r e =
    same (hop_of own) 0
    (λ q t. (let s : r ≡ best = rw t at e in rw (t, s)))
    (λ q t.
    let s : r ≡ base * hop_bound + own = rw t at e in
    let h : (base * hop_bound + own) % hop_bound ≡ own % hop_bound = omega arith in
    let l : 0 + (base * hop_bound + own) / hop_bound ≡ base + own / hop_bound = omega arith in
    rw (s, h, l, t))

-- level k of L, at array a and with m found above
module _ (L : ℕ) (ws : List ℕ) (x k a : ℕ) (m : Match) where
  pub walk_none : L ≤ k → walk_from L ws x (L - k) a m ≡ refused 2
  unfolding walk_from
  walk_none h = let e : L - k ≡ 0 = omega arith in rw e

  pub walk_turn : k < L
      → walk_from L ws x (L - k) a m
      ≡ (let i = byte_of L x k in
      turn (array_count ws) (8 * k) (bests_of ws a i) (blocks_of ws a i) ((arrays_of ws).link a i) m
      (walk_from L ws x (L - (k + 1))))
  unfolding walk_from
  walk_turn h =
      let left : L - k ≡ suc (L - (k + 1)) = omega arith in
      let here : L - suc (L - (k + 1)) ≡ k = omega arith in
      rw (left, here)

-- what the walk gives is what the words are seen to give
pub walk_seen : (ws bs : List ℕ) → AreBytes bs → 1 ≤ length bs → length bs ≤ 16
    → looked_up (length bs) ws (number bs) ≡ walked (length bs) ws (number bs)
walk_seen ws bs ok h l = sym (walked-seen (length bs) ws (number bs) h (omega arith) (number_lt bs ok))
