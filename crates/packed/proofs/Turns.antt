-- The ways in which a turn of the walk ends, with l levels left before it, and what its end stands for. Assumes nothing.
use mathlib.Core.Path.{◌≡◌}
use mathlib.Core.Logic.{◌≢◌}
use mathlib.Core.Bool.{true, false, cond}
use mathlib.Core.List.{List}
use Prim.Native.Nat.{ℕ, zero, suc, ◌+◌, ◌-◌, ◌*◌, ◌/◌, ◌%◌, ◌^◌, ◌≤◌, ◌<◌}
use native.Mathlib.Omega.{arith}
use lib.Dec.{ltb, eqb}
use lib.ListN.{length, get_or}
use borrow.Author.Tests.{lt-ltb, le-ltb, eq-eqb, ne_eqb}
use Rattle.logic.specs.Cases.{same}
use Rattle.sizes.specs.Sizes.{slot_end, last_slot, cell_slots, cell_count, hop_bound, best_bound}
use Rattle.routes.specs.Match.{Match, none}
use Rattle.routes.specs.Seen.{Answer, gives, refuses}
use Rattle.masks.specs.Prefix.{spare}
use Rattle.masks.specs.Index.{index}
use Rattle.lookup.specs.Walk.{hop_of, deeper}
use Rattle.packed.specs.Over.{has_shift}
use Rattle.packed.specs.Ended.{astray}
use Rattle.packed.specs.Layout.{entry_words, full_mask, gets, outside, turn, walk_from}

-- ---- an entry's test

pub gets_some : (y s e : ℕ) → y < cell_count → s < slot_end → s ≢ 0 → e ≡ spare s → eqb ((cell_slots + y) / 2 ^ e) s ≡ gets y s
gets_some y s e h l n q = rw (q, ne_eqb s 0 n, has_shift y s h (omega arith) l)

-- ---- the best so far or the entry's own

module _ (best own base r : ℕ) (e : r ≡ cond (eqb (hop_of own) 0) best (base * hop_bound + own)) where
  pub newer_found : deeper 0 none r ≡ deeper base (deeper 0 none best) own
  newer_found =
      same (hop_of own) 0
      (λ q t. (let s : r ≡ best = rw t at e in rw (t, s)))
      (λ q t.
      let s : r ≡ base * hop_bound + own = rw t at e in
      let h : (base * hop_bound + own) % hop_bound ≡ own % hop_bound = omega arith in
      let l : 0 + (base * hop_bound + own) / hop_bound ≡ base + own / hop_bound = omega arith in
      rw (s, h, l, t))

  -- it is one of an address
  pub newer_low : best < astray → own < best_bound → base ≤ 24 → r < astray
  newer_low b o l =
      same (hop_of own) 0
      (λ q t. let s : r ≡ best = rw t at e in omega arith)
      (λ q t. let s : r ≡ base * hop_bound + own = rw t at e in omega arith)

-- ---- a turn

-- the turn with k levels below it: the byte that it takes, and the bits above its array
opened : (ws : List ℕ) (x l o m : ℕ) (f : Match) → 1 ≤ l → l ≤ 4
    → walk_from 4 ws x l o m f
    ≡ (let y = x / 2 ^ (8 * (l - 1)) % 256 in
    let w = o + entry_words * index m y in
    outside (ltb full_mask m) (outside (ltb (length ws) (w + entry_words))
    (turn (24 - 8 * (l - 1)) y (get_or ws w 0) (get_or ws (w + 1) 0) (get_or ws (w + 2) 0) f
    (walk_from 4 ws x (l - 1) (get_or ws (w + 2) 0) (get_or ws (w + 3) 0)))))
unfolding walk_from
opened ws x zero o m f h b = absurd (omega arith)
opened ws x (suc k) o m f h b =
    let e : suc k - 1 ≡ k = omega arith in
    let d : 8 * 4 - 8 - 8 * (4 - suc k) ≡ 8 * k = omega arith in
    let s : 8 * (4 - suc k) ≡ 24 - 8 * k = omega arith in
    rw (e, d, s)

module _ (ws : List ℕ) (x l o m : ℕ) (f : Match) (some : 1 ≤ l) (high : l ≤ 4) where
  abbrev y : ℕ
  y = x / 2 ^ (8 * (l - 1)) % 256

  abbrev all : Answer Match
  all = walk_from 4 ws x l o m f

  pub turn_mask : full_mask < m → refuses 2 ≡ all
  turn_mask h = rw (opened ws x l o m f some high, lt-ltb full_mask m h)

  module _ (fit : m ≤ full_mask) (w : ℕ) (at : w ≡ o + entry_words * index m y) where
    pub turn_room : length ws < w + entry_words → refuses 2 ≡ all
    turn_room h =
        rw (opened ws x l o m f some high, le-ltb full_mask m fit, ← at, lt-ltb (length ws) (w + entry_words) h)

    module _ (room : w + entry_words ≤ length ws) where
      pub turn_slot : last_slot < get_or ws w 0 → refuses 2 ≡ all
      turn_slot h =
          rw (opened ws x l o m f some high, le-ltb full_mask m fit, ← at, le-ltb (length ws) (w + entry_words) room)
          (rw (lt-ltb last_slot (get_or ws w 0) h))

      module _ (slot : get_or ws w 0 ≤ last_slot) where
        pub turn_not : gets y (get_or ws w 0) ≡ false → gives f ≡ all
        turn_not g =
            rw (opened ws x l o m f some high, le-ltb full_mask m fit, ← at, le-ltb (length ws) (w + entry_words) room)
            (rw (le-ltb last_slot (get_or ws w 0) slot, g))

        module _ (g : gets y (get_or ws w 0) ≡ true) where
          pub turn_best : best_bound ≤ get_or ws (w + 1) 0 → refuses 2 ≡ all
          turn_best h =
              rw (opened ws x l o m f some high, le-ltb full_mask m fit, ← at, le-ltb (length ws) (w + entry_words) room)
              (rw (le-ltb last_slot (get_or ws w 0) slot, g, lt-ltb 8 (get_or ws (w + 1) 0 / hop_bound) (omega arith)))

          module _ (own : get_or ws (w + 1) 0 < best_bound) where
            abbrev now : Match
            now = deeper (24 - 8 * (l - 1)) f (get_or ws (w + 1) 0)

            pub turn_last : get_or ws (w + 2) 0 ≡ 0 → gives now ≡ all
            turn_last z =
                rw (opened ws x l o m f some high, le-ltb full_mask m fit, ← at, le-ltb (length ws) (w + entry_words) room)
                (rw (le-ltb last_slot (get_or ws w 0) slot, g, le-ltb 8 (get_or ws (w + 1) 0 / hop_bound) (omega arith))
                (rw (eq-eqb (get_or ws (w + 2) 0) 0 z)))

            pub turn_on : get_or ws (w + 2) 0 ≢ 0
                → walk_from 4 ws x (l - 1) (get_or ws (w + 2) 0) (get_or ws (w + 3) 0) now ≡ all
            turn_on n =
                rw (opened ws x l o m f some high, le-ltb full_mask m fit, ← at, le-ltb (length ws) (w + entry_words) room)
                (rw (le-ltb last_slot (get_or ws w 0) slot, g, le-ltb 8 (get_or ws (w + 1) 0 / hop_bound) (omega arith))
                (rw (ne_eqb (get_or ws (w + 2) 0) 0 n)))

-- no level is left
pub turn_end : (ws : List ℕ) (x l o m : ℕ) (f : Match) → l ≡ 0 → refuses 2 ≡ walk_from 4 ws x l o m f
unfolding walk_from
turn_end ws x l o m f z = rw z

-- what a turn of the walk asks
pub ruleset turns = (newer_low, turn_mask, turn_room, turn_slot, turn_not, turn_best, turn_end)
