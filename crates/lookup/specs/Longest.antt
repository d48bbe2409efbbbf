-- On a table the layout's walk gives the longest match over the list, and the block of the address. Assumes nothing.
--
--     lengths    0 .. 8    9 .. 16    17 .. 24    25 .. 32     each run of lengths is one array of the path, and the best of
--     arrays     root ──▶  array ──▶  array ──▶   array        its cell the last hop of the run; where the path ends, nothing
--                                                              is held below
use Rattle.std.specs.Prelude.{◌≡◌, false, List, ltb}
use Rattle.std.proofs.Common.{sym, ap₂, ◌∙◌}
use Rattle.std.proofs.Math.Path.{ap}
use Rattle.std.proofs.Math.Logic.{⊎_elim}
use Prim.Native.Nat.{ℕ, zero, suc, ◌+◌, ◌-◌, ◌*◌, ◌/◌, ◌%◌, ◌^◌, ◌≤◌, ◌<◌}
use native.Mathlib.Omega.{arith}
use borrow.Author.Tests.{eq-eqb, ne_eqb, le-ltb}
use Rattle.sizes.specs.Sizes.{cell_slots, hop_bound, level_bound}
use Rattle.routes.specs.Route.{Route}
use Rattle.routes.specs.Match.{Match, longest, last}
use Rattle.routes.specs.Block.{block}
use Rattle.routes.specs.Answers.{Reply, matched}
use Rattle.laws.specs.Longest.{longest-walk, last_past}
use Rattle.numbers.specs.Front.{front, byte_of}
use Rattle.calm.specs.Calm.{Block}
use Rattle.array.specs.Right.{Right}
use Rattle.tree.specs.Arrays.{Arrays, at, node, held}
use Rattle.tree.specs.Shape.{Child}
use Rattle.tree.specs.Tree.{Level, node-level}
use Rattle.words.specs.Words.{arrays_of, array_count, slots_of, bests_of, blocks_of}
use Rattle.words.specs.Table.{list_of}
use Rattle.words.specs.TableBut.{Table}
use Rattle.words.specs.View.{seen-cases}
use Rattle.words.specs.Stock.{table_winners}
use Rattle.candidates.specs.Answers as candidates
use Rattle.lookup.specs.Walk.{deeper, walk_from, walk, walked, looked_up}
use Rattle.lookup.specs.Path.{along_slot, below-cell, nothing_longer}
use Rattle.lookup.specs.Tied.{won_of, block_at}
use Rattle.lookup.specs.Level.{best-inside, level_last, level_first, up_to}

-- length 0 is held in the array of level 0
held_root : (t : Arrays) (v w k : ℕ) → k ≡ 0 → held t v 0 ≡ t.slot (node t w k) 1
unfolding held node at
held_root t v w k z = let e : 1 + v % 1 ≡ 1 = omega arith in rw (z, e)

module _ (L : ℕ) (ws : List ℕ) (o : Table L ws) (x : ℕ) (small : x < 2 ^ (8 * L)) where
  abbrev t : Arrays
  t = arrays_of ws

  -- the hop held for the first l bits
  abbrev along : ℕ → ℕ
  along l = held t (x / 2 ^ (8 * L - l)) l

  -- what the walk is to give
  abbrev given : Reply
  given = matched (last along (8 * L)) (block (8 * L) (won_of L ws) x)

  -- ---- level k, n levels above the last: its array, and the cell of the address there
  module _ (k n : ℕ) (p : k + suc n ≡ L) where
    abbrev a : ℕ
    a = node t (front L x k) k

    abbrev i : ℕ
    i = byte_of L x k

    module _ (there : 1 ≤ a) where
      level : Level (array_count ws) t a k
      level = node-level (array_count ws) L t o.shape (front L x k) k there

      right : Right (k + 1) (slots_of ws a) (bests_of ws a)
      right = rw level.level at (o.right a there level.within (omega (arith, level.level)))

      -- the best of the cell is in its range, and is the longest match down to this level
      inside : ltb 8 (bests_of ws a i / hop_bound) ≡ false
      inside = rw (right.sound.best i (omega arith)) (best-inside (slots_of ws a) right.sound.hops i (omega arith))

      down_to : deeper (8 * k) (up_to along k) (bests_of ws a i) ≡ last along (8 * suc k)
      down_to =
          let f : 8 * suc k ≡ 8 * k + 8 = omega arith in
          let q : (cell_slots + i) / 256 ≡ 1 = omega arith in
          let hop = right.sound.hops 1 (omega arith) (omega arith) in
          let root = held_root t (x / 2 ^ (8 * L - 0)) (front L x k) k in
          let begins = level_first along (slots_of ws a) k hop root (λ h. right.first (omega arith)) in
          rw (right.sound.best i (omega arith), f)
          (sym (level_last along (slots_of ws a) right.sound.hops (8 * k) (up_to along k) 8 (cell_slots + i) (omega arith)
          (omega arith) (rw q begins) (along_slot L t x k (omega arith) there)))

      -- the array below the cell
      abbrev next : ℕ
      next = node t (front L x (suc k)) (suc k)

      below : next ≡ t.link a i
      below = below-cell L t x k (omega arith) there

      ends : t.link a i ≡ 0 → last along (8 * suc k) ≡ last along (8 * L)
      ends z =
          sym (last_past along (8 * suc k) (8 * L) (omega arith)
          (nothing_longer L t x k (omega arith) there (array_count ws) o.shape small z))

      -- the cell where the path ends has its block
      ends-block : t.link a i ≡ 0 → Block (slots_of ws a) (t.link a) i (blocks_of ws a i)
      ends-block z = o.settled a there level.within (omega (arith, level.level)) i (omega arith) z

      -- one turn of the walk: it ends here, or goes on at the array below
      turns : (suc k < L → 1 ≤ next → walk_from L ws x n next (last along (8 * suc k)) ≡ given)
          → walk_from L ws x (suc n) a (up_to along k) ≡ given
      unfolding walk_from
      turns on =
          let e : L - suc n ≡ k = omega arith in
          let c = t.link a i in
          ⊎_elim
          (λ (z : c ≡ 0).
          let q = ends-block z in
          rw (e, inside, eq-eqb c 0 z, le-ltb 8 (blocks_of ws a i) q.fits, down_to)
          (ap₂ matched (ends z) (sym (block_at L ws o x small k n p there (blocks_of ws a i) q))))
          (λ (h : Child (array_count ws) L t a i c).
          rw (e, inside, ne_eqb c 0 (λ z. omega (arith, h.some)), le-ltb (array_count ws) c h.within, down_to, ← below)
          (on (omega (arith, h.deep, level.level)) (rw below h.some)))
          (o.shape.links a i there level.within (omega arith))

  onward : (n k : ℕ) → k + suc n ≡ L → 1 ≤ node t (front L x k) k
      → walk_from L ws x (suc n) (node t (front L x k) k) (up_to along k) ≡ given
  onward zero k p there = turns k zero p there (λ h b. absurd (omega arith))
  onward (suc n) k p there = turns k (suc n) p there (λ h b. onward n (suc k) (omega arith) b)

  walk_won : walk L ws x ≡ matched (longest (8 * L) x (won_of L ws)) (block (8 * L) (won_of L ws) x)
  unfolding node
  walk_won =
      let e : suc (L - 1) ≡ L = omega (arith, o.shape.some_level) in
      (rw e at (onward (L - 1) 0 (omega (arith, o.shape.some_level)) (omega arith)))
      ∙ ap (λ (m : Match). matched m (block (8 * L) (won_of L ws) x))
      (sym (longest-walk (8 * L) (held t) x (omega (arith, o.shape.levels)) small))

  -- the winning hops are the winners of the list
  walk-longest : walk L ws x ≡ candidates.looked_up (8 * L) (list_of L ws) x
  walk-longest =
      walk_won
      ∙ ap (λ (rs : List Route). matched (longest (8 * L) x rs) (block (8 * L) rs x)) (sym (table_winners L ws o))

-- ---- on any words: by what they are seen to be

pub walked-seen : (L : ℕ) (ws : List ℕ) (x : ℕ) → 1 ≤ L → L < level_bound → x < 2 ^ (8 * L)
    → walked L ws x ≡ looked_up L ws x
walked-seen L ws x some levels small =
    seen-cases L ws some levels
    (λ m e. rw (m, e))
    (λ m _ e. rw (m, e))
    (λ m _ o e. rw (m, e) (walk-longest L ws o x small))
