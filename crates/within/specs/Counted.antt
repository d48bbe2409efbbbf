-- On a table the walk's answer is the count over its list: the number of prefixes that lie inside the given one. Assumes nothing.
use Rattle.std.specs.Prelude.{◌≡◌, List}
use Rattle.std.proofs.Math.Path.{refl, ap}
use Rattle.std.proofs.Common.{sym, ◌∙◌, mul-le-mul_right, pow-add, pow_pos, pow_mono}
use Prim.Native.Nat.{ℕ, zero, suc, ◌+◌, ◌-◌, ◌*◌, ◌^◌, ◌≤◌, ◌<◌}
use native.Mathlib.Omega.{arith}
use Rattle.std.proofs.Math.Pow.{high, low}
use borrow.Author.Tests.{le-ltb}
use Rattle.logic.specs.Cases.{bool, same}
use Rattle.sizes.specs.Sizes.{last_slot, slot_end, level_bound}
use Rattle.routes.specs.Route.{Route, too_long, stray}
use Rattle.routes.specs.Room.{level}
use Rattle.routes.specs.Collect.{routes}
use Rattle.routes.specs.Seen.{gives}
use Rattle.numbers.specs.Front.{front, byte_of, value, byte_lt, value_lt, front_lt, front_more, front-up, prefix_whole}
use Rattle.address.specs.Address.{IsPrefix, no_fault}
use Rattle.tree.specs.Arrays.{Arrays, node, depth_of, held}
use Rattle.tree.specs.Tree.{node-level}
use Rattle.tree.specs.Need.{node_child, node-above}
use Rattle.inside.specs.Inside.{inside, prefixes_inside}
use Rattle.inside.specs.Seen.{within_on}
use Rattle.totals.specs.Sums.{sum, counted, sum_none, sum_some}
use Rattle.totals.proofs.Counted.{counted-inside}
use Rattle.words.specs.Words.{arrays_of, array_count, totals_of}
use Rattle.words.specs.Table.{list_of, seen}
use Rattle.words.specs.TableBut.{Table}
use Rattle.words.specs.Stock.{table_winners}
use Rattle.words.specs.Retotalled.{table_first, small_total}
use Rattle.words.specs.View.{seen-cases}
use Rattle.within.specs.Walk.{walk_from, walk, walked}

module _ (L : ℕ) (ws : List ℕ) (ok : Table L ws) (x s k : ℕ) (top : k < L) (some : 1 ≤ s) (small : s < slot_end) where
  abbrev t : Arrays
  t = arrays_of ws

  -- where the path ends earlier no array is further down
  early : (n j : ℕ) → n + suc j ≡ k → node t (front L x (suc j)) (suc j) ≡ 0 → node t (front L x k) k ≡ 0
  early n j e z =
      same (node t (front L x k) k) 0 (λ q _. q)
      (λ m _. (let up : 1 ≤ node t (front L x k) (n + suc j) = rw e (omega arith) in
      let above = node-above (array_count ws) L t ok.shape n (front L x k) (suc j) up in
      absurd (omega (arith, rw (front-up L x n (suc j) k e (omega arith)) at above))))

  from : (n j a : ℕ) → n + j ≡ k → node t (front L x j) j ≡ a → 1 ≤ a
      → walk_from L ws x s k n a ≡ gives (sum (totals_of ws) (node t (front L x k) k) s)
  unfolding walk_from
  from zero j a e q h =
      let z : j ≡ k = omega arith in
      let p : node t (front L x k) k ≡ a = rw z at q in
      let l = rw p at (node-level (array_count ws) L t ok.shape (front L x k) k (rw p h)) in
      rw (p, le-ltb (last_slot * array_count ws) (totals_of ws a s) (small_total ok a s h l.within some small))
      (ap gives (sym (sum_some (totals_of ws) a s h)))
  from (suc n) j a e q h =
      let lv : k - suc n ≡ j = omega arith in
      let b = byte_of L x j in
      let c = t.link a b in
      let next : node t (front L x (suc j)) (suc j) ≡ c =
      ap (λ (v : ℕ). node t v (suc j)) (front_more L x j (omega arith))
      ∙ node_child t (front L x j) j b (byte_lt L x j) (rw q h) ∙ ap (λ (d : ℕ). t.link d b) q in
      rw lv (same c 0
      (λ z f. rw f (ap gives (sym (sum_none (totals_of ws) _ s (early n j (omega arith) (next ∙ z))))))
      (λ z f. (let l = node-level (array_count ws) L t ok.shape (front L x (suc j)) (suc j) (rw next (omega arith)) in
      rw (f, le-ltb (array_count ws) c (omega (arith, l.within, next)))
      (from n (suc j) c (omega arith) next (omega arith)))))

  pub walk_total : walk_from L ws x s k k 1 ≡ gives (sum (totals_of ws) (node t (front L x k) k) s)
  unfolding node
  walk_total = from k 0 1 (omega arith) refl (omega arith)

-- the prefix x of length l
module _ (L : ℕ) (ws : List ℕ) (ok : Table L ws) (x l : ℕ) (inside-width : x < 2 ^ (8 * L)) (p : IsPrefix L x l) where
  abbrev k : ℕ
  k = level l

  abbrev d : ℕ
  d = depth_of l

  top : level l < L
  top = omega (arith, p.fits, ok.shape.some_level)

  deep : depth_of l ≤ 8
  deep = omega arith

  whole : 8 * level l + depth_of l ≡ l
  whole = omega arith

  -- its bits
  abbrev v : ℕ
  v = front L x k * 2 ^ d + value L x k d

  bits : v < 2 ^ l
  bits =
      let f = front_lt L x k (omega (arith, top)) inside-width in
      let e : 2 ^ (8 * k + d) ≡ 2 ^ l = ap (λ (n : ℕ). 2 ^ n) whole in
      omega (arith, pow-add 2 (8 * k) d, mul-le-mul_right (2 ^ d) f, value_lt L x k d top deep)

  address : v * 2 ^ (8 * L - l) ≡ x
  address = rw whole at (prefix_whole L x k d top deep (rw whole p.clean))

  is_total : sum (totals_of ws) (node (arrays_of ws) (front L x k) k) (2 ^ d + value L x k d)
      ≡ counted (arrays_of ws) (totals_of ws) v l
  unfolding counted
  is_total = let w = value_lt L x k d top deep in rw (high (front L x k) d w, low (front L x k) d w)

  pub walk_counts : walk L ws x l ≡ gives (prefixes_inside (8 * L) (list_of L ws) x l)
  walk_counts =
      walk_total L ws ok x (2 ^ d + value L x k d) k top (omega (arith, pow_pos d))
      (omega (arith, value_lt L x k d top deep, pow_mono {i = d} {j = 8} deep))
      ∙ ap gives (is_total
      ∙ counted-inside (array_count ws) L (arrays_of ws) (totals_of ws) ok.shape ok.sums (table_first ok) v l p.fits bits
      ∙ ap (λ (a : ℕ). inside (8 * L) (routes (8 * L) (held (arrays_of ws))) a l) address
      ∙ ap (λ (rs : List Route). inside (8 * L) rs x l) (sym (table_winners L ws ok)))

-- what is asked of any words, by what they are seen to be
pub within_seen_lem : (L : ℕ) (ws : List ℕ) (x l : ℕ) → 1 ≤ L → L < level_bound → x < 2 ^ (8 * L)
    → walked L ws x l ≡ within_on (8 * L) (seen L ws) (walk L ws x l) x l
within_seen_lem L ws x l some levels b =
    seen-cases L ws some levels
    (λ e q. rw (e, q))
    (λ e _ q. rw (e, q))
    (λ e _ ok q. rw (e, q) (bool (too_long (8 * L) l)
    (λ y. rw y)
    (λ y. rw y (bool (stray (8 * L) x l)
    (λ z. rw z)
    (λ z. rw z (walk_counts L ws ok x l b (no_fault L x l (rw (y, z)))))))))
