-- How far an address's path goes down the arrays, and what opening the rest of it leaves. Assumes nothing.
use Rattle.std.specs.Prelude.{◌≡◌, refl, ◌≢◌, List, ℕ, suc, ◌+◌, ◌-◌, ◌*◌, ◌/◌, ◌^◌, ◌≤◌, ◌<◌, get_or}
use Rattle.std.proofs.Common.{sym, ap, ◌∙◌, arith}
use Rattle.logic.specs.Cases.{same}
use Rattle.tree.specs.Arrays.{node}
use Rattle.tree.specs.Shape.{Shape}
use Rattle.tree.specs.Need.{node_child}
use Rattle.words.specs.Words.{arrays_of, array_count}
use Rattle.words.specs.TableBut.{TableBut}
use Rattle.words.specs.SlotSet.{table_is_but}
use Rattle.tree.specs.Missing.{missing, missing_none, missing_depth}
use Rattle.numbers.specs.Front.{front, byte_of, byte_lt, front_more, front-up}
use Rattle.paths.specs.Grown.{Grown, OpenCell, grown_none}

-- b is the array of the first 8 * j bits of a
pub record On (L : ℕ) (ws : List ℕ) (a j b : ℕ) : Type 0 where
  pub leads : node (arrays_of ws) (front L a j) j ≡ b
  pub some : 1 ≤ b
  pub within : b ≤ array_count ws

-- and the deepest down to level k
pub record Stops (L : ℕ) (ws : List ℕ) (a k j b : ℕ) : Type 0 where
  pub on : On L ws a j b
  pub low : j ≤ k
  pub off : j < k → (arrays_of ws).link b (byte_of L a j) ≡ 0

pub on_root : (L : ℕ) (ws : List ℕ) (a : ℕ) → 1 ≤ array_count ws → On L ws a 0 1
unfolding node
on_root L ws a h = record { leads = refl; some = omega arith; within = h }

-- what the link of the next byte leads to
pub next : (L : ℕ) (ws : List ℕ) (a j b : ℕ) → On L ws a j b → j < L
    → node (arrays_of ws) (front L a (suc j)) (suc j) ≡ (arrays_of ws).link b (byte_of L a j)
next L ws a j b o h =
    ap (λ (q : ℕ). node (arrays_of ws) q (suc j)) (front_more L a j h)
    ∙ node_child (arrays_of ws) (front L a j) j (byte_of L a j) (byte_lt L a j) (rw o.leads o.some)
    ∙ ap (λ (c : ℕ). (arrays_of ws).link c (byte_of L a j)) o.leads

module _ (L : ℕ) (ws : List ℕ) (a : ℕ) (s : Shape (array_count ws) L (arrays_of ws)) where
  -- how many arrays are missing
  pub stops-missing : (k j b : ℕ) → k < L → Stops L ws a k j b → missing (arrays_of ws) (front L a k) k ≡ k - j
  stops-missing k j b h p =
      same j k
      (λ e _. (let d : k - j ≡ 0 = omega arith in
      let o : node (arrays_of ws) (front L a k) k ≡ b = rw e at p.on.leads in
      rw d (missing_none (array_count ws) L (arrays_of ws) s k (front L a k) (rw o p.on.some))))
      (λ n _. (let m = k - suc j in
      let lt : j < k = omega (arith, p.low) in
      let e : m + suc j ≡ k = omega arith in
      let d : k - j ≡ suc m = omega arith in
      let x : 1 ≤ node (arrays_of ws) (front L a k / 2 ^ (8 * suc m)) j =
      rw (front-up L a (suc m) j k (omega arith) (omega arith), p.on.leads) p.on.some in
      let y : node (arrays_of ws) (front L a k / 2 ^ (8 * m)) (suc j) ≡ 0 =
      rw (front-up L a m (suc j) k e (omega arith)) (next L ws a j b p.on (omega arith) ∙ p.off lt) in
      rw d (ap (missing (arrays_of ws) (front L a k)) (sym e)
      ∙ missing_depth (array_count ws) L (arrays_of ws) s m j (front L a k) x y)))

  -- below the stop no array is on the path
  pub stops-below : (k j b n : ℕ) → k < L → Stops L ws a k j b → j < n → n ≤ k → node (arrays_of ws) (front L a n) n ≡ 0
  stops-below k j b n h p lo hi =
      let q : Stops L ws a n j b = record { on = p.on; low = omega arith; off = λ _. p.off (omega arith) } in
      same (node (arrays_of ws) (front L a n) n) 0 (λ e _. e)
      (λ e _. (let none = missing_none (array_count ws) L (arrays_of ws) s n (front L a n) (omega arith) in
      absurd (omega (arith, stops-missing n j b (omega arith) q, none))))

  -- a path that stops short has no array of level k
  pub stops_short : (k j b : ℕ) → k < L → Stops L ws a k j b → j ≢ k → node (arrays_of ws) (front L a k) k ≡ 0
  stops_short k j b h p n = stops-below k j b k h p (omega (arith, p.low)) (omega arith)

-- ---- the path opened down to level k: r is the array there, or 0 where there is no room

pub record Opened (L : ℕ) (ws vs : List ℕ) (a j k r : ℕ) : Type 0 where
  pub none : r ≡ 0 → (vs ≡ ws) × (array_count ws < get_or ws 0 0 + (k - j))
  pub some : r ≢ 0 → Grown L ws vs a j k r

module _ (L : ℕ) (ws : List ℕ) (a k j b : ℕ) (ok : TableBut L 0 ws) (p : Stops L ws a k j b) where
  pub opened_there : j ≡ k → Opened L ws ws a j k b
  opened_there e = record {
    none = λ z. absurd (omega (arith, p.on.some));
    some = λ n. rw (← e) (grown_none L ws a j b (table_is_but L b ws ok) p.on.some p.on.leads);
  }

  pub opened_full : array_count ws < get_or ws 0 0 + (k - j) → Opened L ws ws a j k 0
  opened_full q = record { none = λ z. (refl, q); some = λ n. absurd (n refl) }

  pub opened_tip : j < k → OpenCell L ws (front L a j) j b (byte_of L a j)
  opened_tip l =
      record { ok = table_is_but L b ws ok; some = p.on.some; leads = p.on.leads; cells = byte_lt L a j; off = p.off l }

  pub opened_grown : (vs : List ℕ) (r : ℕ) → Grown L ws vs a j k r → Opened L ws vs a j k r
  opened_grown vs r g = record { none = λ z. absurd (omega (arith, g.some)); some = λ n. g }
