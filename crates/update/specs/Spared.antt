-- Which arrays an update spares: all but its own and, where its prefix appears or goes, those of its path. Assumes nothing.
use Rattle.std.specs.Prelude.{◌≡◌, refl, ◌⊎◌, ◌≢◌, List, ℕ, zero, suc, ◌+◌, ◌-◌, ◌*◌, ◌/◌, ◌%◌, ◌^◌, ◌≤◌, ◌<◌}
use Rattle.std.proofs.Common.{sym, ap, ◌∙◌, inl, inr, arith}
use Rattle.logic.specs.Cases.{same}
use Rattle.array.specs.Tag.{tag_of, parent_in, level_in}
use Rattle.tree.specs.Arrays.{Arrays, node, par}
use Rattle.tree.specs.Shape.{Shape}
use Rattle.tree.specs.Tree.{node-level, node_tag}
use Rattle.tree.specs.Need.{node-above}
use Rattle.candidates.specs.Winners.{winning}
use Rattle.routes.specs.Room.{level}
use Rattle.totals.specs.Sums.{some}
use Rattle.words.specs.Words.{arrays_of, array_count, slots_of}
use Rattle.words.specs.Table.{list_of}
use Rattle.tree.specs.SlotSet.{TreeSlotSet, same_node}
use Rattle.numbers.specs.Front.{front, front-up}
use Rattle.paths.specs.Alike.{Alike}
use Rattle.paths.specs.Grown.{Grown}
use Rattle.paths.specs.Shrunk.{up, Freed}
use Rattle.update.specs.Reseat.{Reseated}
use Rattle.update.specs.Update.{Touched}

-- arrays hung at the levels j + 1 .. k, then a slot set in the last. A prefix that was held had its whole path and keeps its slot
-- taken
module _ {L : ℕ} {ws vs us : List ℕ} {a j k r d x f w h c : ℕ} (l : ℕ) (top : k < L) (level : level l ≡ k)
    (g : Grown L ws vs a j k r) (re : Reseated vs us r k d x f w c)
    (sl : TreeSlotSet (arrays_of vs) (arrays_of us) r (2 ^ d + x) h)
    (held : winning (list_of L ws) (a * 256 + l) ≢ 0
    → (j ≡ k) × (some (slots_of us r (2 ^ d + x)) ≡ some (slots_of vs r (2 ^ d + x)))) where
  hung_on : (c i : ℕ) → i ≤ k → node (arrays_of vs) (front L a i) i ≡ c → (i ≡ k) ⊎ (winning (list_of L ws) (a * 256 + l) ≡ 0)
      → Touched L (arrays_of us) (list_of L ws) a l c
  hung_on c i hi e o = record {
    i = i;
    high = rw level hi;
    on = same_node (arrays_of vs) (arrays_of us) sl.tags sl.links (front L a i) i ∙ e;
    edge = rw level o;
  }

  pub spared_hung : (c : ℕ) → 1 ≤ c → ¬ Touched L (arrays_of us) (list_of L ws) a l c → Alike ws us c
  spared_hung c lo n i m =
      same (winning (list_of L ws) (a * 256 + l)) 0
      (λ z _. (let off : (y : ℕ) → y ≤ k → node (arrays_of vs) (front L a y) y ≢ c = λ y hi e. n (hung_on c y hi e (inr z)) in
      re.off (front L a k) g.leads c (λ y hi. rw (above y hi) (off y hi)) i m ∙ g.others c lo (λ y _ hi. off y hi) i m))
      (λ z _. (let q = held z in
      let own : c ≢ r = λ e. n (hung_on c k (omega arith) (g.leads ∙ sym e) (inl refl)) in
      re.still q.1 c own i m
      ∙ g.others c lo (λ y a b e. (let p : y ≡ k = omega (arith, q.0) in own (sym e ∙ rw p g.leads))) i m))
    where
      above : (y : ℕ) → y ≤ k → front L a k / 2 ^ (8 * (k - y)) ≡ front L a y
      above y hi = front-up L a (k - y) y k (omega arith) (omega arith)

pub up_zero : (t : Arrays) (b : ℕ) → up t 0 b ≡ b
unfolding up
up_zero t b = refl

-- the arrays above an array of a path are those of the path
up-front : (A L : ℕ) (t : Arrays) (a k b : ℕ) → Shape A L t → k < L → node t (front L a k) k ≡ b → 1 ≤ b → (n : ℕ) → n ≤ k
    → up t n b ≡ node t (front L a (k - n)) (k - n)
unfolding up
up-front A L t a k b s top e h zero w = let z : k - 0 ≡ k = omega arith in rw z (sym e)
up-front A L t a k b s top e h (suc n) w =
    let i = k - suc n in
    let z : k - n ≡ suc i = omega arith in
    let q : n + (k - n) ≡ k = omega arith in
    let o : 1 ≤ node t (front L a (suc i)) (suc i) =
    rw (← z, ← (front-up L a n (k - n) k q (omega arith))) (node-above A L t s n (front L a k) (k - n) (rw (q, e) h)) in
    let x = node_tag A L t s (front L a (suc i)) i o in
    let y : front L a (suc i) / 256 ≡ front L a i = front-up L a 1 i (suc i) (omega arith) (omega arith) in
    let l = (node-level A L t s (front L a (suc i)) (suc i) o).level in
    let tag = t.tag (node t (front L a (suc i)) (suc i)) in
    ap (par t) (up-front A L t a k b s top e h n (omega arith) ∙ ap (λ (m : ℕ). node t (front L a m) m) z)
    ∙ (rw y at (up_tag (node t (front L a (suc i) / 256) i) (front L a (suc i)) i tag x l))
  where
    up_tag : (p v i z : ℕ) → z ≡ tag_of p (v % 256) (i + 2) → level_in z ≡ suc i + 1 → parent_in z ≡ p
    up_tag p v i z e l = omega arith

-- a slot cleared in the array of level k, then it and those above it released while empty. A prefix that is held still keeps its
-- slot taken, and its array
module _ (L a l : ℕ) {ws vs us : List ℕ} {k b d x f w h m c : ℕ} (shape : Shape (array_count vs) L (arrays_of vs)) (top : k < L)
    (level : level l ≡ k) (leads : node (arrays_of ws) (front L a k) k ≡ b) (some_array : 1 ≤ b)
    (re : Reseated ws vs b k d x f w c) (sl : TreeSlotSet (arrays_of ws) (arrays_of vs) b (2 ^ d + x) h) (fr : Freed vs us b m)
    (deep : m ≤ k)
    (held : winning (list_of L us) (a * 256 + l) ≢ 0
    → (m ≡ 0) × (some (slots_of vs b (2 ^ d + x)) ≡ some (slots_of ws b (2 ^ d + x)))) where
  old_node : (v i : ℕ) → node (arrays_of vs) v i ≡ node (arrays_of ws) v i
  old_node = same_node (arrays_of ws) (arrays_of vs) sl.tags sl.links

  -- the array n levels above b
  above : (n : ℕ) → n ≤ k → up (arrays_of vs) n b ≡ node (arrays_of ws) (front L a (k - n)) (k - n)
  above n h =
      up-front (array_count vs) L (arrays_of vs) a k b shape top (old_node _ k ∙ leads) some_array n h ∙ old_node _ (k - n)

  freed_on : (c i : ℕ) → i ≤ k → node (arrays_of ws) (front L a i) i ≡ c → (i ≡ k) ⊎ (winning (list_of L us) (a * 256 + l) ≡ 0)
      → Touched L (arrays_of ws) (list_of L us) a l c
  freed_on c i hi e o = record { i = i; high = rw level hi; on = e; edge = rw level o }

  pub spared_freed : (c : ℕ) → 1 ≤ c → ¬ Touched L (arrays_of ws) (list_of L us) a l c → Alike ws us c
  spared_freed c lo n i y =
      same (winning (list_of L us) (a * 256 + l)) 0
      (λ z _. (let off : (y : ℕ) → y ≤ k → node (arrays_of ws) (front L a y) y ≢ c = λ y hi e. n (freed_on c y hi e (inr z)) in
      fr.others c lo (λ q hi e. off (k - q) (omega arith) (sym (above q (omega arith)) ∙ e)) i y
      ∙ re.off (front L a k) leads c (λ y hi. rw (bits y hi) (off y hi)) i y))
      (λ z _. (let q = held z in
      let own : c ≢ b = λ e. n (freed_on c k (omega arith) (leads ∙ sym e) (inl refl)) in
      fr.others c lo (λ p hi e. (let o : p ≡ 0 = omega (arith, q.0) in
      own (sym e ∙ rw o (up_zero (arrays_of vs) b)))) i y
      ∙ re.still q.1 c own i y))
    where
      bits : (y : ℕ) → y ≤ k → front L a k / 2 ^ (8 * (k - y)) ≡ front L a y
      bits y hi = front-up L a (k - y) y k (omega arith) (omega arith)
