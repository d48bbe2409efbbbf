-- Fresh arrays hung in a row along an address, below the deepest array of its path: nothing held changes, and no other array
-- does. Assumes nothing.
--
--     root ── level j ── (fresh) ── (fresh) ── level k
--     each fresh array is the one that may be empty until the next hangs below it
use Rattle.std.specs.Prelude.{◌≡◌, refl, ◌≢◌, List, ℕ, suc, ◌+◌, ◌-◌, ◌*◌, ◌/◌, ◌≤◌, ◌<◌, length, get_or}
use Rattle.std.proofs.Common.{sym, ap, ◌∙◌, inl, ⊎_elim, arith}
use Rattle.sizes.specs.Sizes.{cell_count, per_group}
use Rattle.slots.specs.Word.{IsFeed}
use Rattle.tree.specs.Arrays.{node}
use Rattle.tree.specs.Tree.{Level, node-level}
use Rattle.tree.specs.Need.{node_child, node-above}
use Rattle.gather.specs.Views.{feed_view, word_held, view_shape}
use Rattle.words.specs.Words.{feeds_of, arrays_of, array_count}
use Rattle.words.specs.TableBut.{TableBut}
use Rattle.words.specs.Gained.{Gains, GainsRight, Gained}
use Rattle.tree.specs.HungBelow.{HungBelow, hang_held, other, node-cases}
use Rattle.words.specs.Gain.{Gain, gain_ends, gained_hung-below, gained_feed, gained_table_but}
use Rattle.tree.specs.Free.{Found, used-full}
use Rattle.numbers.specs.Front.{front, byte_of, byte_lt, front_more, front-up}
use Rattle.paths.specs.Alike.{Alike, rehung_alike}

-- a table of L levels but for b, the array of the first 8 * j bits q, whose cell i is without a link
pub record OpenCell (L : ℕ) (ws : List ℕ) (q j b i : ℕ) : Type 0 where
  pub ok : TableBut L b ws
  pub some : 1 ≤ b
  pub leads : node (arrays_of ws) q j ≡ b
  pub cells : i < cell_count
  pub off : (arrays_of ws).link b i ≡ 0

-- vs is ws with arrays hung at the levels j + 1 .. k of a's path; r is that of level k
pub record Grown (L : ℕ) (ws vs : List ℕ) (a j k r : ℕ) : Type 0 where
  pub ok : TableBut L r vs
  pub some : 1 ≤ r
  pub size : length vs ≡ length ws
  pub leads : node (arrays_of vs) (front L a k) k ≡ r
  pub held : (v l f : ℕ) → IsFeed f → word_held (feeds_of vs) v l f ≡ word_held (feeds_of ws) v l f
  pub count : get_or vs 0 0 ≡ get_or ws 0 0 + (k - j)
  pub others : (c : ℕ) → 1 ≤ c → ((i : ℕ) → j ≤ i → i ≤ k → node (arrays_of vs) (front L a i) i ≢ c) → Alike ws vs c

-- ---- one array

module _ (L : ℕ) (ws : List ℕ) (q j b i : ℕ) (tip : OpenCell L ws q j b i) (deep : suc j < L)
    (room : get_or ws 0 0 < array_count ws) (f : ℕ) (fo : Found (arrays_of ws) 1 (array_count ws) f) where
  lv : Level (array_count ws) (arrays_of ws) b j
  lv = rw tip.leads at (node-level (array_count ws) L (arrays_of ws) tip.ok.shape q j (rw tip.leads tip.some))

  gn : Gain L ws b i f
  gn = record {
    parent = tip.some;
    inside = lv.within;
    cells = tip.cells;
    used = omega (arith, lv.level);
    deep = omega (arith, lv.level);
    off = tip.off;
    some = fo.low;
    within = omega (arith, fo.high);
    free = fo.free;
  }

  can_gain : Gains ws b i f
  can_gain = record {
    ends = gain_ends L ws b i f tip.ok gn;
    block = (tip.ok.settled b tip.some lv.within (omega (arith, lv.level)) i tip.cells tip.off).fits;
  }

  can_gain_right : GainsRight ws b i f
  can_gain_right = record {
    settled = tip.ok.settled b tip.some lv.within (omega (arith, lv.level));
    off = tip.off;
    count = omega (arith, tip.ok.high);
    groups =
        let g = (f - 1) / 8 in
        let e = tip.ok.header.groups g (omega (arith, fo.high, tip.ok.high, tip.ok.low)) in
        omega (arith, e, used-full (arrays_of ws) (per_group * g) per_group);
  }

  module _ (vs : List ℕ) (re : Gained ws vs b i f) where
    hang : HungBelow (array_count ws) L (arrays_of ws) (arrays_of vs) b i f
    hang = gained_hung-below L ws b i f tip.ok gn vs re

    hang_feed : (j : ℕ) → IsFeed j → HungBelow (array_count ws) L (feed_view (feeds_of ws) j) (feed_view (feeds_of vs) j) b i f
    hang_feed = gained_feed L ws b i f tip.ok gn vs re

    -- a path that led somewhere leads there
    stay : (v k : ℕ) → 1 ≤ node (arrays_of ws) v k → node (arrays_of vs) v k ≡ node (arrays_of ws) v k
    stay v k p = ⊎_elim
        (λ (e : node (arrays_of vs) v k ≡ node (arrays_of ws) v k). e)
        (λ (e : (node (arrays_of vs) v k ≡ f) × (node (arrays_of ws) v k ≡ 0)). absurd (omega (arith, e.1)))
        (node-cases (array_count ws) L (arrays_of ws) (arrays_of vs) b i f hang tip.ok.shape v k)

    stay_tip : node (arrays_of vs) q j ≡ b
    stay_tip = stay q j (rw tip.leads tip.some) ∙ tip.leads

    leads : node (arrays_of vs) (q * 256 + i) (suc j) ≡ f
    leads = node_child (arrays_of vs) q j i tip.cells (rw stay_tip tip.some) ∙ rw stay_tip hang.on

    ok : TableBut L f vs
    ok = gained_table_but L ws b i f tip.ok gn vs re

    -- the fresh array is a tip itself, at any cell
    grow_tip : (y : ℕ) → y < cell_count → OpenCell L vs (q * 256 + i) (suc j) f y
    grow_tip y w = record {
      ok = ok;
      some = fo.low;
      leads = leads;
      cells = w;
      off =
          let n : f ≢ b = λ e. other (array_count ws) L (arrays_of ws) (arrays_of vs) b i f hang (sym e) in
          hang.links f y fo.low w (inl n) ∙ hang.no_link y w;
    }

-- ---- in a row, from level j to level i

pub record Turn (L : ℕ) (ws vs : List ℕ) (a j i b : ℕ) : Type 0 where
  pub low : j ≤ i
  pub high : i < L
  pub grown : Grown L ws vs a j i b
  pub tip : OpenCell L vs (front L a i) i b (byte_of L a i)

pub grown_none : (L : ℕ) (ws : List ℕ) (a j b : ℕ) → TableBut L b ws → 1 ≤ b → node (arrays_of ws) (front L a j) j ≡ b
    → Grown L ws ws a j j b
grown_none L ws a j b ok h e = record {
  ok = ok;
  some = h;
  size = refl;
  leads = e;
  held = λ v l f y. refl;
  count = omega arith;
  others = λ c l n w m. refl;
}

pub turn_first : (L : ℕ) (ws : List ℕ) (a j b : ℕ) → j < L → OpenCell L ws (front L a j) j b (byte_of L a j)
    → Turn L ws ws a j j b
turn_first L ws a j b h t =
    record { low = omega arith; high = h; grown = grown_none L ws a j b t.ok t.some t.leads; tip = t }

module _ {L : ℕ} {ws vs : List ℕ} {a j i b : ℕ} (t : Turn L ws vs a j i b) where
  -- there is room for one more
  pub turn_room : (k : ℕ) → i < k → get_or ws 0 0 + (k - j) ≤ array_count ws → get_or vs 0 0 < array_count vs
  turn_room k h r = rw t.grown.size (omega (arith, t.grown.count, t.low))

  -- the whole path down to level i is there
  there : (n : ℕ) → n ≤ i → 1 ≤ node (arrays_of vs) (front L a n) n
  there n h =
      let e : i - n + n ≡ i = omega arith in
      let o : 1 ≤ node (arrays_of vs) (front L a i) (i - n + n) = rw (e, t.tip.leads) t.tip.some in
      rw (← (front-up L a (i - n) n i e (omega (arith, t.high))))
      (node-above (array_count vs) L (arrays_of vs) t.tip.ok.shape (i - n) (front L a i) n o)

  module _ (deep : suc i < L) (room : get_or vs 0 0 < array_count vs) (y f : ℕ) (ey : y ≡ byte_of L a i)
      (fo : Found (arrays_of vs) 1 (array_count vs) f) where
    pub turn_gains : Gains vs b y f
    turn_gains = rw ey (can_gain L vs (front L a i) i b (byte_of L a i) t.tip deep room f fo)

    pub turn_right : GainsRight vs b y f
    turn_right = rw ey (can_gain_right L vs (front L a i) i b (byte_of L a i) t.tip deep room f fo)

    -- with the byte and the array in the words of the laws
    abbrev Y : ℕ
    Y = byte_of L a i

    abbrev F : ℕ
    F = f

    module _ (U : List ℕ) (re : Gained vs U b Y F) where
      leads_on : node (arrays_of U) (front L a (suc i)) (suc i) ≡ F
      leads_on =
          ap (λ (q : ℕ). node (arrays_of U) q (suc i)) (front_more L a i (omega arith))
          ∙ leads L vs (front L a i) i b Y t.tip deep room f fo U re

      others : (c : ℕ) → 1 ≤ c → ((n : ℕ) → j ≤ n → n ≤ suc i → node (arrays_of U) (front L a n) n ≢ c) → Alike ws U c
      others c h n w m =
          let kept : (k : ℕ) → k ≤ i → node (arrays_of U) (front L a k) k ≡ node (arrays_of vs) (front L a k) k =
          λ k hi. stay L vs (front L a i) i b Y t.tip deep room f fo U re (front L a k) k (there k hi) in
          rehung_alike (can_gain L vs (front L a i) i b Y t.tip deep room f fo).ends re c h
          (λ e. n (suc i) (omega (arith, t.low)) (omega arith) (leads_on ∙ sym e))
          (λ e. n i t.low (omega arith) (stay_tip L vs (front L a i) i b Y t.tip deep room f fo U re ∙ sym e)) w m
          ∙ t.grown.others c h (λ k lo hi e. n k lo (omega arith) (kept k hi ∙ e)) w m

      grown : Grown L ws U a j (suc i) F
      grown =
          record {
            ok = ok L vs (front L a i) i b Y t.tip deep room f fo U re;
            some = fo.low;
            size = re.size ∙ t.grown.size;
            leads = leads_on;
            held = λ v l z y.
                hang_held (array_count vs) L (feed_view (feeds_of vs) z) (feed_view (feeds_of U) z) b Y F
                (hang_feed L vs (front L a i) i b Y t.tip deep room f fo U re z y)
                (view_shape (feeds_of vs) (array_count vs) L z t.tip.ok.shape) v l
                ∙ t.grown.held v l z y;
            count = omega (arith, re.count, t.grown.count, t.low);
            others = others;
          }

      turn : Turn L ws U a j (suc i) F
      turn = record {
        low = omega (arith, t.low);
        high = deep;
        grown = grown;
        tip = rw (front_more L a i (omega arith))
            (grow_tip L vs (front L a i) i b Y t.tip deep room f fo U re (byte_of L a (suc i)) (byte_lt L a (suc i)));
      }

    pub turn_more : (us : List ℕ) → Gained vs us b y f → Turn L ws us a j (i + 1) f
    turn_more us g = let s : i + 1 ≡ suc i = omega arith in rw s (turn us (rw ey at g))
