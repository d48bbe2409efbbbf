-- A number added to totals from an array up to the root, array by array, on any words whose tags lead there: what is left to add
-- is the whole. Assumes nothing.
use Rattle.std.specs.Prelude.{◌≡◌, ℕ, zero, suc, ◌+◌, ◌-◌, ◌<◌, ◌≤◌, ◌≢◌, List, length, slice_index, refl}
use Rattle.std.proofs.Math.Path.{ap}
use Rattle.std.proofs.Common.{◌∙◌, inr, inl, arith}
use Rattle.sizes.specs.Sizes.{array_words, slot_end, cells_at, cell_slots, array_at, word_at, cell_at}
use Rattle.array.specs.Tag.{parent_in, cell_in, level_in}
use Rattle.tree.specs.Arrays.{par, cell, lev}
use Rattle.words.specs.Words.{arrays_of}
use Rattle.words.specs.Added.{added_in, added_on, NoTotal, in_size, in_kept}
use Rattle.words.specs.Rises.{Rises, SameUp, Off, off_same}
use Rattle.words.specs.Rises.{rises_inside, rises_level, rises_top, rises_above, rises_same}

-- the tags lead from array a up to the root
pub record Climbing (ws : List ℕ) (a : ℕ) : Type 0 where
  pub n : ℕ
  pub rises : Rises ws n a

-- words that differ in totals alone
pub record TotalsOnly (ws vs : List ℕ) : Type 0 where
  pub size : length vs ≡ length ws
  pub kept : (c k : ℕ) → k < array_words → NoTotal k → slice_index vs (word_at c k) ≡ slice_index ws (word_at c k)

pub totals_same : {ws vs : List ℕ} → TotalsOnly ws vs → (n : ℕ) → SameUp ws vs n
totals_same t n = record {
  size = t.size;
  tags = λ c h l u. (let e : array_at c ≡ word_at c 0 = omega arith in rw e (t.kept c 0 (omega arith) (inl (omega arith))));
  cells = λ c i h l u v. (let e : cell_at c i ≡ word_at c (cells_at + i) = omega arith in
      rw e (t.kept c (cells_at + i) (omega arith) (inl (omega arith))));
}

-- totals written into an array, and into those above it, leave that so
in_totals : (ws : List ℕ) (a s by : ℕ) → array_at (a + 1) ≤ length ws → s < slot_end → TotalsOnly ws (added_in ws a s by)
in_totals ws a s by f w =
    record { size = in_size ws a s by f w; kept = λ c k h o. in_kept ws a s by f w c k h (inr o) }

in_rises : (ws : List ℕ) (a s by n b : ℕ) → array_at (a + 1) ≤ length ws → s < slot_end → Rises ws n b
    → Rises (added_in ws a s by) n b
in_rises ws a s by n b f w = rises_same ws (added_in ws a s by) n b (totals_same (in_totals ws a s by f w) n)

pub on_totals : (k : ℕ) (ws : List ℕ) (b s by : ℕ) → Rises ws k b → s < slot_end → TotalsOnly ws (added_on k ws b s by)
unfolding added_on Rises
on_totals zero ws b s by r w = in_totals ws b s by (rises_inside ws zero b r) w
on_totals (suc k) ws b s by r w =
    let f = rises_inside ws (suc k) b r in
    let p = par (arrays_of ws) b in
    let x = in_totals ws b s by f w in
    let y = on_totals k (added_in ws b s by) p (cell_slots + cell (arrays_of ws) b) by (in_rises ws b s by k p f w r.1)
    (omega arith) in
    record { size = y.size ∙ x.size; kept = λ c j h o. y.kept c j h o ∙ x.kept c j h o }

-- an array that is none of them stays
pub on_spared : (k : ℕ) (ws : List ℕ) (b s by c j : ℕ) → Rises ws k b → s < slot_end → Off (arrays_of ws) k b c → j < array_words
    → slice_index (added_on k ws b s by) (word_at c j) ≡ slice_index ws (word_at c j)
unfolding added_on Rises Off
on_spared zero ws b s by c j r w o h = in_kept ws b s by (rises_inside ws zero b r) w c j h (inl o)
on_spared (suc k) ws b s by c j r w o h =
    let f = rises_inside ws (suc k) b r in
    let p = par (arrays_of ws) b in
    let t = totals_same (in_totals ws b s by f w) k in
    on_spared k (added_in ws b s by) p (cell_slots + cell (arrays_of ws) b) by c j (in_rises ws b s by k p f w r.1) (omega arith)
    (off_same ws (added_in ws b s by) k p c t r.1 o.1) h
    ∙ in_kept ws b s by f w c j h (inl o.0)

-- so far the words are vs; the rest begins at slot s of array b, of level k
pub record Rest (ws : List ℕ) (a slot by : ℕ) (vs : List ℕ) (b s : ℕ) : Type 0 where
  pub k : ℕ
  pub rises : Rises vs k b
  pub small : s < slot_end
  pub size : length vs ≡ length ws
  pub left : added_on k vs b s by ≡ added_on (lev (arrays_of ws) a - 1) ws a slot by

pub rest_all : (ws : List ℕ) (a slot by : ℕ) → Climbing ws a → slot < slot_end → Rest ws a slot by ws a slot
rest_all ws a slot by g w =
    let e : lev (arrays_of ws) a - 1 ≡ g.n = omega (arith, rises_level ws g.n a g.rises) in
    record { k = g.n; rises = g.rises; small = w; size = refl; left = rw e }

module _ {ws : List ℕ} {a slot by : ℕ} {vs : List ℕ} {b s : ℕ} (r : Rest ws a slot by vs b s) where
  pub rest_fits : array_at (b + 1) ≤ length vs
  rest_fits = rises_inside vs r.k b r.rises

  pub rest_done : b ≡ 1 → (us : List ℕ) → us ≡ added_in vs 1 s by → us ≡ added_on (lev (arrays_of ws) a - 1) ws a slot by
  unfolding added_on
  rest_done e us u = u ∙ rw (rises_top vs r.k b r.rises e, e) at r.left

-- one array further up
module _ (ws : List ℕ) (a slot by : ℕ) (vs : List ℕ) (b s : ℕ) (n : b ≢ 1) (us : List ℕ) (own p i : ℕ)
    (ue : us ≡ added_in vs b s by) (oe : own ≡ slice_index vs (array_at b)) (pe : p ≡ parent_in own) (ie : i ≡ cell_in own) where
  pub record More : Type 0 where
    pub rest : Rest ws a slot by us p (cell_slots + i)
    pub falls : level_in (slice_index us (array_at p)) < level_in (slice_index vs (array_at b))

  pub rest_more : Rest ws a slot by vs b s → More
  unfolding added_on
  rest_more r =
      let f = rest_fits r in
      let up = rises_above vs r.k b r.rises n in
      let h : p ≡ par (arrays_of vs) b = pe ∙ ap parent_in oe in
      let j = in_rises vs b s by up.m (par (arrays_of vs) b) f r.small up.rest in
      let d : Rises us up.m p = rw (ue, h) j in
      let l : added_on up.m us p (cell_slots + i) by ≡ added_on (lev (arrays_of ws) a - 1) ws a slot by =
      rw (ue, h, ie, oe) (rw up.is at r.left) in
      record {
        rest = record {
          k = up.m;
          rises = d;
          small = omega (arith, ie);
          size = ap length ue ∙ in_size vs b s by f r.small ∙ r.size;
          left = l;
        };
        falls = omega (arith, rises_level us up.m p d, up.rung.level);
      }
