-- One entry of a table: the first free place on its way, the words put there, and its best match. Assumes nothing.
use mathlib.Core.Path.{◌≡◌, refl, sym, ap, ◌∙◌}
use mathlib.Core.Logic.{◌≢◌}
use mathlib.Core.Bool.{Bool, true, false, true≢false}
use mathlib.Core.List.{List}
use Prim.Native.Nat.{ℕ, zero, suc, ◌+◌, ◌-◌, ◌*◌, ◌/◌, ◌^◌, ◌≤◌, ◌<◌}
use native.Mathlib.Omega.{arith}
use lib.ListN.{length, get_or, set, length-set}
use lib.Seq.{get_or-set_same, get_or-set_other}
use borrow.Author.Tests.{le-leb, lt-leb}
use Rattle.lengths.specs.Way.{miss, hit, outside}
use Rattle.lengths.specs.Way as way
use Rattle.lengths.specs.declared.Look.{Look}
use Rattle.lengths.specs.declared.Look.TheVariants.{Miss, Hit, Outside}
use Rattle.lengths.specs.Answer.{look_of, Looked}
use Rattle.lengths.specs.Marks.{best_at}
use Rattle.rivals.specs.Won.{winners_list}
use Rattle.listing.specs.Listed.{candidate_at, candidates_in, list_of}
use Rattle.listing.specs.Winning.{winning_at}
use Rattle.listing.specs.Record.{said}
use Rattle.listing.specs.declared.Record.{Record}
use Rattle.candidates.specs.Candidate.{Candidate}
use Rattle.laws.specs.Longest.{wfs}
use Rattle.lengths.specs.Layout.{begin_of, size_of, key_of, taken_by, Places, start, place, look, find_in}
use Rattle.lengths.specs.Hash.{start_lt, place-met, Room}
use Rattle.lengths_build.specs.Filling.{chosen, Filling, Filled, Space, put_at, Put, is_miss, or_below, below}
use Rattle.lengths_build.specs.Fill.{kept_none, standing_on, filling_again, filling_room, filling_new, filling_taken}
use Rattle.lengths_build.specs.Fill.{filling_put}
use Rattle.lengths_build.specs.Build.{Bests}
use Rattle.lengths_build.specs.Best.{best-own, best_marker}
use Rattle.listing.specs.Records.{head_fits}

-- ---- the first free place

module _ (T : Places) (p v : ℕ) where
  abbrev pub Passed : ℕ → Type 0
  Passed d = (e : ℕ) → e < d → T.taken (place (start v p) p e) ≡ true

  pub free_none : {P : Type 0} (d : ℕ) → p ≤ d → Passed d → Room T p → P
  free_none d h f r =
      let one : 1 ≤ p = omega (arith, r.within) in
      let m = place-met (start v p) p r.at (start_lt v p one) r.within in
      absurd (true≢false (sym (f m.steps (omega (arith, m.few))) ∙ ap T.taken m.there ∙ r.free))

-- ---- an entry put

module _ (ws : List ℕ) (o m n v b j : ℕ) (fits : o + 8 * n ≤ length ws) (h : j < 4 * n) where
  abbrev us : List ℕ
  us = put_at ws o (4 * n) j v b

  put_other : (i : ℕ) → i ≢ o + j → i ≢ o + j + 4 * n → get_or us i 0 ≡ get_or ws i 0
  unfolding put_at
  put_other i x y = get_or-set_other (set ws (o + j) (key_of v)) (o + j + 4 * n) i b 0 y
      ∙ get_or-set_other ws (o + j) i (key_of v) 0 x

  put-best : get_or us (o + j + 4 * n) 0 ≡ b
  unfolding put_at
  put-best = get_or-set_same (set ws (o + j) (key_of v)) (o + j + 4 * n) b 0 (simp length-set (omega arith))

  key_other : (i : ℕ) → i < 4 * n → i ≢ j → get_or us (o + i) 0 ≡ get_or ws (o + i) 0
  key_other i l d = put_other (o + i) (λ e. omega arith) (λ e. omega arith)

-- ---- the shorter tables

-- what the code's look was, its case known
module _ (ws : List ℕ) (r : Look) (x : way.Look) (l : Looked ws r x) where
  pub saw : (y : Look) → r ≡ y → x ≡ look_of ws y
  saw y e = sym l.told ∙ ap (look_of ws) e

module _ (ws : List ℕ) (m v : ℕ) where
  pub look_out : length ws < begin_of ws m + 8 * size_of ws m → outside ≡ look ws m v
  unfolding look
  look_out h = rw (lt-leb (begin_of ws m + 8 * size_of ws m) (length ws) h)

  pub look_there : begin_of ws m + 8 * size_of ws m ≤ length ws → find_in ws m (begin_of ws m) (size_of ws m) v ≡ look ws m v
  unfolding look
  look_there h = rw (le-leb (begin_of ws m + 8 * size_of ws m) (length ws) h)

  below_step : (l : ℕ) → 1 ≤ l → below ws m v l ≡ or_below (look ws l (v / 2 ^ (m - l))) (below ws m v (l - 1))
  unfolding below
  below_step zero h = absurd (omega arith)
  below_step (suc l) h = let e : suc l - 1 ≡ l = omega arith in rw e

  pub below_hit : (l b : ℕ) → 1 ≤ l → look ws l (v / 2 ^ (m - l)) ≡ hit b → b ≡ below ws m v l
  below_hit l b h e = sym (below_step l h ∙ rw e)

  pub below_other : (l : ℕ) (r : Look) → 1 ≤ l → Looked ws r (look ws l (v / 2 ^ (m - l))) → ((b : ℕ) → r ≡ Hit b → ⊥)
      → below ws m v (l - 1) ≡ below ws m v l
  below_other l Miss h k n = sym (below_step l h ∙ rw (← k.told))
  below_other l (Hit b) h k n = absurd (n b refl)
  below_other l Outside h k n = sym (below_step l h ∙ rw (← k.told))

  pub below_end : (l : ℕ) → l ≤ 0 → get_or ws 0 0 ≡ below ws m v l
  unfolding below
  below_end l h = let e : l ≡ 0 = omega arith in rw e

-- ---- the best match of a head

module _ (bs ws : List ℕ) (i m v : ℕ) (b : Bests bs ws i m v) where
  pub of_route : (l h : ℕ) → l ≡ (candidate_at bs i).len → h ≡ winning_at bs i → l ≡ m → h * 256 + m ≡ best_at (list_of bs) m v
  of_route l h e f q = rw f (best-own bs b.list i b.here m v b.most (sym e ∙ q) b.value)

  pub of_marker : (l r : ℕ) → l ≡ (candidate_at bs i).len → l ≢ m → r ≡ below ws m v (m - 1) → r ≡ best_at (list_of bs) m v
  of_marker l r e n q =
      q ∙ best_marker (list_of bs) (wfs 32 (list_of bs) (winners_list 32 (candidates_in bs) b.list).routes) ws (length ws) m v
      (omega arith) b.most b.built
      (rw b.value (head_fits bs b.list i b.here m b.most)) b.few (b.marker (λ z. n (e ∙ z)))

-- ---- a record entered

pub at_record : (r : Record) (bs : List ℕ) (i m v : ℕ) → said r ≡ candidate_at bs i → v ≡ (said r).addr / 2 ^ (32 - m)
    → v ≡ (candidate_at bs i).addr / 2 ^ (32 - m)
at_record r bs i m v e q = q ∙ ap (λ (x : Candidate). x.addr / 2 ^ (32 - m)) e

module _ (k : Bool) (bs ws : List ℕ) (i m o n : ℕ) (f : Filling k bs ws (i + 1) m o n) where
  module _ (c : chosen k m (candidate_at bs i).len ≡ true) (x : ℕ) (xe : x ≡ (candidate_at bs i).addr / 2 ^ (32 - m)) (b : Bool)
      (e : b ≡ is_miss (find_in ws m o n x)) where
    pub enter_again : b ≡ false → Filled k bs ws ws i m o n
    enter_again z =
        record { filling = filling_again k bs ws i m o n f c x xe b e z; kept = kept_none ws o (o + 8 * n) }

    pub enter_bests : b ≡ true → Bests bs ws i m x
    enter_bests z = record {
      list = f.list;
      here = omega (arith, f.upto);
      few = f.few;
      most = f.most;
      long = omega (arith, f.fits, f.low);
      built = standing_on (list_of bs) ws o (length ws) m (omega (arith, f.fits)) f.built;
      value = xe;
      marker = filling_new k bs ws i m o n f c x xe b e z;
    }

    pub enter_space : b ≡ true → (y : ℕ) → y ≡ best_at (list_of bs) m x
        → Space ws o m n × (taken_by m (key_of x) y ≡ true)
    enter_space z y q = (filling_room k bs ws i m o n f c x xe b e z, filling_taken k bs ws i m o n f c x xe y q)

    pub enter_put : b ≡ true → (us : List ℕ) (y : ℕ) → y ≡ best_at (list_of bs) m x → Put ws us o m n x y
        → Filled k bs ws us i m o n
    enter_put z us y q s = filling_put k bs ws i m o n f c x xe us b y e z q s
