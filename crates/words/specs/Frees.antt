-- Free arrays found one after the other, on any words: those that `taken` says, where they are all clean. On a table as many are
-- found as there is room for. Assumes nothing.
use Rattle.std.specs.Prelude.{◌≡◌, ℕ, zero, suc, ◌+◌, ◌-◌, ◌*◌, ◌/◌, ◌<◌, ◌≤◌, Bool, true, false, ◌≢◌, List, length, replicate}
use Rattle.std.specs.Prelude.{slice_index, slice_index_or, slice_set, refl, Option, Some, None}
use Rattle.std.proofs.Math.Path.{sym, ap}
use Rattle.std.proofs.Common.{◌∙◌}
use Rattle.std.proofs.Math.Bool.{true≢false}
use native.Mathlib.Omega.{arith}
use Rattle.std.proofs.Math.ListN.{length-set}
use Rattle.std.proofs.lemmas.List.{length-replicate, get_or-replicate}
use Rattle.std.proofs.Math.Seq.{get_or-set_same, get_or-set_other}
use borrow.Author.Tests.{ne_eqb}
use Rattle.logic.specs.Bools.{and_to}
use Rattle.logic.specs.Cases.{same}
use Rattle.logic.specs.Reflects.{all_none, all_more, all_stop}
use Rattle.sizes.specs.Sizes.{slot_at, body_words, totals_at, word_at, per_group}
use Rattle.tree.specs.Arrays.{Arrays, used_in}
use Rattle.tree.specs.Free.{first_free, Found, found}
use Rattle.words.specs.Words.{arrays_of, array_count}
use Rattle.words.specs.Table.{blank_b}
use Rattle.words.specs.TableBut.{TableBut}
use Rattle.words.specs.CheckReflects.{zeros_reflect, blank_array}
use Rattle.words.specs.Offers.{told_full, offers, next_free, taken, takes_b, behind, open_found, open_tag, right_used}

-- the search may begin past the first g groups
pub record Passed (ws : List ℕ) (g : ℕ) : Type 0 where
  pub fits : per_group * g ≤ array_count ws
  pub none : behind ws g ≡ behind ws 0

pub passed_first : (ws : List ℕ) (g r : ℕ) → Passed ws g → r ≡ behind ws g → r ≡ next_free ws 0
passed_first ws g r p e = e ∙ p.none

found_some : (t : Arrays) (a n : ℕ) → first_free t a n ≢ 0 → Found t a n (first_free t a n)
unfolding first_free
found_some t a zero z = absurd (z refl)
found_some t a (suc n) z =
    same (t.tag a) 0
    (λ q e. rw e (record { low = omega arith; high = omega arith; free = q }))
    (λ q e. (let f = found_some t (suc a) n (λ w. z (rw e w)) in
    rw e (record { low = omega (arith, f.low); high = omega (arith, f.high); free = f.free })))

-- ---- how many are used

used_split : (t : Arrays) (lo m n : ℕ) → used_in t lo (m + n) ≡ used_in t lo m + used_in t (lo + m) n
used_split t lo m zero = let e : m + 0 ≡ m = omega arith in rw e (omega arith)
used_split t lo m (suc n) =
    let e : m + suc n ≡ suc (m + n) = omega arith in
    let d : lo + m + suc n ≡ lo + suc (m + n) = omega arith in
    rw (e, d) (omega (arith, used_split t lo m n))

-- up to the first free array all others are used
first_used : (t : Arrays) (lo n r : ℕ) → r ≡ first_free t (lo + 1) n → r ≢ 0 → used_in t lo (r - lo) + 1 ≡ r - lo
unfolding first_free
first_used t lo zero r e z = absurd (z e)
first_used t lo (suc n) r e z =
    same (t.tag (lo + 1)) 0
    (λ q b. (let x : r ≡ lo + 1 = rw b at e in
    let y : r - lo ≡ suc zero = omega arith in
    rw (y, b) (omega arith)))
    (λ q b. (let s : suc lo + 1 ≡ suc (lo + 1) = omega arith in
    let x : r ≡ first_free t (suc lo + 1) n = rw s (rw b at e) in
    let i = first_used t (suc lo) n r x z in
    let f = found_some t (suc lo + 1) n (λ w. z (x ∙ w)) in
    let g : suc lo + 1 ≤ r = rw x f.low in
    let d : r - lo ≡ suc zero + (r - suc lo) = omega arith in
    let k : lo + suc zero ≡ suc lo = omega arith in
    let w = used_split t lo (suc zero) (r - suc lo) in
    rw d (omega (arith, rw (k, rw k at b) at w, i))))

-- ---- several, one after the other

-- free arrays have no slot, no cell and no total
abbrev pub Blanks : List ℕ → Type 0
Blanks ws = (a : ℕ) → 1 ≤ a → a ≤ array_count ws → (arrays_of ws).tag a ≡ 0 → blank_b ws a ≡ true

pub table_blanks : (L e : ℕ) (ws : List ℕ) → TableBut L e ws → Blanks ws
table_blanks L e ws t a h w z = blank_array L e ws t a h w z

pub record Fresh (ws : List ℕ) (f : ℕ) : Type 0 where
  pub low : 1 ≤ f
  pub within : f ≤ array_count ws
  pub free : (arrays_of ws).tag f ≡ 0
  pub clean : (k : ℕ) → slot_at 1 ≤ k → k < totals_at → slice_index ws (word_at f k) ≡ 0

-- a search can go on after array f, which was found by one; and after the last that was found, if there is one
abbrev pub OfferedAt : List ℕ → ℕ → Type 0
OfferedAt ws f = (1 ≤ f) × (f ≤ array_count ws) × (told_full ws ((f - 1) / per_group) ≡ false)

abbrev pub Offered : List ℕ → Option ℕ → Type 0
Offered ws None = Unit {0}
Offered ws (Some f) = OfferedAt ws f

-- the last of those found, 0 before the first
abbrev pub found_last : Option ℕ → ℕ
found_last None = 0
found_last (Some f) = f

-- i of them are found, the last is f
pub record FreesTo (ws : List ℕ) (i f : ℕ) (l : List ℕ) : Type 0 where
  pub size : length l ≡ 32
  pub fits : f ≤ array_count ws
  pub first : i ≡ 0 → f ≡ 0
  pub last : 1 ≤ i → f ≡ taken ws (i - 1)
  pub offered : f ≢ 0 → told_full ws ((f - 1) / per_group) ≡ false
  pub which : (h : ℕ) → h < i → slice_index l h ≡ taken ws h
  pub fresh : (h : ℕ) → h < i → Fresh ws (slice_index l h)
  pub most : (h : ℕ) → h < i → slice_index l h ≤ f
  pub rising : (g h : ℕ) → g < h → h < i → slice_index l g < slice_index l h
  pub unset : (h : ℕ) → i ≤ h → h < 32 → slice_index l h ≡ 0
  pub takes : takes_b ws i ≡ true
  pub count : used_in (offers ws) 0 f + i ≡ f

-- m were sought: the last is 0 where they were not found
pub record Frees (ws : List ℕ) (m : ℕ) (l : List ℕ) : Type 0 where
  pub size : length l ≡ 32
  pub none : slice_index_or l (m - 1) 0 ≡ 0 → takes_b ws m ≡ false
  pub takes : slice_index_or l (m - 1) 0 ≢ 0 → takes_b ws m ≡ true
  pub which : slice_index_or l (m - 1) 0 ≢ 0 → (h : ℕ) → h < m → slice_index l h ≡ taken ws h
  pub fresh : slice_index_or l (m - 1) 0 ≢ 0 → (h : ℕ) → h < m → Fresh ws (slice_index l h)
  pub rising : slice_index_or l (m - 1) 0 ≢ 0 → (g h : ℕ) → g < h → h < m → slice_index l g < slice_index l h
  pub room : (L e : ℕ) → TableBut L e ws → slice_index ws 0 + m ≤ array_count ws → slice_index l (m - 1) ≢ 0

-- what a search for m answers: these, or none
abbrev pub HasFrees : List ℕ → ℕ → Option (List ℕ) → Type 0
HasFrees ws m (Some l) = Frees ws m l × (slice_index l (m - 1) ≢ 0)
HasFrees ws m None = Frees ws m (replicate 32 0)

-- where they were not found no other array needs a number
pub frees_unset : (ws : List ℕ) (m : ℕ) (l : List ℕ) → 1 ≤ m → m ≤ 32 → slice_index_or l (m - 1) 0 ≡ 0 → Frees ws m l
    → Frees ws m (replicate 32 0)
frees_unset ws m l low top e f =
    let z : slice_index_or (replicate 32 0) (m - 1) 0 ≡ 0 = get_or-replicate {A = ℕ} 32 (m - 1) 0 0 (omega arith) in
    record {
      size = length-replicate {A = ℕ} 32 0;
      none = λ _. f.none e;
      takes = λ q. absurd (q z);
      which = λ q. absurd (q z);
      fresh = λ q. absurd (q z);
      rising = λ q. absurd (q z);
      room = λ L d t w. absurd (f.room L d t w e);
    }

pub frees_none : (ws : List ℕ) → FreesTo ws 0 0 (replicate 32 0)
unfolding takes_b
frees_none ws = record {
  size = length-replicate {A = ℕ} 32 0;
  fits = omega arith;
  first = λ _. refl;
  last = λ h. absurd (omega arith);
  offered = λ n. absurd (n refl);
  which = λ h w. absurd (omega arith);
  fresh = λ h w. absurd (omega arith);
  most = λ h w. absurd (omega arith);
  rising = λ g h w v. absurd (omega arith);
  unset = λ h _ w. get_or-replicate {A = ℕ} 32 h 0 0 w;
  takes = all_none _;
  count = omega arith;
}

module _ (ws : List ℕ) (m i f : ℕ) (l : List ℕ) (s : FreesTo ws i f l) where
  pub frees_done : i ≡ m → 1 ≤ m → Frees ws m l
  frees_done e h =
      let some : slice_index_or l (m - 1) 0 ≢ 0 = λ z. (let x = (s.fresh (m - 1) (omega arith)).low in omega (arith, x, z)) in
      record {
        size = s.size;
        none = λ z. absurd (some z);
        takes = λ _. rw (← e) s.takes;
        which = λ _ g w. s.which g (omega arith);
        fresh = λ _ g w. s.fresh g (omega arith);
        rising = λ _ g k w v. s.rising g k w (omega arith);
        room = λ L o t r. some;
      }

  module _ (more : i < m) (top : m ≤ 32) (r : ℕ) (p : r ≡ next_free ws f) where
    -- it is the next one
    is_taken : r ≡ taken ws i
    unfolding taken
    is_taken =
        same i 0
        (λ e _. p ∙ ap (next_free ws) (s.first e) ∙ ap (taken ws) (sym e))
        (λ n _. (let d : i ≡ suc (i - 1) = omega arith in
        let q : f ≡ taken ws (i - 1) = s.last (omega arith) in
        p ∙ ap (next_free ws) q ∙ ap (taken ws) (sym d)))

    unfound : takes_b ws m ≡ false → ((L e : ℕ) → TableBut L e ws → slice_index ws 0 + m ≤ array_count ws → ⊥) → Frees ws m l
    unfound b n =
        let z : slice_index_or l (m - 1) 0 ≡ 0 = s.unset (m - 1) (omega arith) (omega arith) in
        record {
          size = s.size;
          none = λ _. b;
          takes = λ q. absurd (q z);
          which = λ q. absurd (q z);
          fresh = λ q. absurd (q z);
          rising = λ q. absurd (q z);
          room = λ L e t w. absurd (n L e t w);
        }

    -- where there is room, one more is free
    there : (L e : ℕ) → TableBut L e ws → slice_index ws 0 + m ≤ array_count ws → Found (offers ws) (f + 1) (array_count ws - f) r
    there L e t w =
        let x = used_split (offers ws) 0 f (array_count ws - f) in
        let y : f + (array_count ws - f) ≡ array_count ws = omega (arith, s.fits) in
        let o : 0 + f ≡ f = omega arith in
        let u = right_used ws t.high t.header (array_count ws) (omega arith) in
        rw p (found (offers ws) f (array_count ws - f)
        (omega (arith, rw (y, o) at x, t.header.count, u, s.count, s.fits)))

    pub frees_stop : r ≡ 0 → Frees ws m l
    unfolding takes_b
    frees_stop z =
        unfound (sym (all_stop _ m i more (rw (← is_taken, z))))
        (λ L e t w. (let g = there L e t w in omega (arith, g.low)))

    module _ (n : r ≢ 0) where
      here : Found (offers ws) (f + 1) (array_count ws - f) r
      here = rw p (found_some (offers ws) (f + 1) (array_count ws - f) (λ q. n (p ∙ q)))

      free : (arrays_of ws).tag r ≡ 0
      free = open_tag ws r here.free

      pub frees_fits : (1 ≤ r) × (r ≤ array_count ws)
      frees_fits = (omega (arith, here.low), omega (arith, here.high, s.fits))

      pub frees_known : Blanks ws → blank_b ws r ≡ true
      frees_known b = b r frees_fits.0 frees_fits.1 free

      pub frees_dirty : (b : Bool) → b ≡ blank_b ws r → b ≡ false → Frees ws m l
      unfolding takes_b
      frees_dirty b be z =
          unfound (sym (all_stop _ m i more (rw (← is_taken, ne_eqb r 0 n) (sym be ∙ z))))
          (λ L e t w. true≢false (sym (frees_known (table_blanks L e ws t)) ∙ sym be ∙ z))

      pub frees_more : (b : Bool) → b ≡ blank_b ws r → b ≡ true → FreesTo ws (i + 1) r (slice_set l i r)
      unfolding takes_b
      frees_more b be z =
          let lt : i < length l = omega (arith, s.size) in
          let at : slice_index_or (slice_set l i r) i 0 ≡ r = get_or-set_same l i r 0 lt in
          let old : (h : ℕ) → h ≢ i
          → slice_index (slice_set l i r) h ≡ slice_index_or l h 0 = λ h q. get_or-set_other l i h r 0 (λ w. q (w)) in
          let own : Fresh ws r = record {
            low = frees_fits.0;
            within = frees_fits.1;
            free = free;
            clean = λ k h w. (zeros_reflect 0 ws r (slot_at 1) body_words).to (and_to _ _ (sym be ∙ z)).0 k h (omega arith);
          } in
          let lo : f < r = omega (arith, here.low) in
          record {
            size = length-set l i r ∙ s.size;
            fits = frees_fits.1;
            first = λ e. absurd (omega arith);
            last = λ _. (let e : i + 1 - 1 ≡ i = omega arith in rw e is_taken);
            offered = λ _. open_found ws r here.free;
            which = λ h w. same h i (λ e _. rw (e, at) is_taken) (λ q _. rw (old h q) (s.which h (omega arith)));
            fresh = λ h w. same h i (λ e _. rw (e, at) own) (λ q _. rw (old h q) (s.fresh h (omega arith)));
            most = λ h w. same h i (λ e _. rw (e, at) (omega arith))
                (λ q _. rw (old h q) (omega (arith, s.most h (omega arith))));
            rising = λ a h w v. same h i
                (λ e _. rw (e, at, old a (λ q. omega arith)) (omega (arith, s.most a (omega arith))))
                (λ q _. rw (old h q, old a (λ q. omega arith)) (s.rising a h w (omega arith)));
            unset = λ h w v. rw (old h (λ q. omega arith)) (s.unset h (omega arith) v);
            takes = all_more _ i s.takes (rw (← is_taken, ne_eqb r 0 n) (sym be ∙ z));
            count = (let u = first_used (offers ws) f (array_count ws - f) r p n in
                let y : f + (r - f) ≡ r = omega arith in
                let j : 0 + f ≡ f = omega arith in
                let x = used_split (offers ws) 0 f (r - f) in
                omega (arith, rw (y, j) at x, u, s.count));
          }
