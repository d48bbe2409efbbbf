-- Which free arrays a search finds, on any words: those of groups that the header does not tell full. Where the header is right
-- these are all the free ones. Assumes nothing.
--
--     groups     1 .. 8 │ 9 .. 16 │ 17 .. 24 │ 25 .. A       the last one may be short, and is never passed over
--     header        8   │    5    │     8    │    ..         told full: the first and the third
use Rattle.std.specs.Prelude.{◌≡◌, ℕ, zero, suc, ◌+◌, ◌-◌, ◌*◌, ◌/◌, ◌<◌, ◌≤◌, Bool, true, false, cond, not, ◌&&◌, ◌≢◌, List}
use Rattle.std.specs.Prelude.{length, ◌==◌, nat_le, slice_index, slice_index_or, refl}
use Rattle.std.proofs.Common.{sym, ◌∙◌, zero-add, add-zero, arith, eqb-true, eq-eqb, ne_eqb, leb-true, le-leb}
use Rattle.logic.specs.Bools.{and_to, and_from}
use Rattle.logic.specs.Cases.{bool, same}
use Rattle.logic.specs.Every.{all_b}
use Rattle.sizes.specs.Sizes.{most_words, per_group}
use Rattle.tree.specs.Arrays.{Arrays, used_in, used_of}
use Rattle.tree.specs.Free.{first_free, used-full}
use Rattle.words.specs.Words.{arrays_of, array_count}
use Rattle.words.specs.Table.{blank_b}
use Rattle.words.specs.TableBut.{Header}

-- the header tells that the arrays of group g, which is a whole one, are all used
abbrev pub told_full : List ℕ → ℕ → Bool
told_full ws g = slice_index ws (g + 1) == per_group && nat_le (per_group * g + per_group) (array_count ws)

-- the arrays, with those of such groups as used ones
abbrev pub offers : List ℕ → Arrays
offers ws = record {
  tag = λ a. cond (told_full ws ((a - 1) / per_group)) 1 ((arrays_of ws).tag a);
  link = (arrays_of ws).link;
  slot = (arrays_of ws).slot;
}

-- the first free array after array f that a search finds, 0 where there is none; the first of all for f = 0
abbrev pub next_free : List ℕ → ℕ → ℕ
next_free ws f = first_free (offers ws) (f + 1) (array_count ws - f)

-- those found one after the other: the first is number 0
unfoldable pub taken : List ℕ → ℕ → ℕ
taken ws zero = next_free ws 0
taken ws (suc h) = next_free ws (taken ws h)

-- the first m of them are there, and their slots, cells and totals are 0
unfoldable pub takes_b : List ℕ → ℕ → Bool
takes_b ws m = all_b (λ h. not (taken ws h == 0) && blank_b ws (taken ws h)) m

-- ---- a part of some arrays, and the rest

-- none free among m: the search goes on behind them
pub free_past : (t : Arrays) (a m n : ℕ) → first_free t a m ≡ 0 → 1 ≤ a → first_free t a (m + n) ≡ first_free t (a + m) n
unfolding first_free
free_past t a zero n e h = simp (zero-add, add-zero)
free_past t a (suc m) n e h =
    let d : suc m + n ≡ suc (m + n) = omega arith in
    let f : a + suc m ≡ suc a + m = omega arith in
    same (t.tag a) 0
    (λ q b. absurd (omega (arith, rw b at e)))
    (λ q b. rw (d, b, f) (free_past t (suc a) m n (rw b at e) (omega arith)))

pub free_found : (t : Arrays) (a m n : ℕ) → first_free t a m ≢ 0 → first_free t a (m + n) ≡ first_free t a m
unfolding first_free
free_found t a zero n e = absurd (e refl)
free_found t a (suc m) n e =
    let d : suc m + n ≡ suc (m + n) = omega arith in
    same (t.tag a) 0
    (λ q b. rw (d, b))
    (λ q b. rw (d, b) (free_found t (suc a) m n (rw b at e)))

none_free : (t : Arrays) (a n : ℕ) → ((k : ℕ) → k < n → t.tag (a + k) ≢ 0) → first_free t a n ≡ 0
unfolding first_free
none_free t a zero f = refl
none_free t a (suc n) f =
    rw (ne_eqb (t.tag a) 0 (rw (add-zero a) at (f 0 (omega arith))))
    (none_free t (suc a) n (λ k h. let e : a + suc k ≡ suc a + k = omega arith in rw e at (f (suc k) (omega arith))))

free_same : (t u : Arrays) (a n : ℕ) → ((k : ℕ) → k < n → t.tag (a + k) ≡ u.tag (a + k)) → first_free t a n ≡ first_free u a n
unfolding first_free
free_same t u a zero f = refl
free_same t u a (suc n) f =
    rw (
      rw (add-zero a) at (f 0 (omega arith)),
      free_same t u (suc a) n (λ k h. let e : a + suc k ≡ suc a + k = omega arith in rw e at (f (suc k) (omega arith))),
    )

-- ---- a group

module _ (ws : List ℕ) where
  -- one that is not told full offers its free arrays
  pub offers_open : (g a n : ℕ) → told_full ws g ≡ false → per_group * g + 1 ≤ a → a + n ≤ per_group * g + per_group + 1
      → first_free (offers ws) a n ≡ first_free (arrays_of ws) a n
  offers_open g a n e h w =
      free_same (offers ws) (arrays_of ws) a n
      (λ k l. (let d : (a + k - 1) / per_group ≡ g = omega arith in rw (d, e)))

  offers_shut : (g : ℕ) → told_full ws g ≡ true → first_free (offers ws) (per_group * g + 1) per_group ≡ 0
  offers_shut g e =
      none_free (offers ws) (per_group * g + 1) per_group
      (λ k l z. (let d : (per_group * g + 1 + k - 1) / per_group ≡ g = omega arith in
      let q : ◌≡◌ {A = ℕ} 1 0 = rw (d, e) at z in omega arith))

  -- an array found is of no such group
  pub open_found : (r : ℕ) → (offers ws).tag r ≡ 0 → told_full ws ((r - 1) / per_group) ≡ false
  open_found r z =
      bool (told_full ws ((r - 1) / per_group)) (λ e. absurd (let q : ◌≡◌ {A = ℕ} 1 0 = rw e at z in omega arith)) (λ e. e)

  pub open_tag : (r : ℕ) → (offers ws).tag r ≡ 0 → (arrays_of ws).tag r ≡ 0
  open_tag r z = rw (open_found r z) at z

  -- what the tests of the code say
  pub told-full : (g w : ℕ) → w ≡ slice_index ws (g + 1) → w ≡ per_group → per_group * g + per_group ≤ array_count ws
      → told_full ws g ≡ true
  told-full g w e q h = and_from _ _ (eq-eqb (slice_index ws (g + 1)) per_group (sym e ∙ q)) (le-leb _ _ h)

  pub told_less : (g w : ℕ) → w ≡ slice_index ws (g + 1) → w ≢ per_group → told_full ws g ≡ false
  told_less g w e q = rw (ne_eqb (slice_index ws (g + 1)) per_group (λ z. q (e ∙ z)))

  pub told_short : (g : ℕ) → array_count ws < per_group * g + per_group → told_full ws g ≡ false
  told_short g h =
      bool (told_full ws g)
      (λ e. absurd (omega (
        arith,
        leb-true (per_group * g + per_group) (array_count ws)
            (and_to (slice_index ws (g + 1) == per_group) (nat_le (per_group * g + per_group) (array_count ws)) e).1,
      )))
      (λ e. e)

  -- the search goes on behind a group
  abbrev pub behind : ℕ → ℕ
  behind g = first_free (offers ws) (per_group * g + 1) (array_count ws - per_group * g)

  eight : (g : ℕ) → per_group * g + per_group ≤ array_count ws
      → array_count ws - per_group * g ≡ per_group + (array_count ws - per_group * (g + 1))
  eight g h = omega arith

  group_none : (g : ℕ) → per_group * g + per_group ≤ array_count ws → first_free (offers ws) (per_group * g + 1) per_group ≡ 0
      → behind (g + 1) ≡ behind g
  group_none g h e =
      let d : per_group * (g + 1) + 1 ≡ per_group * g + 1 + per_group = omega arith in
      rw (eight g h, d)
      (sym (free_past (offers ws) (per_group * g + 1) per_group (array_count ws - per_group * (g + 1)) e (omega arith)))

  pub group_shut : (g : ℕ) → told_full ws g ≡ true → per_group * g + per_group ≤ array_count ws → behind (g + 1) ≡ behind g
  group_shut g e h = group_none g h (offers_shut g e)

  module _ (g r : ℕ) (h : per_group * g + per_group ≤ array_count ws) (o : told_full ws g ≡ false)
      (e : r ≡ first_free (arrays_of ws) (per_group * g + 1) (per_group * g + per_group + 1 - (per_group * g + 1))) where
    in_group : r ≡ first_free (offers ws) (per_group * g + 1) per_group
    in_group =
        let d : per_group * g + per_group + 1 - (per_group * g + 1) ≡ per_group = omega arith in
        (rw d at e) ∙ sym (offers_open g (per_group * g + 1) per_group o (omega arith) (omega arith))

    pub group_past : r ≡ 0 → behind (g + 1) ≡ behind g
    group_past z = group_none g h (sym in_group ∙ z)

    pub group-found : r ≢ 0 → r ≡ behind g
    group-found z =
        rw (eight g h)
        (in_group ∙ sym (free_found (offers ws) (per_group * g + 1) per_group (array_count ws - per_group * (g + 1))
        (λ q. z (in_group ∙ q))))

  -- the last, short group
  pub group_last : (g r n : ℕ) → n ≡ array_count ws → per_group * g ≤ n → n < per_group * g + per_group
      → r ≡ first_free (arrays_of ws) (per_group * g + 1) (n + 1 - (per_group * g + 1)) → r ≡ behind g
  group_last g r n d l h e =
      let q : n + 1 - (per_group * g + 1) ≡ array_count ws - per_group * g = omega arith in
      (rw q at e)
      ∙ sym (offers_open g (per_group * g + 1) (array_count ws - per_group * g) (told_short g (omega arith)) (omega arith)
      (omega arith))

  -- some groups in a row
  pub groups_shut : (g n : ℕ) → ((k : ℕ) → k < n → (slice_index ws (g + 1 + k) == per_group) ≡ true)
      → per_group * (g + n) ≤ array_count ws → behind (g + n) ≡ behind g
  groups_shut g zero f h = let z : g + 0 ≡ g = omega arith in rw z
  groups_shut g (suc n) f h =
      let z : g + suc n ≡ g + n + 1 = omega arith in
      let y : g + 1 + n ≡ g + n + 1 = omega arith in
      let e : slice_index_or ws (g + n + 1) 0 ≡ per_group =
      rw y at (eqb-true (slice_index ws (g + 1 + n)) per_group (f n (omega arith))) in
      rw z (group_shut (g + n) (told-full (g + n) _ refl e (omega arith)) (omega arith))
      ∙ groups_shut g n (λ k l. f k (omega arith)) (omega arith)

-- ---- the rest of an array's group, and the groups past it

module _ (ws : List ℕ) (f : ℕ) (o : told_full ws ((f - 1) / per_group) ≡ false) (some : f ≢ 0) where
  rest : (n : ℕ) → f + n ≤ per_group * ((f + 7) / per_group)
      → first_free (offers ws) (f + 1) n ≡ first_free (arrays_of ws) (f + 1) n
  rest n h = offers_open ws ((f - 1) / per_group) (f + 1) n o (omega arith) (omega arith)

  pub after_all : (r n : ℕ) → n ≡ array_count ws → f ≤ n → n ≤ per_group * ((f + 7) / per_group)
      → r ≡ first_free (arrays_of ws) (f + 1) (n + 1 - (f + 1)) → r ≡ next_free ws f
  after_all r n d l h e =
      let q : n + 1 - (f + 1) ≡ array_count ws - f = omega arith in
      (rw q at e) ∙ sym (rest (array_count ws - f) (omega arith))

  module _ (n e r : ℕ) (ed : e ≡ per_group * ((f + 7) / per_group)) (nd : n ≡ array_count ws) (more : e < n)
      (re : r ≡ first_free (arrays_of ws) (f + 1) (e + 1 - (f + 1))) where
    split : array_count ws - f ≡ e - f + (array_count ws - e)
    split = omega arith

    near : r ≡ first_free (offers ws) (f + 1) (e - f)
    near =
        let q : e + 1 - (f + 1) ≡ e - f = omega arith in
        (rw q at re) ∙ sym (rest (e - f) (omega arith))

    pub after_near : r ≢ 0 → r ≡ next_free ws f
    after_near z = rw split (near ∙ sym (free_found (offers ws) (f + 1) (e - f) (array_count ws - e) (λ q. z (near ∙ q))))

    pub after_far : r ≡ 0 → (s : ℕ) → s ≡ behind ws ((f + 7) / per_group) → s ≡ next_free ws f
    after_far z s se =
        let q : f + 1 + (e - f) ≡ e + 1 = omega arith in
        rw split (se ∙ rw (← ed, ← q) (sym (free_past (offers ws) (f + 1) (e - f) (array_count ws - e) (sym near ∙ z)
        (omega arith))))

-- ---- where the header is right

-- a full group has none
full-used : (t : Arrays) (lo n : ℕ) → used_in t lo n ≡ n → (k : ℕ) → k < n → t.tag (lo + suc k) ≢ 0
full-used t lo zero e k h = absurd (omega arith)
full-used t lo (suc n) e k h =
    same (t.tag (lo + suc n)) 0
    (λ q b. absurd (omega (arith, used-full t lo n, rw b at e)))
    (λ q b. same k n (λ r _. rw r q) (λ r _. full-used t lo n (omega (arith, rw b at e)) k (omega arith)))

module _ (ws : List ℕ) (size : length ws ≤ most_words) (o : Header ws) where
  right_tag : (a : ℕ) → 1 ≤ a → a ≤ array_count ws → ((offers ws).tag a == 0) ≡ ((arrays_of ws).tag a == 0)
  right_tag a h w =
      let g = (a - 1) / per_group in
      bool (told_full ws g)
      (λ e. (let f = eqb-true _ _ (and_to _ _ e).0 in
      let u : used_of (arrays_of ws) g ≡ per_group = sym (o.groups g (omega arith)) ∙ f in
      let k = a - 1 - per_group * g in
      let d : per_group * g + suc k ≡ a = omega arith in
      let n = rw d at (full-used (arrays_of ws) (per_group * g) per_group u k (omega arith)) in
      rw e (sym (ne_eqb ((arrays_of ws).tag a) 0 n))))
      (λ e. rw e)

  pub right_used : (n : ℕ) → n ≤ array_count ws → used_in (offers ws) 0 n ≡ used_in (arrays_of ws) 0 n
  right_used zero h = refl
  right_used (suc n) h = rw (right_tag (0 + suc n) (omega arith) (omega arith), right_used n (omega arith))
