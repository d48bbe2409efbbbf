-- The totals of a slot and of those above it in one page, each with the same number added. Assumes nothing.
--
--     slot 19: words total_at 19, total_at 9, total_at 4, total_at 2, total_at 1
use Rattle.std.specs.Prelude.{◌≡◌, ℕ, zero, suc, ◌+◌, ◌/◌, ◌%◌, ◌^◌, ◌<◌, ◌≤◌, cond, ◌≢◌, ◌⊎◌, List, length, ◌==◌, slice_index}
use Rattle.std.specs.Prelude.{slice_set, refl}
use Rattle.std.proofs.Common.{sym, ap, ◌∙◌, inl, inr, ⊎_elim, arith, length-set, get_or-set_same, get_or-set_other, eq-eqb}
use Rattle.std.proofs.Common.{ne_eqb}
use Rattle.std.proofs.Math.Nat.{pow-succ'}
use Rattle.logic.specs.Cases.{same}
use Rattle.sizes.specs.Sizes.{array_words, slot_end, totals_at, total_at}
use Rattle.totals.specs.Cover.{above, above_zero, above_here, above_next, above_less}

-- a number added to a word, as words wrap
abbrev pub plus : ℕ → ℕ → ℕ
plus x y = (x + y) % 2 ^ 32

abbrev pub added_at : List ℕ → ℕ → ℕ → List ℕ
added_at ws s by = slice_set ws (total_at s) (plus (slice_index ws (total_at s)) by)

-- at s, s / 2, .. to 1, of at most n numbers
unfoldable pub added_up : ℕ → List ℕ → ℕ → ℕ → List ℕ
added_up zero ws s by = ws
added_up (suc n) ws s by = cond (s == 0) ws (added_up n (added_at ws s by) (s / 2) by)

-- ---- in a loop: what is left is the whole

pub record Left (ws : List ℕ) (slot by : ℕ) (vs : List ℕ) (s : ℕ) : Type 0 where
  pub n : ℕ
  pub small : s < 2 ^ n
  pub page : length vs ≡ array_words
  pub left : added_up n vs s by ≡ added_up 9 ws slot by

pub left_all : (ws : List ℕ) (slot by : ℕ) → slot < slot_end → length ws ≡ array_words → Left ws slot by ws slot
left_all ws slot by h l = record { n = 9; small = h; page = l; left = refl }

up_more : (n : ℕ) (vs : List ℕ) (s by : ℕ) → s ≢ 0 → added_up (suc n) vs s by ≡ added_up n (added_at vs s by) (s / 2) by
unfolding added_up
up_more n vs s by z = rw (ne_eqb s 0 z)

up_none : (n : ℕ) (vs : List ℕ) (s by : ℕ) → s ≡ 0 → added_up n vs s by ≡ vs
unfolding added_up
up_none zero vs s by z = refl
up_none (suc n) vs s by z = rw (eq-eqb s 0 z)

pub left_more : (ws : List ℕ) (slot by : ℕ) (vs : List ℕ) (s x : ℕ) → s ≢ 0 → x ≡ plus (slice_index vs (total_at s)) by
    → Left ws slot by vs s → Left ws slot by (slice_set vs (total_at s) x) (s / 2)
left_more ws slot by vs s x z e o = go o.n o.small o.left
  where
    go : (n : ℕ) → s < 2 ^ n → added_up n vs s by ≡ added_up 9 ws slot by → Left ws slot by (slice_set vs (total_at s) x) (s / 2)
    go zero h q = absurd (omega arith)
    go (suc n) h q = record {
      n = n;
      small = omega (arith, pow-succ' 2 n);
      page = simp length-set o.page;
      left = rw e (sym (up_more n vs s by z) ∙ q);
    }

pub left_none : (ws : List ℕ) (slot by : ℕ) (vs : List ℕ) (s : ℕ) → s ≡ 0 → Left ws slot by vs s → vs ≡ added_up 9 ws slot by
left_none ws slot by vs s z o = sym (up_none o.n vs s by z) ∙ o.left

-- ---- word by word

pub up-length : (n : ℕ) (ws : List ℕ) (s by : ℕ) → length (added_up n ws s by) ≡ length ws
unfolding added_up
up-length zero ws s by = refl
up-length (suc n) ws s by =
    same s 0
    (λ _ e. rw e)
    (λ _ e. rw e (up-length n (added_at ws s by) (s / 2) by ∙ length-set ws (total_at s) (plus (slice_index ws (total_at s)) by)))

-- no total of a slot up to s
pub up-outside : (n : ℕ) (ws : List ℕ) (s by k : ℕ) → (k ≤ totals_at) ⊎ (total_at s < k)
    → slice_index (added_up n ws s by) k ≡ slice_index ws k
unfolding added_up
up-outside zero ws s by k h = refl
up-outside (suc n) ws s by k h =
    same s 0
    (λ _ e. rw e)
    (λ z e. rw e (up-outside n (added_at ws s by) (s / 2) by k
    (⊎_elim (λ (w : k ≤ totals_at). inl w) (λ (w : total_at s < k). inr (omega arith)) h)
    ∙ get_or-set_other ws (total_at s) k _ 0
    (λ q. ⊎_elim (λ (w : k ≤ totals_at). omega arith) (λ (w : total_at s < k). omega arith) h)))

-- a slot on the way up, and another
pub up_above : (n : ℕ) (ws : List ℕ) (s by q : ℕ) → total_at s < length ws → 1 ≤ q → above n s q ≡ 1
    → slice_index (added_up n ws s by) (total_at q) ≡ plus (slice_index ws (total_at q)) by
unfolding added_up
up_above zero ws s by q b h e = absurd (let z : ◌≡◌ {A = ℕ} 0 1 = sym (above_zero s q) ∙ e in omega arith)
up_above (suc n) ws s by q b h e =
    same s 0
    (λ z _. absurd (omega (arith, above_less (suc n) s q (omega arith))))
    (λ z f. rw f (same s q
    (λ p _. up-outside n (added_at ws s by) (s / 2) by (total_at q) (inr (omega arith))
    ∙ rw (← p) (get_or-set_same ws (total_at s) _ 0 b))
    (λ p _. up_above n (added_at ws s by) (s / 2) by q (simp length-set (omega arith)) h (sym (above_next n s q p) ∙ e)
    ∙ ap (λ (x : ℕ). plus x by) (get_or-set_other ws (total_at s) (total_at q) _ 0 (λ y. p (omega arith))))))

pub up_other : (n : ℕ) (ws : List ℕ) (s by q : ℕ) → 1 ≤ q → above n s q ≡ 0
    → slice_index (added_up n ws s by) (total_at q) ≡ slice_index ws (total_at q)
unfolding added_up
up_other zero ws s by q h e = refl
up_other (suc n) ws s by q h e =
    same s 0
    (λ z f. rw f)
    (λ z f. rw f (same s q
    (λ p _. absurd (omega (arith, above_here n s q p)))
    (λ p _. up_other n (added_at ws s by) (s / 2) by q h (sym (above_next n s q p) ∙ e)
    ∙ get_or-set_other ws (total_at s) (total_at q) _ 0 (λ y. p (omega arith)))))
