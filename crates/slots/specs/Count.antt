-- How many candidates the slots of a page hold: a sum over the feeds, and the same as one count of words. Assumes nothing.
--
--     words 4 .. 4n + 3 of a page are those of slots 1 .. n, each word of one feed
use Rattle.std.specs.Prelude.{◌≡◌, refl, true, cond, List, ℕ, zero, suc, ◌+◌, ◌-◌, ◌*◌, ◌≤◌, ◌<◌, eqb, get_or}
use Rattle.std.proofs.Common.{ap, ◌∙◌, arith}
use Rattle.sizes.specs.Sizes.{slot_words, slot_at}
use Rattle.logic.specs.Cases.{bool}
use Rattle.slots.specs.Taken.{taken}
use Rattle.slots.specs.Page.{words_at}

-- the sum of h f over n feeds from f on
unfoldable pub sum_feeds : (ℕ → ℕ) → ℕ → ℕ → ℕ
sum_feeds h f zero = 0
sum_feeds h f (suc n) = h f + sum_feeds h (suc f) n

-- how many slots from 1 to n have a candidate of feed f, and how many candidates they have
abbrev pub feed_taken : List ℕ → ℕ → ℕ → ℕ
feed_taken ws n f = taken (λ s. words_at ws (slot_at s) f) n

abbrev pub candidates_to : List ℕ → ℕ → ℕ
candidates_to ws n = sum_feeds (feed_taken ws n) 1 slot_words

-- ---- the same as a count of words

-- word k of the slots, counted from 1
abbrev pub slot_word : List ℕ → ℕ → ℕ
slot_word ws k = get_or ws (k + 3) 0

some : ℕ → ℕ
some w = cond (eqb w 0) 0 1

-- four words more
four_more : (h : ℕ → ℕ) (n : ℕ) → taken h (suc (suc (suc (suc n))))
    ≡ taken h n + some (h (n + 1)) + some (h (n + 2)) + some (h (n + 3)) + some (h (n + 4))
unfolding taken some
four_more h n =
    let a : suc n + 1 ≡ n + 2 = omega arith in
    let b : suc (suc n) + 1 ≡ n + 3 = omega arith in
    let c : suc (suc (suc n)) + 1 ≡ n + 4 = omega arith in
    rw (a, b, c)

pub words_count : (ws : List ℕ) (n : ℕ) → taken (slot_word ws) (slot_words * n) ≡ candidates_to ws n
unfolding taken sum_feeds some
words_count ws zero = refl
words_count ws (suc n) =
    let e : 4 * suc n ≡ suc (suc (suc (suc (4 * n)))) = omega arith in
    let w₁ : 4 * n + 1 + 3 ≡ 4 * (n + 1) + 1 - 1 = omega arith in
    let w₂ : 4 * n + 2 + 3 ≡ 4 * (n + 1) + 2 - 1 = omega arith in
    let w₃ : 4 * n + 3 + 3 ≡ 4 * (n + 1) + 3 - 1 = omega arith in
    let w₄ : 4 * n + 4 + 3 ≡ 4 * (n + 1) + 4 - 1 = omega arith in
    ap (taken (slot_word ws)) e ∙ four_more (slot_word ws) (4 * n) ∙ rw (w₁, w₂, w₃, w₄) (let i = words_count ws n in omega arith)

-- ---- how many at most, and none where the words are 0

taken_few : (h : ℕ → ℕ) (n : ℕ) → taken h n ≤ n
unfolding taken
taken_few h zero = omega arith
taken_few h (suc n) =
    let i = taken_few h n in bool (eqb (h (n + 1)) 0) (λ e. rw e (omega arith)) (λ e. rw e (omega arith))

pub few_candidates : (ws : List ℕ) (n : ℕ) → candidates_to ws n ≤ slot_words * n
few_candidates ws n = omega (arith, words_count ws n, taken_few (slot_word ws) (slot_words * n))

taken_past : (h : ℕ → ℕ) (n j : ℕ) → ((k : ℕ) → k < j → eqb (h (n + k + 1)) 0 ≡ true) → taken h (n + j) ≡ taken h n
unfolding taken
taken_past h n zero z = let e : n + 0 ≡ n = omega arith in rw e
taken_past h n (suc j) z =
    let e : n + suc j ≡ suc (n + j) = omega arith in
    rw (e, z j (omega arith)) (let i = taken_past h n j (λ k b. z k (omega arith)) in omega arith)

pub free_candidates : (ws : List ℕ) (n j : ℕ) → ((k : ℕ) → k < slot_words * j → eqb (get_or ws (slot_at (n + 1) + k) 0) 0 ≡ true)
    → candidates_to ws (n + j) ≡ candidates_to ws n
free_candidates ws n j z =
    let e : slot_words * (n + j) ≡ slot_words * n + slot_words * j = omega arith in
    let p = taken_past (slot_word ws) (slot_words * n) (slot_words * j)
    (λ k h. (let q : slot_words * n + k + 1 + 3 ≡ slot_at (n + 1) + k = omega arith in rw q (z k h))) in
    omega (arith, words_count ws (n + j), words_count ws n, ap (taken (slot_word ws)) e, p)
