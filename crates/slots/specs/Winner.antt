-- Which of a slot's four words wins: of those that are not 0 the one of the lowest preference, then of the lowest feed.
-- Assumes nothing.
--
--     feed  1            2            3            4
--           0            10 via 6     5 via 9      5 via 7        of preference 5 there are two, and feed 3 wins: via 9
use Rattle.std.specs.Prelude.{◌≡◌, ◌≢◌, cond, ℕ, ◌≤◌, ◌<◌, ltb, eqb}
use Rattle.std.proofs.Common.{arith, ne_eqb, lt-ltb, le-ltb}
use Rattle.logic.specs.Cases.{bool, same}
use Rattle.sizes.specs.Sizes.{hop_bound}
use Rattle.slots.specs.Word.{IsFeed, feed_1, feed_2, feed_3, feed_4, each-feed, preference_in, hop_in}

-- of a word x and a word y of a higher feed, the one that wins
unfoldable pub lower : ℕ → ℕ → ℕ
lower x y = cond (eqb y 0) x (cond (eqb x 0) y (cond (ltb (preference_in y) (preference_in x)) y x))

-- of four words, by three comparisons
abbrev pub winner4 : ℕ → ℕ → ℕ → ℕ → ℕ
winner4 a b c d = lower a (lower b (lower c d))

-- of the words g f of the feeds f
abbrev pub winner_of : (ℕ → ℕ) → ℕ
winner_of g = winner4 (g 1) (g 2) (g 3) (g 4)

-- the winning hop, 0 for none
abbrev pub won_hop : (ℕ → ℕ) → ℕ
won_hop g = hop_in (winner_of g)

-- ---- the cases of a comparison

pub lower_none : (x y : ℕ) → y ≡ 0 → lower x y ≡ x
unfolding lower
lower_none x y e = rw e

pub lower_only : (x y : ℕ) → y ≢ 0 → x ≡ 0 → lower x y ≡ y
unfolding lower
lower_only x y n e = rw (ne_eqb y 0 n, e)

pub lower-second : (x y : ℕ) → y ≢ 0 → x ≢ 0 → preference_in y < preference_in x → lower x y ≡ y
unfolding lower
lower-second x y n m h = rw (ne_eqb y 0 n, ne_eqb x 0 m, lt-ltb (preference_in y) (preference_in x) h)

pub lower_first : (x y : ℕ) → y ≢ 0 → x ≢ 0 → preference_in x ≤ preference_in y → lower x y ≡ x
unfolding lower
lower_first x y n m h = rw (ne_eqb y 0 n, ne_eqb x 0 m, le-ltb (preference_in y) (preference_in x) h)

-- ---- it is one of the two

lower_either : (P : ℕ → Type 0) (x y : ℕ) → P x → P y → P (lower x y)
unfolding lower
lower_either P x y p q =
    bool (eqb y 0) (λ e. rw e p) (λ e.
    bool (eqb x 0) (λ d. rw (e, d) q) (λ d.
    bool (ltb (preference_in y) (preference_in x)) (λ c. rw (e, d, c) q) (λ c. rw (e, d, c) p)))

-- what holds of each of the four words holds of the winner
pub winner_one : (P : ℕ → Type 0) (g : ℕ → ℕ) → ((f : ℕ) → IsFeed f → P (g f)) → P (winner_of g)
winner_one P g p =
    lower_either P (g 1) _ (p 1 feed_1)
    (lower_either P (g 2) _ (p 2 feed_2) (lower_either P (g 3) (g 4) (p 3 feed_3) (p 4 feed_4)))

pub won_small : (g : ℕ → ℕ) → won_hop g < hop_bound
won_small g = omega arith

-- words that are the same, feed by feed, have one winner
pub winner_same : (g h : ℕ → ℕ) → ((f : ℕ) → IsFeed f → g f ≡ h f) → winner_of g ≡ winner_of h
winner_same g h e = rw (e 1 feed_1, e 2 feed_2, e 3 feed_3, e 4 feed_4)

-- ---- there is none only where all four are 0

lower_zero : (x y : ℕ) → lower x y ≡ 0 → (x ≡ 0) × (y ≡ 0)
unfolding lower
lower_zero x y z =
    same y 0 (λ m e. (rw e at z, m)) (λ n e.
    same x 0 (λ _ d. absurd (n (rw (e, d) at z))) (λ m d.
    bool (ltb (preference_in y) (preference_in x)) (λ c. absurd (n (rw (e, d, c) at z))) (λ c. absurd (m (rw (e, d, c) at z)))))

pub winner_none : (g : ℕ → ℕ) → winner_of g ≡ 0 → (f : ℕ) → IsFeed f → g f ≡ 0
winner_none g z =
    let a = lower_zero (g 1) (lower (g 2) (lower (g 3) (g 4))) z in
    let b = lower_zero (g 2) (lower (g 3) (g 4)) a.1 in
    let c = lower_zero (g 3) (g 4) b.1 in
    each-feed (λ f. g f ≡ 0) a.0 b.0 c.0 c.1
