-- A slot by its four words, g f being that of feed f: when it is right, when it is free, and with one word set. Assumes nothing.
use Rattle.std.specs.Prelude.{◌≡◌, refl, ◌≢◌, Bool, cond, ◌&&◌, ℕ, eqb}
use Rattle.std.proofs.Common.{arith, eq-eqb, ne_eqb}
use Rattle.logic.specs.Cases.{same}
use Rattle.logic.specs.Reflects.{Reflects, reflects_eq, reflects_and, reflects_as}
use Rattle.slots.specs.Word.{IsFeed, feed_1, feed_2, feed_3, feed_4, each-feed}
use Rattle.slots.specs.Word.{hop_in, RightWord, right_word_b, right_word_reflects}
use Rattle.slots.specs.Winner.{winner_of, won_hop, winner_one, winner_none}

-- ---- of each feed, or of all four

four_reflects : (b : ℕ → Bool) (P : ℕ → Type 0) → ((f : ℕ) → Reflects (b f) (P f))
    → Reflects (b 1 && (b 2 && (b 3 && b 4))) ((f : ℕ) → IsFeed f → P f)
four_reflects b P r =
    reflects_as (λ z. each-feed P z.0 z.1.0 z.1.1.0 z.1.1.1)
    (λ z. (z 1 feed_1, (z 2 feed_2, (z 3 feed_3, z 4 feed_4))))
    (reflects_and (r 1) (reflects_and (r 2) (reflects_and (r 3) (r 4))))

-- ---- right: each word is

abbrev pub RightSlot : (ℕ → ℕ) → Type 0
RightSlot g = (f : ℕ) → IsFeed f → RightWord (g f)

unfoldable pub right_slot_b : (ℕ → ℕ) → Bool
right_slot_b g = right_word_b (g 1) && (right_word_b (g 2) && (right_word_b (g 3) && right_word_b (g 4)))

pub right_slot_reflects : (g : ℕ → ℕ) → Reflects (right_slot_b g) (RightSlot g)
unfolding right_slot_b
right_slot_reflects g = four_reflects (λ f. right_word_b (g f)) (λ f. RightWord (g f)) (λ f. right_word_reflects (g f))

-- ---- free: no feed has a candidate there

abbrev pub FreeSlot : (ℕ → ℕ) → Type 0
FreeSlot g = (f : ℕ) → IsFeed f → g f ≡ 0

unfoldable pub free_slot_b : (ℕ → ℕ) → Bool
free_slot_b g = eqb (g 1) 0 && (eqb (g 2) 0 && (eqb (g 3) 0 && eqb (g 4) 0))

pub free_slot_reflects : (g : ℕ → ℕ) → Reflects (free_slot_b g) (FreeSlot g)
unfolding free_slot_b
free_slot_reflects g = four_reflects (λ f. eqb (g f) 0) (λ f. g f ≡ 0) (λ f. reflects_eq (g f) 0)

-- a right slot has a winning hop exactly if it has a candidate
pub free_won : (g : ℕ → ℕ) → FreeSlot g → won_hop g ≡ 0
free_won g z = winner_one (λ w. hop_in w ≡ 0) g (λ f i. rw (z f i))

pub won_free : (g : ℕ → ℕ) → RightSlot g → won_hop g ≡ 0 → FreeSlot g
won_free g r z =
    winner_none g (same (winner_of g) 0 (λ e _. e)
    (λ n _. absurd (let h = (winner_one RightWord g r).hop n in omega arith)))

-- ---- the word of feed f set to w

abbrev pub with_word : (ℕ → ℕ) → ℕ → ℕ → ℕ → ℕ
with_word g f w j = cond (eqb j f) w (g j)

pub with_same : (g : ℕ → ℕ) (f w : ℕ) → with_word g f w f ≡ w
with_same g f w = rw (eq-eqb f f refl)

pub with_other : (g : ℕ → ℕ) (f w j : ℕ) → j ≢ f → with_word g f w j ≡ g j
with_other g f w j n = rw (ne_eqb j f n)

pub with_right : (g : ℕ → ℕ) (f w : ℕ) → RightSlot g → RightWord w → RightSlot (with_word g f w)
with_right g f w r p j i = same j f (λ _ e. rw e p) (λ _ e. rw e (r j i))
