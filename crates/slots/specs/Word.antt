-- A word of a slot: what one feed's candidate is there, preference * 65536 + hop, and 0 for none. Assumes nothing.
--
--     slot s of an array    its words    4s        4s + 1    4s + 2    4s + 3
--                           are of feed  1         2         3         4
use Rattle.std.specs.Prelude.{◌≡◌, refl, ◌≢◌, Bool, ◌&&◌, ◌||◌, ℕ, ◌+◌, ◌*◌, ◌/◌, ◌%◌, ◌≤◌, ◌<◌, leb, eqb}
use Rattle.std.proofs.Common.{inl, inr, ⊎_elim, arith}
use Rattle.std.proofs.Math.Option.{Option, none, some}
use Rattle.logic.specs.Cases.{same}
use Rattle.logic.specs.Reflects.{Reflects, reflects_eq, reflects_le, reflects_and, reflects_or, reflects_as}
use Rattle.sizes.specs.Sizes.{slot_words, hop_bound}
use Rattle.candidates.specs.Candidate.{Candidate}

-- a feed's number
pub record IsFeed (f : ℕ) : Type 0 where
  pub low : 1 ≤ f
  pub high : f ≤ slot_words

pub feed_1 : IsFeed 1
feed_1 = record { low = omega arith; high = omega arith }

pub feed_2 : IsFeed 2
feed_2 = record { low = omega arith; high = omega arith }

pub feed_3 : IsFeed 3
feed_3 = record { low = omega arith; high = omega arith }

pub feed_4 : IsFeed 4
feed_4 = record { low = omega arith; high = omega arith }

-- what holds of these holds of each feed
pub each-feed : (P : ℕ → Type 0) → P 1 → P 2 → P 3 → P 4 → (f : ℕ) → IsFeed f → P f
each-feed P a b c d f i =
    same f 1 (λ e _. rw e a) (λ n₁ _.
    same f 2 (λ e _. rw e b) (λ n₂ _.
    same f 3 (λ e _. rw e c) (λ n₃ _.
    let e : f ≡ 4 = omega (arith, i.low, i.high) in rw e d)))

-- ---- preference and hop

abbrev pub word_of : ℕ → ℕ → ℕ
word_of p h = p * hop_bound + h

abbrev pub preference_in : ℕ → ℕ
preference_in w = w / hop_bound

abbrev pub hop_in : ℕ → ℕ
hop_in w = w % hop_bound

-- the word of a candidate, or of none
abbrev pub word_for : Option Candidate → ℕ
word_for none = 0
word_for (some c) = word_of c.pref c.hop

pub preference_of : (p h : ℕ) → h < hop_bound → preference_in (word_of p h) ≡ p
preference_of p h b = omega arith

pub hop_of_lem : (p h : ℕ) → h < hop_bound → hop_in (word_of p h) ≡ h
hop_of_lem p h b = omega arith

-- ---- a word that is right: none, or a hop from 1 to 65,535 with a preference up to 255

pub record RightWord (w : ℕ) : Type 0 where
  pub hop : w ≢ 0 → 1 ≤ hop_in w
  pub preference : preference_in w ≤ 255

unfoldable pub right_word_b : ℕ → Bool
right_word_b w = eqb w 0 || (leb 1 (hop_in w) && leb (preference_in w) 255)

pub right_word_reflects : (w : ℕ) → Reflects (right_word_b w) (RightWord w)
unfolding right_word_b
right_word_reflects w =
    reflects_as
    (λ z. ⊎_elim (λ (e : w ≡ 0). record { hop = λ n. absurd (n e); preference = omega arith })
    (λ (e : (1 ≤ hop_in w) × (preference_in w ≤ 255)). record { hop = λ n. e.0; preference = e.1 }) z)
    (λ z. same w 0 (λ e _. inl e) (λ n _. inr (z.hop n, z.preference)))
    (reflects_or (reflects_eq w 0) (reflects_and (reflects_le 1 (hop_in w)) (reflects_le (preference_in w) 255)))

pub right_none : RightWord 0
right_none = record { hop = λ n. absurd (n refl); preference = omega arith }

pub right_of : (p h : ℕ) → p ≤ 255 → 1 ≤ h → h < hop_bound → RightWord (word_of p h)
right_of p h a b c = record { hop = λ n. omega arith; preference = omega arith }
