-- What is found among the gathered candidates: at each place what its word stands for. So a word set puts its candidate into the
-- list, and a word cleared cuts it out. Assumes nothing.
use Rattle.std.specs.Prelude.{◌≡◌, ◌≢◌}
use Rattle.std.proofs.Math.Path.{refl, sym, ap, ap₂}
use Rattle.std.proofs.Common.{◌∙◌, le_refl}
use Rattle.std.proofs.Math.Option.{none, some}
use Prim.Native.Nat.{ℕ, zero, suc, ◌+◌, ◌-◌, ◌*◌, ◌^◌, ◌≤◌, ◌<◌}
use Rattle.std.proofs.Math.Nat.{pow-succ'}
use native.Mathlib.Omega.{arith}
use Rattle.sizes.specs.Sizes.{slot_words}
use Rattle.logic.specs.Cases.{same, less}
use Rattle.laws.specs.Collect.{dbl, key_ge, key_lt}
use Rattle.candidates.specs.Keyed.{Ordered, find, put, cut}
use Rattle.candidates.specs.Candidate.{Candidate, place, key}
use Rattle.rivals.specs.Maps.{weaken, put_ordered, cut_ordered, find-below, put_same, put_other, cut_same, cut_other, ext}
use Rattle.rivals.specs.Append.{or_else, else_none, Inside, inside_ordered, inside_weaken, inside-append, find-append, find-above}
use Rattle.slots.specs.Word.{IsFeed}
use Rattle.gather.specs.Gather.{meant, listed, of_feeds, of_slot, gather, gathered, base}
use Rattle.gather.specs.Gather.{one_miss}

-- ---- they increase

module _ (g : ℕ → ℕ → ℕ → ℕ) where
  -- what is found: of the prefix, then of its lower half, then of its upper half
  pub gather_split : (d v l k : ℕ)
      → find key (gather g (suc d) v l) k
      ≡ or_else (find key (of_slot (g v l) (suc d) v l) k)
      (or_else (find key (gather g d (2 * v) (suc l)) k) (find key (gather g d (2 * v + 1) (suc l)) k))
  unfolding gather
  gather_split d v l k =
      find-append key (of_slot (g v l) (suc d) v l) _ k
      ∙ ap (or_else (find key (of_slot (g v l) (suc d) v l) k)) (find-append key (gather g d (2 * v) (suc l)) _ k)

-- ---- at the place of a prefix and a feed

-- ---- the list depends, at each place, on the word of that place alone

unfoldable pub Agree : (W : ℕ) (g h : ℕ → ℕ → ℕ → ℕ) → ℕ → Type 0
Agree W g h k = (v l e f : ℕ) → IsFeed f → l + e ≡ W → v < 2 ^ l → base e v l + f ≡ k → g v l f ≡ h v l f

module _ (W : ℕ) (g h : ℕ → ℕ → ℕ → ℕ) (k : ℕ) (a : Agree W g h k) where
  pub feeds_agree : (d v l f n : ℕ) → 1 ≤ f → f + n ≤ 5 → l + d ≡ W → v < 2 ^ l
      → find key (of_feeds (g v l) d v l f n) k ≡ find key (of_feeds (h v l) d v l f n) k
  unfolding of_feeds Agree
  feeds_agree d v l f zero x y p b = refl
  feeds_agree d v l f (suc n) x y p b =
      find-append key (listed (meant d v l f (g v l f))) (of_feeds (g v l) d v l (suc f) n) k
      ∙ ap₂ or_else
      (same (base d v l + f) k
      (λ q _. rw (a v l d f (record { low = x; high = omega arith }) p b q))
      (λ n _. one_miss d v l f (g v l f) k n ∙ sym (one_miss d v l f (h v l f) k n)))
      (feeds_agree d v l (suc f) n (omega arith) (omega arith) p b)
      ∙ sym (find-append key (listed (meant d v l f (h v l f))) (of_feeds (h v l) d v l (suc f) n) k)

-- ---- of the whole width

-- h is g but for the word of feed f₀ at (v₀, l₀)
abbrev pub OffWord : ℕ → ℕ → ℕ → ℕ → (ℕ → ℕ → ℕ → ℕ) → (ℕ → ℕ → ℕ → ℕ) → Type 0
OffWord W v₀ l₀ f₀ g h =
    (v l f : ℕ) → IsFeed f → l ≤ W → v < 2 ^ l → ¬ ((v ≡ v₀) × (l ≡ l₀) × (f ≡ f₀)) → g v l f ≡ h v l f
