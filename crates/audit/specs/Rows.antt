-- Cells in rows: what is tested of each row is tested of all. Assumes nothing.
use Rattle.std.specs.Prelude.{◌≡◌, refl, Bool, true, false, ◌&&◌, List, ℕ, zero, suc, ◌+◌, ◌-◌, ◌≤◌}
use Rattle.std.proofs.Common.{sym, ◌∙◌, true≢false, arith}
use Rattle.logic.specs.Cases.{bool, less}
use Rattle.logic.specs.Every.{all_b}
use Rattle.logic.specs.Reflects.{all_to_lem, all_from}
use Rattle.tree.specs.Check.{link_b}
use Rattle.totals.specs.Check.{outer_b}
use Rattle.words.specs.Words.{arrays_of, totals_of}

-- cell i of array a, of A arrays in L levels, has a right link, and the slot above it a right total
abbrev pub tied_b : ℕ → ℕ → List ℕ → ℕ → ℕ → Bool
tied_b A L ws a i = link_b A L (arrays_of ws) a i && outer_b (arrays_of ws) (totals_of ws) a i

-- two tests of each number are one
pub all_both : (p q : ℕ → Bool) (n : ℕ) → all_b (λ i. p i && q i) n ≡ (all_b p n && all_b q n)
unfolding all_b
all_both p q zero = refl
all_both p q (suc n) = rw (all_both p q n) (swapped (all_b p n) (all_b q n) (p n) (q n))
  where
    swapped : (a b c d : Bool) → ((a && b) && (c && d)) ≡ ((a && c) && (b && d))
    swapped false b c d = refl
    swapped true false false d = refl
    swapped true false true d = refl
    swapped true true c d = refl

-- the cells of a row
abbrev pub row_cells : ℕ
row_cells = 16

module _ (p : ℕ → Bool) (i m : ℕ) where
  pub row_more : all_b p i ≡ true → all_b (λ j. p (i + j)) m ≡ true → all_b p (i + m) ≡ true
  row_more a b =
      all_from p (i + m) (λ k h. less k i (λ w _. all_to_lem p i a k w)
      (λ w _. (let e : i + (k - i) ≡ k = omega arith in rw e at (all_to_lem (λ j. p (i + j)) m b (k - i) (omega arith)))))

  pub row_stop : (n : ℕ) → i + m ≤ n → all_b (λ j. p (i + j)) m ≡ false → false ≡ all_b p n
  row_stop n h b =
      bool (all_b p n)
      (λ t. absurd (true≢false (sym (all_from (λ j. p (i + j)) m (λ k w. all_to_lem p n t (i + k) (omega arith))) ∙ b)))
      (λ t. sym t)
