-- What the words are seen to be, by cases: a wrong size, no table, or a table with its list. Assumes nothing.
use Rattle.std.specs.Prelude.{◌≡◌, ℕ, ◌%◌, ◌<◌, ◌≤◌, true, false, List, length}
use Rattle.std.proofs.Common.{sym, ap, ◌∙◌, true≢false, arith, eq-eqb, le-ltb}
use Rattle.logic.specs.Cases.{bool, same, less}
use Rattle.sizes.specs.Sizes.{array_words, least_words, most_words, level_bound}
use Rattle.candidates.specs.Candidate.{Candidate}
use Rattle.candidates.specs.Seen.{Seen, misfit, foreign, table, misfits}
use Rattle.words.specs.Words.{array_count}
use Rattle.words.specs.Table.{table_b, list_of, seen}
use Rattle.words.specs.TableBut.{Table}
use Rattle.words.specs.CheckReflects.{Fits, table_reflects}

-- ---- the size

pub fits_no_misfit : (n : ℕ) → Fits n → misfits n ≡ false
fits_no_misfit n f = rw (eq-eqb (n % array_words) 0 f.whole, le-ltb n least_words f.low, le-ltb most_words n f.high)

pub no_misfit_fits : (n : ℕ) → misfits n ≡ false → Fits n
no_misfit_fits n e =
    same (n % array_words) 0
    (λ w q. less n least_words
    (λ _ r. absurd (true≢false (rw (q, r) at e)))
    (λ l r. less most_words n
    (λ _ s. absurd (true≢false (rw (q, r, s) at e)))
    (λ h _. record { whole = w; low = l; high = h })))
    (λ _ q. absurd (true≢false (rw q at e)))

module _ (L : ℕ) (ws : List ℕ) where
  pub table_fits : Table L ws → Fits (length ws)
  table_fits t = record { whole = t.whole; low = t.low; high = t.high }

  table_true : Table L ws → table_b L ws ≡ true
  table_true t = (table_reflects L ws t.shape.some_level t.shape.levels (table_fits t)).from t

  -- ---- what is seen

  pub seen_misfit : misfits (length ws) ≡ true → seen L ws ≡ misfit
  unfolding seen
  seen_misfit e = rw e

  pub seen_foreign : misfits (length ws) ≡ false → table_b L ws ≡ false → seen L ws ≡ foreign
  unfolding seen
  seen_foreign e b = rw (e, b)

  pub seen_table : Table L ws → seen L ws ≡ table (array_count ws) (list_of L ws)
  unfolding seen
  seen_table t = rw (fits_no_misfit (length ws) (table_fits t), table_true t)

  -- one of the three
  pub seen-cases : {P : Type 0} → 1 ≤ L → L < level_bound
      → (misfits (length ws) ≡ true → seen L ws ≡ misfit → P)
      → (misfits (length ws) ≡ false → table_b L ws ≡ false → seen L ws ≡ foreign → P)
      → (misfits (length ws) ≡ false → table_b L ws ≡ true → Table L ws → seen L ws ≡ table (array_count ws) (list_of L ws) → P)
      → P
  seen-cases some levels x y z =
      bool (misfits (length ws))
      (λ e. x e (seen_misfit e))
      (λ e. bool (table_b L ws)
      (λ b. (let t = (table_reflects L ws some levels (no_misfit_fits (length ws) e)).to b in z e b t (seen_table t)))
      (λ b. y e b (seen_foreign e b)))

-- ---- and back

-- words seen as a table of A arrays with the candidates cs
pub record Is (L : ℕ) (ws : List ℕ) (A : ℕ) (cs : List Candidate) : Type 0 where
  pub table : Table L ws
  pub arrays : A ≡ array_count ws
  pub list : cs ≡ list_of L ws

abbrev kind : Seen → ℕ
kind misfit = 1
kind foreign = 2
kind (table A cs) = 0

module _ (L : ℕ) (ws : List ℕ) (some : 1 ≤ L) (levels : L < level_bound) where
  pub table_of : (A : ℕ) (cs : List Candidate) → seen L ws ≡ table A cs → Is L ws A cs
  table_of A cs e =
      seen-cases L ws some levels
      (λ _ q. absurd (let k : ◌≡◌ {A = ℕ} 1 0 = ap kind (sym q ∙ e) in omega arith))
      (λ _ _ q. absurd (let k : ◌≡◌ {A = ℕ} 2 0 = ap kind (sym q ∙ e) in omega arith))
      (λ _ _ t q. (let r : table A cs ≡ table (array_count ws) (list_of L ws) = sym e ∙ q in
      record { table = t; arrays = cc; list = cc }))
