-- Words seen as a table, and what is known of its list and of its room; words that were cleared; a run that was not refused.
-- All is said of a family's calls, so of IPv4's and of IPv6's, and so it is in the files that build on this one; one that is
-- of IPv4 alone says so. Assumes nothing.
use Rattle.std.specs.Prelude.{◌≡◌, false, List, [], ℕ, ◌+◌, ◌*◌, ◌≤◌, length, Result, Ok, Err}
use Rattle.std.proofs.Common.{sym, ap, ◌∙◌, arith}
use Rattle.logic.specs.Cases.{bool}
use Rattle.sizes.specs.Sizes.{array_words}
use Rattle.routes.specs.Family.{Family, levels, width}
use Rattle.routes.specs.Room.{need}
use Rattle.routes.specs.Seen.{gives}
use Rattle.candidates.specs.Candidate.{Candidate, IsList}
use Rattle.candidates.specs.Winners.{winners}
use Rattle.candidates.specs.Seen.{table, misfits, arrays}
use Rattle.laws.specs.Families.{levels_some, levels_few}
use Rattle.laws.specs.Given.{given_one, given_refused}
use Rattle.words.specs.Words.{arrays_of, array_count}
use Rattle.words.specs.Table.{seen}
use Rattle.words.specs.Listed.{table_list}
use Rattle.words.specs.Stock.{table_need}
use Rattle.tree.specs.Free.{used-full}
use Rattle.words.specs.View.{table_of, table_fits, fits_no_misfit}
use Rattle.audit.specs.Answer.{HasCleared}
use Rattle.refusals.specs.declared.Refusal.{Refusal}
use Rattle.feed.specs.Runs.{Ran, run_answer}
use Rattle.feed.specs.declared.Report.{Report}

-- ---- a table

-- the list is one of candidates, the arrays of their winners fit, and A is read from the number of words
pub record Held (F : Family) (A : ℕ) (cs : List Candidate) (ws : List ℕ) : Type 0 where
  pub list : IsList (width F) cs
  pub room : need (width F) (winners cs) ≤ A
  pub arrays : arrays (length ws) ≡ A
  pub size : misfits (length ws) ≡ false

pub held : (F : Family) (A : ℕ) (cs : List Candidate) (ws : List ℕ) → seen (levels F) ws ≡ table A cs → Held F A cs ws
held F A cs ws e =
    let i = table_of (levels F) ws (levels_some F) (omega (arith, levels_few F)) A cs e in
    let n = table_need (levels F) ws i.table in
    record {
      list = rw i.list (table_list (levels F) ws i.table);
      room = rw i.list (omega (arith, n, i.table.header.count, used-full (arrays_of ws) 0 (array_count ws), i.arrays));
      arrays = sym i.arrays;
      size = fits_no_misfit (length ws) (table_fits (levels F) ws i.table);
    }

-- ---- cleared words

-- words that clear took are a table that holds nothing, with as many arrays as their number says
pub cleared_done : (F : Family) (A : ℕ) (ws vs : List ℕ) → length ws ≡ array_words * (A + 1) → HasCleared (levels F) ws vs (Ok tt)
    → seen (levels F) vs ≡ table A []
cleared_done F A ws vs n c =
    bool (misfits (length ws))
    (λ e. absurd (given_refused (rw e at c.answer)))
    (λ e. (rw e at c.left) ∙ ap (λ (k : ℕ). table k []) (count n))
  where
    count : length ws ≡ array_words * (A + 1) → arrays (length ws) ≡ A
    count n = omega arith

-- as many words as a table has are taken, and are then a table of the same room
pub cleared-alike : (F : Family) (A : ℕ) (cs : List Candidate) (ws lent vs : List ℕ) (r : Result (Unit {0}) Refusal)
    → seen (levels F) ws ≡ table A cs → length lent ≡ length ws → HasCleared (levels F) lent vs r
    → seen (levels F) vs ≡ table A []
cleared-alike F A cs ws lent vs r e n c =
    let h = held F A cs ws e in
    (rw (n, h.size, h.arrays) at c.left)

-- ---- a run

-- what is told of one that was not refused is its report
pub stopped : (r : Ran) (p : Report) → run_answer r ≡ gives p → r ≡ Ok p
stopped (Ok q) p e = ap Ok (given_one e)
stopped (Err f) p e = absurd (given_refused (sym e))
