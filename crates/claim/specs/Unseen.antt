-- No call of any kind tells two tables of one list apart: the layout is not part of what a caller sees. Assumes nothing.
use Rattle.std.specs.Prelude.{◌≡◌, List, ℕ}
use Rattle.std.proofs.Common.{sym, ◌∙◌}
use Rattle.routes.specs.Family.{Family, levels}
use Rattle.candidates.specs.Candidate.{Candidate}
use Rattle.candidates.specs.Answers.{Update}
use Rattle.candidates.specs.Seen.{table}
use Rattle.words.specs.Table.{seen}
use Rattle.answers.specs.declared.Counted.{Counted}
use Rattle.answers.specs.declared.Found.{Found}
use Rattle.answers.specs.declared.Total.{Total}
use Rattle.answers.specs.declared.Updated.{Updated}
use Rattle.answers.specs.declared.Written.{Written}
use Rattle.answers.specs.declared.Ran.{Ran}
use Rattle.claim.specs.Calls.{Checks, Looks, Counts, Updates, Writes, Runs}

-- whatever is called on ws and on vs, the answers are equal, and the words are again seen to be the same
pub record Unseen (F : Family) (ws vs : List ℕ) : Type 0 where
  pub lookups : (a : ℕ) (r s : Found) → Looks F ws a r → Looks F vs a s → r ≡ s
  pub insides : (a l : ℕ) (r s : Total) → Counts F ws a l r → Counts F vs a l s → r ≡ s
  pub checks : (r s : Counted) → Checks F ws r → Checks F vs s → r ≡ s
  pub updates : (u : Update) (ws' vs' : List ℕ) (r s : Updated) → Updates F ws ws' u r → Updates F vs vs' u s
      → (r ≡ s) × (seen (levels F) ws' ≡ seen (levels F) vs')
  pub writes : (b c d : List ℕ) (r s : Written) → Writes F ws b c r → Writes F vs b d s → (r ≡ s) × (c ≡ d)
  pub runs : (feed b ws' vs' c d : List ℕ) (r s : Ran) → Runs F ws feed b ws' c r → Runs F vs feed b vs' d s
      → (r ≡ s) × (c ≡ d) × (seen (levels F) ws' ≡ seen (levels F) vs')

pub unseen : (F : Family) (ws vs : List ℕ) → seen (levels F) ws ≡ seen (levels F) vs → (A : ℕ) (cs : List Candidate)
    → seen (levels F) vs ≡ table A cs → Unseen F ws vs
unseen F ws vs e A cs q =
    let p : seen (levels F) ws ≡ table A cs = e ∙ q in
    record {
      lookups = λ a r s x y. (rw p at x) ∙ sym (rw q at y);
      insides = λ a l r s x y. (rw p at x) ∙ sym (rw q at y);
      checks = λ r s x y. (rw p at x) ∙ sym (rw q at y);
      updates = λ u ws' vs' r s x y.
          ((rw p at x.answer) ∙ sym (rw q at y.answer), (rw p at x.list) ∙ sym (rw q at y.list));
      writes = λ b c d r s x y.
          ((rw p at x.answer) ∙ sym (rw q at y.answer), (rw p at x.front) ∙ sym (rw q at y.front));
      runs = λ feed b ws' vs' c d r s x y. (
        (rw p at x.answer) ∙ sym (rw q at y.answer),
        (rw p at x.replies) ∙ sym (rw q at y.replies),
        (rw p at x.list) ∙ sym (rw q at y.list),
      );
    }
