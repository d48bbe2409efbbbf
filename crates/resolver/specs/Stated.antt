-- What the calls' promise comes to: one answer, on a table that of the winners' list alone. Assumes nothing.
use Rattle.std.specs.Prelude.{◌≡◌, List, ℕ}
use Rattle.std.proofs.Common.{sym, ap, ◌∙◌}
use Rattle.candidates.specs.Candidate.{Candidate}
use Rattle.candidates.specs.Winners.{winners}
use Rattle.candidates.specs.Seen.{Seen, table}
use Rattle.words.specs.Table.{seen}
use Rattle.resolver.specs.Entry.{Entries}
use Rattle.resolver.specs.Resolve.{resolve_in, resolve_on, walked_by, routed}
use Rattle.resolver.specs.declared.way.Resolved.{Resolved}

-- what a call promises
abbrev pub HasResolved : List ℕ → Entries → ℕ → Resolved → Type 0
HasResolved ws es a r = r ≡ routed (resolve_on (seen 4 ws) (walked_by ws) es a)

pub one_answer : (ws : List ℕ) (es : Entries) (a : ℕ) (r s : Resolved) → HasResolved ws es a r → HasResolved ws es a s → r ≡ s
one_answer ws es a r s p q = p ∙ sym q

-- on a table the list decides, with no word of the table
pub of_table : (ws : List ℕ) (A : ℕ) (cs : List Candidate) → seen 4 ws ≡ table A cs → (es : Entries) (a : ℕ) (r : Resolved)
    → HasResolved ws es a r → r ≡ routed (resolve_in (winners cs) es a)
of_table ws A cs e es a r p = p ∙ ap (λ (s : Seen). routed (resolve_on s (walked_by ws) es a)) e

-- so two tables with the same winners answer alike, whatever their room and their words
pub same_winners : (ws vs : List ℕ) (A B : ℕ) (cs ds : List Candidate) → seen 4 ws ≡ table A cs → seen 4 vs ≡ table B ds
    → winners cs ≡ winners ds → (es : Entries) (a : ℕ) (r s : Resolved) → HasResolved ws es a r → HasResolved vs es a s → r ≡ s
same_winners ws vs A B cs ds e f w es a r s p q =
    of_table ws A cs e es a r p ∙ ap (λ rs. routed (resolve_in rs es a)) w ∙ sym (of_table vs B ds f es a s q)
