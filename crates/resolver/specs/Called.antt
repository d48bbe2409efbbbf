-- The worked cases, said of the calls by their promise alone. Assumes nothing.
use Rattle.std.specs.Prelude.{◌≡◌, refl, List, [], ◌∷◌, ℕ}
use Rattle.std.proofs.Common.{ap, ◌∙◌}
use Rattle.routes.specs.Match.{Match}
use Rattle.routes.specs.Seen.{Answer, refuses}
use Rattle.candidates.specs.Seen.{Seen, misfit, foreign, table}
use Rattle.words.specs.Table.{seen}
use Rattle.resolver.specs.Entry.{Entries, hops}
use Rattle.resolver.specs.Resolve.{resolved, resolve_on, walked_by, routed}
use Rattle.resolver.specs.Stated.{HasResolved}
use Rattle.resolver.specs.Worked.{Case, got, gots}
use Rattle.resolver.specs.declared.way.Resolved.{Resolved}

-- where the row's words are no table, every walk of them is refused with 2; of others nothing is asked
abbrev pub Walks : Seen → List ℕ → Type 0
Walks misfit ws = Unit {0}
Walks foreign ws = walked_by ws ≡ (λ (b : ℕ). refuses 2)
Walks (table A cs) ws = Unit {0}

-- on words that are seen as the row has them each call gets its answer
abbrev pub RowCalled : Case → Type 0
RowCalled c =
    (ws : List ℕ) → seen 4 ws ≡ c.words → Walks c.words ws → (r : Resolved)
    → HasResolved ws (hops c.entries) c.address r → r ≡ routed c.answer

abbrev pub Called : List Case → Type 0
Called [] = Unit {0}
Called (c ∷ cs) = RowCalled c × Called cs

walked_so : (s : Seen) (ws : List ℕ) → Walks s ws → (es : Entries) (a : ℕ)
    → resolve_on s (walked_by ws) es a ≡ resolve_on s (λ b. refuses 2) es a
walked_so misfit ws w es a = refl
walked_so foreign ws w es a = ap (λ (f : ℕ → Answer Match). resolved f es a) w
walked_so (table A cs) ws w es a = refl

row_called : (c : Case) → got c ≡ c → RowCalled c
row_called c e ws s w r p =
    p ∙ ap (λ (t : Seen). routed (resolve_on t (walked_by ws) (hops c.entries) c.address)) s
    ∙ ap routed (walked_so c.words ws w (hops c.entries) c.address) ∙ ap (λ (d : Case). routed d.answer) e

pub rows_called : (cs : List Case) → gots cs ≡ cs → Called cs
rows_called [] e = tt
rows_called (c ∷ cs) e = (row_called c cc, rows_called cs cc)
