-- A way that is begun on lent words stands for what resolving there comes to: of a table, over the list. Assumes nothing.
use Rattle.std.specs.Prelude.{◌≡◌, false, List, ℕ, length}
use Rattle.std.proofs.Common.{sym, ap, ◌∙◌, arith}
use Rattle.std.proofs.Math.Option.{none}
use Rattle.logic.specs.Cases.{less}
use Rattle.routes.specs.Match.{Match}
use Rattle.routes.specs.Seen.{Answer, misfits}
use Rattle.candidates.specs.Seen.{Seen}
use Rattle.words.specs.Words.{array_count}
use Rattle.words.specs.Table.{list_of, seen}
use Rattle.words.specs.View.{seen-cases}
use Rattle.resolver.specs.Entry.{lead_by}
use Rattle.resolver.specs.Resolve.{walked_by, resolved, resolve_on, routed}
use Rattle.resolver.specs.Steps.{looks, begun}
use Rattle.resolver.specs.Turns.{stands}
use Rattle.resolver.proofs.Turns.{asked-stands}
use Rattle.resolver.specs.declared.entry.Hop.{Hop}
use Rattle.resolver.specs.declared.way.Resolved.{Resolved}
use Rattle.resolver.specs.Begun.{looks_as, listed, entries}

module _ (at : ℕ → Hop) (count : ℕ) where
  begun-fits : (n : ℕ) (look : ℕ → Answer Match) (a : ℕ) → misfits n ≡ false
      → stands look (lead_by at) (begun n look count a) ≡ routed (resolved look (entries at count) a)
  begun-fits n look a e = less 256 count (λ l d. rw (e, d)) (λ l d. rw (e, d) (asked-stands look at 3 none a))

  pub begun_on : (ws : List ℕ) (a : ℕ)
      → stands (looks ws) (lead_by at) (begun (length ws) (looks ws) count a)
      ≡ routed (resolve_on (seen 4 ws) (walked_by ws) (entries at count) a)
  begun_on ws a =
      seen-cases 4 ws (omega arith) (omega arith)
      (λ e q. rw e (seen_as q))
      (λ e b q. begun-fits (length ws) (looks ws) a e ∙ ap answer (ap (looks_as ws) q) ∙ seen_as q)
      (λ e b t q. begun-fits (length ws) (looks ws) a e
      ∙ ap answer (ap (looks_as ws) q ∙ listed ws (array_count ws) (list_of 4 ws)) ∙ seen_as q)
    where
      answer : (ℕ → Answer Match) → Resolved
      answer look = routed (resolved look (entries at count) a)

      seen_as : {s : Seen} → seen 4 ws ≡ s
          → routed (resolve_on s (walked_by ws) (entries at count) a) ≡ routed
          (resolve_on (seen 4 ws) (walked_by ws) (entries at count) a)
      seen_as q = sym (ap (λ (t : Seen). routed (resolve_on t (walked_by ws) (entries at count) a)) q)
