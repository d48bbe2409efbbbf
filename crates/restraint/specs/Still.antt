-- A tick that leaves the table's list as it was installed nothing else than what it held: each candidate is installed at most
-- once, so no later installation takes an earlier one back. Assumes nothing.
use Rattle.std.specs.Prelude.{◌≡◌, List, ◌∷◌, ℕ, suc}
use Rattle.std.proofs.Common.{sym, ap, ◌∙◌, arith}
use Rattle.logic.specs.Cases.{same}
use Rattle.candidates.specs.Keyed.{Ordered, find}
use Rattle.candidates.specs.Candidate.{Candidate, key as candidate_key}
use Rattle.rivals.specs.Maps.{ext}
use Rattle.front.specs.Place.{Place, key}
use Rattle.front.specs.Front.{halve}
use Rattle.restraint.specs.Passes.{list_past, one_list}
use Rattle.restraint.specs.Absent.{InOrder, tried_ordered, tried_other, one_other}

module _ (W A lo : ℕ) (cs : List Candidate) (p : Place) (ps : List Place) (o : Ordered key lo (p ∷ ps)) (i : InOrder cs)
    (e : one_list W A cs (p ∷ ps) ≡ cs) where
  pub past_still : list_past W A cs p ≡ cs
  past_still =
      ext candidate_key 0 (list_past W A cs p) cs (tried_ordered W A cs (halve p) i) i (λ k.
      same (key p) k
      (λ q _. sym (one_other W A (suc (key p)) (list_past W A cs p) ps o.1 k (omega arith))
      ∙ ap (λ (x : List Candidate). find candidate_key x k) e)
      (λ n _. tried_other W A cs (halve p) k n))
