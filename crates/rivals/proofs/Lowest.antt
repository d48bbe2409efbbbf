-- What `best` finds is of the lowest rank of its prefix. Assumes nothing.
use Rattle.std.specs.Prelude.{◌≢◌, List, [], ◌∷◌, ℕ}
use Rattle.std.proofs.Math.Option.{Option, none, some}
use Rattle.logic.specs.Cases.{same}
use Rattle.candidates.specs.Candidate.{Candidate, prefix_key}
use Rattle.candidates.specs.Winners.{best}
use Rattle.rivals.specs.Lowest.{Lowest, lower-lowest}

skip_lowest : (k : ℕ) (c : Candidate) (cs : List Candidate) (o : Option Candidate) → prefix_key c ≢ k → Lowest k cs o
    → Lowest k (c ∷ cs) o
skip_lowest k c cs none n p = (n, p)
skip_lowest k c cs (some b) n p = (p.0, ((λ e. absurd (n e)), p.1))

pub best-lowest : (cs : List Candidate) (k : ℕ) → Lowest k cs (best cs k)
best-lowest [] k = tt
best-lowest (c ∷ cs) k =
    same (prefix_key c) k
    (λ q t. rw t (lower-lowest k c cs (best cs k) q (best-lowest cs k)))
    (λ n t. rw t (skip_lowest k c cs (best cs k) n (best-lowest cs k)))
