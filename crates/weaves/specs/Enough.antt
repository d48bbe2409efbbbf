-- Reply room for every record: a run stops where its feed ends. Assumes nothing.
use Rattle.std.specs.Prelude.{◌≡◌, List, [], ◌∷◌, ◌++◌, ℕ, ◌*◌, ◌≤◌, length}
use Rattle.std.proofs.Common.{append-nil}
use Rattle.routes.specs.Family.{Family}
use Rattle.candidates.specs.Candidate.{Candidate}
use Rattle.candidates.specs.Bytes.{Sent, all_bytes, AllFit}
use Rattle.candidates.specs.Runs.{State, finish, Ran, fresh, run}
use Rattle.encoded.specs.Encoded.{ended}
use Rattle.encoded.proofs.Encoded.{run-records, run-ended}
use Rattle.weaves.specs.Feeds.{Closes}

-- ---- a feed of records, and what may follow them

-- where it leaves a run that took all the records
abbrev pub closed : List ℕ → State → Ran
closed [] s = record { stop = 1; end = s }
closed (k ∷ t) s = record { stop = 0; end = finish s }

module _ (F : Family) (A : ℕ) (cs : List Candidate) (xs : List Sent) (f : AllFit F xs) where
  pub run-roomy : (t : List ℕ) → Closes t → (room : ℕ) → 5 * length xs ≤ room
      → run F A cs (all_bytes F xs ++ t) room ≡ closed t (ended F A (fresh cs) xs)
  run-roomy [] c room h = rw (append-nil (all_bytes F xs)) (run-records F A cs xs room f h)
  run-roomy (k ∷ t) c room h = rw c (run-ended F A cs xs t room f h)
