-- No toggleash_run writes the reply "refused 2": the bytes written, as many as its numbers say, are not those of replies with
-- such a one among them. Assumes nothing.
use Rattle.std.specs.Prelude.{◌≡◌, refl, ◌≢◌, List, ◌∷◌, ◌++◌, ℕ, take, Ok, Err}
use Rattle.std.proofs.Common.{ap, ◌∙◌}
use Rattle.routes.specs.Family.{Family}
use Rattle.routes.specs.Answers.{Reply, refused}
use Rattle.routes.specs.Bytes.{replies_bytes}
use Rattle.feed.specs.Runs.{Ran, run_answer}
use Rattle.feed.specs.Sharp.{written_by}
use Rattle.feed.specs.Never.{never}
use Rattle.answers.specs.Numbers.{ran}
use Rattle.toggleash.specs.Face.{HasRun}
use Rattle.answers.specs.declared.Ran.{Ran as Fields}
use Rattle.calls.specs.Below.{run-below}

-- the numbers count what the run below wrote
counts : (t : Ran) → (ran (run_answer t)).written ≡ written_by t
counts (Ok p) = refl
counts (Err f) = refl

pub never_exported : (F : Family) (ws feed b vs c : List ℕ) (r : Fields) → HasRun F ws feed b vs c r
    → (xs ys : List Reply) → take r.written c ≢ replies_bytes (xs ++ (refused 2 ∷ ys))
never_exported F ws feed b vs c r p xs ys =
    let t = run-below F ws feed b vs c r p in
    let e : r.written ≡ written_by t.answer = ap (λ (x : Fields). x.written) t.told ∙ counts t.answer in
    rw e (never F ws feed b vs c t.answer t.promise xs ys)
