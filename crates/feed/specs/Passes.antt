-- Within a run the later test always passes: the words that each record finds pass the test of the whole table, so testing at
-- the start is enough. Assumes nothing.
--
--     ws ── x₁ ──▶ . ── x₂ ──▶ . ── x₃ ──▶ vs        the test at ws is the run's; it would pass at each dot, and at vs
use Rattle.std.specs.Prelude.{◌≡◌, refl, List, ℕ, ◌≤◌, ◌<◌, Ok}
use Rattle.std.proofs.Common.{arith}
use Rattle.sizes.specs.Sizes.{level_bound}
use Rattle.routes.specs.Family.{Family, levels}
use Rattle.routes.specs.Answers.{Reply}
use Rattle.laws.specs.Families.{levels_some, levels_few}
use Rattle.candidates.specs.Answers.{Record}
use Rattle.candidates.specs.Seen.{Seen, misfit, foreign, table}
use Rattle.words.specs.Table.{seen}
use Rattle.update.specs.Passes.{Passes, seen-passes, update_passes}
use Rattle.feed.specs.Series.{Asked, updated, looked, Series, nothing, more}
use Rattle.feed.specs.Runs.{HasRun}
use Rattle.feed.specs.declared.Report.{Report}

-- the words that each call of a series finds, and those that the last one leaves, pass
abbrev pub AllPass : {L : ℕ} {ws vs : List ℕ} {xs : List Record} {ys : List Reply} → Series L ws xs ys vs → Type 0
AllPass {L} {ws} nothing = Passes L ws
AllPass {L} {ws} (more a s) = Passes L ws × AllPass s

module _ (L : ℕ) (some : 1 ≤ L) (levels : L < level_bound) where
  asked-passes : {ws vs : List ℕ} {x : Record} {y : Reply} → Asked L ws x y vs → Passes L ws → Passes L vs
  asked-passes {ws} {vs} (updated {u} r p) e = update_passes L some levels ws vs u r p e
  asked-passes (looked r p) e = e

  pub series_passes : {ws vs : List ℕ} {xs : List Record} {ys : List Reply} (s : Series L ws xs ys vs) → Passes L ws → AllPass s
  series_passes nothing e = e
  series_passes (more a s) e = (e, series_passes s (asked-passes a e))

-- a run that is not refused began with a table
pub run-passes : (F : Family) (ws feed b vs c : List ℕ) (r : Report) (p : HasRun F ws feed b vs c (Ok r))
    → AllPass p.series
run-passes F ws feed b vs c r p = series_passes L some few p.series (go (seen L ws) refl)
  where
    L : ℕ
    L = levels F

    some : 1 ≤ L
    some = levels_some F

    few : L < level_bound
    few = omega (arith, levels_few F)

    go : (s : Seen) → seen L ws ≡ s → Passes L ws
    go misfit e = absurd (let q = rw e at p.answer in let z : ◌≡◌ {A = ℕ} 0 1 = cc in omega arith)
    go foreign e = absurd (let q = rw e at p.answer in let z : ◌≡◌ {A = ℕ} 0 1 = cc in omega arith)
    go (table A cs) e = seen-passes L some few ws A cs e
