-- The test of the whole table that an update makes first: where it passes before an update, it passes after it, so a later one
-- need not be made. Assumes nothing.
use Rattle.std.specs.Prelude.{◌≡◌, refl, List, ℕ, ◌≤◌, ◌<◌}
use Rattle.std.proofs.Common.{sym}
use Rattle.sizes.specs.Sizes.{level_bound}
use Rattle.candidates.specs.Candidate.{Candidate}
use Rattle.candidates.specs.Answers.{Update}
use Rattle.candidates.specs.Seen.{table}
use Rattle.words.specs.Table.{seen}
use Rattle.words.specs.CheckReflects.{table_reflects}
use Rattle.words.specs.View.{seen_table, table_of, table_fits, fits_no_misfit}
use Rattle.replies.specs.declared.Reply.{Reply}
use Rattle.update.specs.Update.{refusal_of, HasUpdated}
use Rattle.update.specs.Refuse.{refusal_none, passed}

-- the test for a table of L levels finds no number
abbrev pub Passes : ℕ → List ℕ → Type 0
Passes L ws = refusal_of L ws 0 ≡ 0

module _ (L : ℕ) (some : 1 ≤ L) (levels : L < level_bound) where
  pub seen-passes : (ws : List ℕ) (A : ℕ) (cs : List Candidate) → seen L ws ≡ table A cs → Passes L ws
  seen-passes ws A cs e =
      let t = (table_of L ws some levels A cs e).table in
      let f = table_fits L ws t in
      sym (refusal_none L ws 0 (fits_no_misfit _ f) refl ((table_reflects L ws some levels f).from t))

  pub update_passes : (ws vs : List ℕ) (u : Update) (r : Reply) → HasUpdated L ws vs u r → Passes L ws → Passes L vs
  update_passes ws vs u r p e =
      let t = seen_table L ws (passed L ws some levels 0 e).0 in
      seen-passes vs _ _ (rw t at p.list)
