-- What a build leaves is a function of the table's words and of those lent: two outcomes that its contract allows are the same
-- words, built or refused. Assumes nothing.
--
--     words 0 .. 1023      1024 .. the need - 1            from the need on
--     as lent              the arrays, by their masks      as lent
use Rattle.std.specs.Prelude.{◌≡◌, refl, List, ℕ, length}
use Rattle.std.proofs.Common.{sym, ◌∙◌, arith, ext_get_or}
use Rattle.logic.specs.Cases.{less}
use Rattle.routes.specs.Route.{Route}
use Rattle.routes.specs.Room.{need}
use Rattle.candidates.specs.Winners.{winners}
use Rattle.candidates.specs.Seen.{Seen, misfit, foreign, table}
use Rattle.words.specs.Words.{arrays_of, array_count}
use Rattle.words.specs.Table.{seen}
use Rattle.words.specs.View.{table_of}
use Rattle.packed.specs.Layout.{header_words}
use Rattle.packed.specs.Laid.{needed_for, Laid, laid_one}
use Rattle.packed_build.specs.Need.{words_for}
use Rattle.packed_build.specs.Listed.{table_words}
use Rattle.packed_build.specs.Answer.{Counts, Leaves, HasLaid}

module _ (ts ws us vs : List ℕ) where
  -- built: the header, the arrays, and the words past them
  built_one : (rs : List Route) → needed_for (arrays_of ts) (array_count ts) ≡ words_for 32 rs → Leaves rs ws us → Leaves rs ws vs
      → Laid (arrays_of ts) (array_count ts) us → Laid (arrays_of ts) (array_count ts) vs → us ≡ vs
  built_one rs n p q l m =
      ext_get_or 0 us vs (p.long ∙ sym q.long) (λ i _.
      less i header_words
      (λ h _. p.header i h ∙ sym (q.header i h))
      (λ h _. less i (words_for 32 rs)
      (λ k _. laid_one (arrays_of ts) (array_count ts) us vs l m i h (rw n k))
      (λ k _. p.past i k ∙ sym (q.past i k))))

  pub words_one : HasLaid ts ws us → HasLaid ts ws vs → us ≡ vs
  words_one p q = go (seen 4 ts) refl
    where
      go : (s : Seen) → seen 4 ts ≡ s → us ≡ vs
      go misfit e =
          let x : us ≡ ws = rw e at p.left in
          let y : vs ≡ ws = rw e at q.left in x ∙ sym y
      go foreign e =
          let x : us ≡ ws = rw e at p.left in
          let y : vs ≡ ws = rw e at q.left in x ∙ sym y
      go (table A cs) e =
          let rs = winners cs in
          let x : Leaves rs ws us = rw e at p.left in
          let y : Leaves rs ws vs = rw e at q.left in
          let w = table_of 4 ts (omega arith) (omega arith) A cs e in
          let n : needed_for (arrays_of ts) (array_count ts) ≡ words_for 32 rs = table_words 4 ts w.table ∙ rw w.list in
          less (length ws) (words_for 32 rs)
          (λ h _. x.refused h ∙ sym (y.refused h))
          (λ h d.
          let c : Counts = record { arrays = need 32 rs; words = words_for 32 rs } in
          built_one rs n x y (p.laid c (rw (e, d))) (q.laid c (rw (e, d))))
