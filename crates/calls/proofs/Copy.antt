-- The copy over the calls of the C face: a table of IPv4 written out, and a copy built from the bytes in as many words as they
-- need, which answers every address as the table does, but for the block. Assumes nothing.
--
--     words ── write_out ──▶ bytes ── copy_need ──▶ how many words to lend
--       │                      └───── copy_build ─▶ copy, its words on the card ── copy_lookup ──▶ match
--       └──────────────────── lookup ──────────────────────────────────────────────────────────▶ the same, and the block
use Rattle.std.specs.Prelude.{◌≡◌, List, ◌≤◌, length}
use Rattle.std.proofs.Common.{sym, ap, ◌∙◌, le-ltb}
use Rattle.routes.specs.Family.{v4}
use Rattle.routes.specs.Match.{longest}
use Rattle.candidates.specs.Candidate.{Candidate}
use Rattle.candidates.specs.Winners.{winners}
use Rattle.rivals.specs.Won.{winners_list}
use Rattle.lengths.specs.Marks.{markers, words_for}
use Rattle.lengths.specs.Laid.{Laid, laid_front}
use Rattle.lengths.proofs.Laid.{laid_walk}
use Rattle.lengths_build.specs.Build.{Leaves}
use Rattle.answers.specs.Numbers.{matched}
use Rattle.answers.specs.declared.Needed.{Needed}
use Rattle.toggleash.specs.declared.copies.Built.{Built}
use Rattle.calls.specs.Held.{held}
use Rattle.calls.specs.Copy.{Carried, match_of, AsTable, without_block_lem, o, cs, rs, is_listed, one}

module _ (t : Carried) where
  is_needed : t.need ≡ record { refusal = 0; words = words_for (rs t) }
  is_needed = t.needs ∙ rw (is_listed t)

  count : t.need.words ≡ words_for (rs t)
  count = ap (λ (x : Needed). x.words) is_needed

  room : words_for (rs t) ≤ length t.lent
  room = rw (← count) t.enough

  is_built : t.built ≡ record { refusal = 0; routes = length (rs t); markers = markers (rs t) }
  is_built = t.builds.answer ∙ rw ((is_listed t), le-ltb (length t.lent) (words_for (rs t)) room)

  is_laid : Laid (rs t) t.card
  is_laid =
      let l : Leaves (rs t) t.lent t.copy = rw (is_listed t) at t.builds.left in
      laid_front (rs t) t.copy t.card (rw (← count) t.long) (λ i h. t.sent i (rw count h)) (l.laid room)

  pub as_table : AsTable t
  as_table =
      let h = held v4 (o t).arrays (cs t) t.words (o t).table in
      record {
        needs = ap (λ (x : Needed). x.refusal) is_needed;
        builds = ap (λ (x : Built). x.refusal) is_built;
        routes = λ A ds e. ap (λ (x : Built). x.routes) is_built
            ∙ ap (λ (x : List Candidate). length (winners x)) ((one t) A ds e);
        lookups = λ a k f g p q.
            q
            ∙ ap matched (laid_walk (rs t) t.card (winners_list 32 (cs t) h.list) is_laid a k)
            ∙ without_block_lem (longest 32 a (rs t)) _
            ∙ sym (ap match_of (rw (o t).table at p));
      }
