-- A copy that is built from the bytes of the shortest list, over the C calls, answers every address with the hop that the table
-- gives it. Assumes nothing.
--
--     words, a table ── toggleash_shortest ──▶ bytes ── toggleash_copy_need ──▶ how many words to lend
--                                                └───── toggleash_copy_build ─▶ copy, its words on the card
use Rattle.std.specs.Prelude.{List, ℕ}
use Rattle.std.proofs.Common.{ap, ◌∙◌}
use Rattle.routes.specs.Match.{longest}
use Rattle.candidates.specs.Candidate.{Candidate}
use Rattle.lengths.proofs.Laid.{laid_walk}
use Rattle.answers.specs.Numbers.{matched}
use Rattle.answers.specs.declared.Needed.{Needed}
use Rattle.toggleash.specs.declared.copies.Built.{Built}
use Rattle.answers.specs.declared.Matched.{Matched}
use Rattle.replayed.specs.Shortened.{Shortened, is_shortest}
use Rattle.replayed.specs.Card.{Carried, AsForwarded, matched_hop, rs, is_needed, is_built, is_laid}

module _ {A : ℕ} {cs : List Candidate} {s : Shortened A cs} (k : Carried s) where
  pub as_forwarded : AsForwarded k
  as_forwarded = record {
    needs = ap (λ (x : Needed). x.refusal) (is_needed {A = A} {cs = cs} {s = s} k);
    builds = ap (λ (x : Built). x.refusal) (is_built {A = A} {cs = cs} {s = s} k);
    routes = ap (λ (x : Built). x.routes) (is_built {A = A} {cs = cs} {s = s} k);
    hops = λ a b g q.
        ap (λ (x : Matched). x.hop) (q
        ∙ ap matched (laid_walk (rs {A = A} {cs = cs} {s = s} k) k.card (is_shortest s).list
        (is_laid {A = A} {cs = cs} {s = s} k) a b))
        ∙ matched_hop (longest 32 a (rs {A = A} {cs = cs} {s = s} k)) ∙ (is_shortest s).alike a b;
  }
