-- What the calls of compressed tables promise leaves no choice, on any words, those refused and those that are no table too: two
-- outcomes that a contract allows are one answer, and a build leaves one and the same words. Assumes nothing.
use Rattle.std.specs.Prelude.{◌≡◌, List, ℕ}
use Rattle.std.proofs.Common.{sym, ◌∙◌}
use Rattle.words.specs.Table.{seen}
use Rattle.packed.specs.Layout.{walk}
use Rattle.packed_build.specs.Answer.{need_on}
use Rattle.packed_build.specs.Sharp.{words_one}
use Rattle.answers.specs.Numbers.{needed, matched}
use Rattle.packing.specs.Face.{HasBuilt}
use Rattle.answers.specs.declared.Needed.{Needed}
use Rattle.packing.specs.declared.Built.{Built}
use Rattle.answers.specs.declared.Matched.{Matched}

pub need_sharp : (ws : List ℕ) (r s : Needed) → r ≡ needed (need_on (seen 4 ws)) → s ≡ needed (need_on (seen 4 ws)) → r ≡ s
need_sharp ws r s p q = p ∙ sym q

pub lookup_sharp : (ws : List ℕ) (a : ℕ) (r s : Matched) → r ≡ matched (walk 4 ws a) → s ≡ matched (walk 4 ws a) → r ≡ s
lookup_sharp ws a r s p q = p ∙ sym q

-- one answer, and every word at exit the same: a function of the table's words ts and of the lent ws
pub record Agree (us vs : List ℕ) (r s : Built) : Type 0 where
  pub answer : r ≡ s
  pub words : us ≡ vs

pub build_sharp : (ts ws us vs : List ℕ) (r s : Built) → HasBuilt ts ws us r → HasBuilt ts ws vs s → Agree us vs r s
build_sharp ts ws us vs r s p q = record {
  answer = p.answer ∙ sym q.answer;
  words = words_one ts ws us vs (record { left = p.left; laid = p.laid }) (record { left = q.left; laid = q.laid });
}
