-- Item 9 is met: the claim holds of both families. Assumes nothing.
use Rattle.std.specs.Prelude.{length}
use Rattle.std.proofs.Math.Path.{refl}
use Rattle.std.proofs.Common.{ap, ◌∙◌}
use Rattle.candidates.specs.Answers.{answer}
use Rattle.front.specs.Front.{both}
use Rattle.answers.specs.declared.Ran.{Ran}
use Rattle.claim.proofs.Proved.{demands}
use Rattle.claim.specs.Items.{Item9}
use Rattle.claim.specs.Met.{u, stops}

pub item_9 : Item9
item_9 = record {
  both = demands;
  other = λ F A cs ws e k u feed b vs c r p.
      ap (λ (x : Ran). x.stop) (rw e at p.answer) ∙ stops F A cs k feed (length b) u;
  four = (refl, refl, refl);
  six = (refl, refl, refl, refl, refl);
}
