-- `masks::choice::mask` goes up through the masks and keeps the first of the fewest set bits. Assumes nothing.
use Rattle.std.proofs.Common.{sym, ◌∙◌, arith}
use Rattle.masks.specs.Mask.{free_b}
use Rattle.masks.specs.Sieve.{held_in}
use Rattle.masks.proofs.Pairs.{sieved}
use Rattle.masks.proofs.Choosing.{pick-start, pick-take, pick_not, pick_many, picked_all}
use Rattle.masks.proofs.choice.mask.Goals as goal
use Rattle.masks.proofs.choice.mask.Goals.{then-m-best+then-passes, else-m-best}
use Rattle.masks.proofs.choice.mask.Goals.{else-m-best-via-then-m-best+else-passes, else-m-best-via-else-m-best}

pub loop-m-init : goal.loop-m-init
loop-m-init c =
    let p = c.products-y in
    let f = free_b (held_in c.args.held.now) in
    record { best = pick-start f; sifted = sieved _ p.result f p.ensures }

pub loop-m-preserved : goal.loop-m-preserved
loop-m-preserved c =
    let l = c.loop-m in
    let i = l.invariant in
    let f = free_b (held_in c.args.held.now) in
    record {
      best = elim c.if-m-best.branch [
        | then-m-best+then-passes w ↦ rw w.best-is (pick-take f l.m l.best i.best w.if-m-best.true
            (sym (i.sifted l.m) ∙ sym w.passes.ensures ∙ w.if-passes.true))
        | else-m-best w ↦ rw w.best-is (elim w.else-m-best.branch [
          | else-m-best-via-then-m-best+else-passes v ↦ pick_not f l.m l.best i.best
              (sym (i.sifted l.m) ∙ sym v.passes.ensures ∙ v.if-passes.false)
          | else-m-best-via-else-m-best v ↦ pick_many f l.m l.best i.best v.if-m-best.false
        ])
      ];
      sifted = i.sifted;
    }

pub returns : goal.returns
returns c =
    let l = c.loop-m in
    picked_all (held_in c.args.held.now) l.m l.best l.invariant.best (omega arith) (omega arith)
