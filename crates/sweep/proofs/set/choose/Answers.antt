-- `sweep::set::choose` meets its contract: the bit of the hop from above tells whether the prefix gets a route. Assumes nothing.
use Rattle.std.proofs.Common.{arith}
use Rattle.sweep.proofs.Steps.{choose_none, choose_over, choose_kept, choose_lowest}
use Rattle.sweep.proofs.set.choose.Goals as goal
use Rattle.sweep.proofs.set.choose.Goals.{then-above-eq0-via-then-above-eq0, then-above-eq0-via-else-above-eq0+then-above-eq33}

pub returns-then-above-eq0 : goal.returns-then-above-eq0
returns-then-above-eq0 c =
    elim c.then-above-eq0.branch [
      | then-above-eq0-via-then-above-eq0 w ↦ choose_none c.args.set c.args.above w.if-above-eq0.true
      | then-above-eq0-via-else-above-eq0+then-above-eq33 w ↦
          choose_over c.args.set c.args.above (omega arith) w.if-above-eq33.true
    ]

pub returns-then-set-above-eq1 : goal.returns-then-set-above-eq1
returns-then-set-above-eq1 c = choose_kept c.args.set c.args.above c.if-above-eq0.false c.if-set-above-eq1.true

pub returns-else-set-above-eq1 : goal.returns-else-set-above-eq1
returns-else-set-above-eq1 c = choose_lowest c.args.set c.args.above c.if-above-eq0.false c.if-set-above-eq1.false
