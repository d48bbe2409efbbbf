-- `array::check::spread` meets its contract. Whatever slot the loop stands at, the covers of all slots before its two are written.
-- Assumes nothing.
use Rattle.std.proofs.Common.{◌∙◌, ◌+◌, ◌*◌, arith, pow_mono, set, get_or-set_other}
use Rattle.array.specs.Cover.{hops_in, covers_two}
use Rattle.array.proofs.check.spread.Goals as goal

pub loop-s-preserved : goal.loop-s-preserved
loop-s-preserved c =
    let l = c.loop-s in
    let a = c.args in
    let i = l.invariant in
    let low = c.or_above-low in
    let high = c.or_above-high in
    let m = pow_mono {i = a.d} {j = 7} (omega arith) in
    record {
      first = get_or-set_other (set l.all (2 * l.s) low.result) (2 * l.s + 1) 0 high.result 0 (λ e. omega arith)
          ∙ get_or-set_other l.all (2 * l.s) 0 low.result 0 (λ e. omega arith) ∙ i.first;
      covers = covers_two (hops_in a.won.now) l.all l.s a.d low.result high.result (omega arith) i.first
          (omega arith) (omega arith) (omega arith) low.ensures high.ensures i.covers;
    }
