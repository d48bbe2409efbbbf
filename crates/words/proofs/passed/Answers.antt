-- `words::passed` leaves out groups that are full, a stride at a time: what is left to search stays the same. Assumes nothing.
use Rattle.std.proofs.Common.{◌≡◌, ◌+◌, ◌*◌, ◌≤◌, sym, ◌∙◌, arith}
use borrow.Author.Tests.{not-false}
use Rattle.logic.specs.Reflects.{all_to_lem}
use Rattle.sizes.specs.Sizes.{per_group, group_stride}
use Rattle.words.specs.Words.{array_count}
use Rattle.words.specs.Offers.{groups_shut}
use Rattle.words.proofs.passed.Goals as goal

pub loop-k-preserved : goal.loop-k-preserved
loop-k-preserved c =
    let ws = c.args.words.now in
    let g = group_stride * c.loop-k.k in
    let e : group_stride * (c.loop-k.k + 1) ≡ g + group_stride = omega arith in
    let h : per_group * (g + group_stride) ≤ array_count ws = omega (arith, c.arrays_in-strides.ensures) in
    rw e (record {
      fits = h;
      none = groups_shut ws g group_stride
          (all_to_lem _ group_stride (sym c.full_from.ensures ∙ not-false _ c.if-not-full_from.false-raw)) h
          ∙ c.loop-k.invariant.none;
    })
