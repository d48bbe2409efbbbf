-- `shorten::count` meets its contract: the first refusals leave the scratch, and the cost of length 0 counts the bytes.
-- Assumes nothing.
use native.Mathlib.Omega.{arith}
use Rattle.shorten.proofs.Outcomes.{fine, ask_keep, cost-small, count_short, count_given}
use Rattle.shorten.proofs.count.Goals as goal

pub keep_sets-whole-requires : goal.keep_sets-whole-requires
keep_sets-whole-requires c = ask_keep (fine c.args.words.now c.args.scratch.now c.in_ok-refusal.ensures)

pub overflow_mul-bytes : goal.overflow_mul-bytes
overflow_mul-bytes c =
    omega (arith, cost-small (fine c.args.words.now c.args.scratch.now c.in_ok-refusal.ensures) c.keep_sets-whole.ensures)

pub overflow_add-bytes : goal.overflow_add-bytes
overflow_add-bytes c =
    omega (arith, cost-small (fine c.args.words.now c.args.scratch.now c.in_ok-refusal.ensures) c.keep_sets-whole.ensures)

pub returns-then-room-bytes : goal.returns-then-room-bytes
returns-then-room-bytes c =
    count_short (fine c.args.words.now c.args.scratch.now c.in_ok-refusal.ensures) c.keep_sets-whole.ensures
    c.args.room c.if-room-bytes.true

pub returns : goal.returns
returns c =
    count_given (fine c.args.words.now c.args.scratch.now c.in_ok-refusal.ensures) c.keep_sets-whole.ensures
    c.args.room c.if-room-bytes.false
