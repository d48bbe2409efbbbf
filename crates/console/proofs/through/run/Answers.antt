-- The run starts from words that passed the tests, and goes on where none stops it. Assumes nothing.
use Rattle.std.proofs.Common.{refl, sym, true}
use borrow.Author.Rules.{rules}
use Rattle.damping_run.specs.Steps.{passed_ready, comes_first, comes_takes, comes_on}
use Rattle.console.proofs.through.run.Goals as goal

pub loop-stop-init : goal.loop-stop-init
loop-stop-init g c =
    let a = c.args in
    let y = passed_ready a.front.now a.words.now (λ i. search rules) (sym c.in_default.ensures) in
    comes_first _ _ _ _ _ true _ y c.start-p.ensures refl

pub answer_next-next-requires : goal.answer_next-next-requires
answer_next-next-requires g c = comes_takes _ _ _ _ _ _ _ _ c.loop-stop.invariant (sym c.in_default-halt.ensures)

pub loop-stop-preserved : goal.loop-stop-preserved
loop-stop-preserved g c =
    let n = c.answer_next-next in
    comes_on _ _ _ _ _ _ _ _ c.loop-stop.invariant _ _ _ _ _ n.ensures n.auto.reply n.auto.words refl
