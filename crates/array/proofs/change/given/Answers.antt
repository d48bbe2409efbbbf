-- `array::change::given` meets its contract. By cases on whether the cell gives way, as `over` is. Assumes nothing.
use mathlib.Core.Path.{sym, ap, ◌∙◌}
use Prim.Native.Nat.{ℕ}
use Rattle.array.specs.With.{best_same}
use Rattle.array.specs.Rewrite.{yields_b}
use Rattle.array.proofs.change.given.Goals as goal

pub returns-else-yields : goal.returns-else-yields
returns-else-yields c =
    let a = c.args in
    let h = sym (c.yields.ensures ∙ ap (λ (z : ℕ). yields_b z a.d) c.best_in.ensures.0) ∙ c.if-yields.false in
    rw h (sym (best_same a.word))
