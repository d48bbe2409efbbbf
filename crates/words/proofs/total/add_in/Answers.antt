-- `words::total::add_in` meets its contract: what is said of the lent page holds of the array in the words. Assumes nothing.
use Rattle.std.proofs.Common.{◌≡◌, ◌+◌, ◌-◌, ◌*◌, arith}
use Rattle.sizes.specs.Sizes.{array_words}
use Rattle.words.specs.Added.{in_lent}
use Rattle.words.proofs.total.add_in.Goals as goal

pub returns : goal.returns
returns c =
    let a = c.args in
    let e : array_words * a.a + array_words - array_words * a.a ≡ array_words = omega arith in
    let r = c.add_up in
    rw e (in_lent a.words.now a.a a.slot a.by r.new.page (rw e at r.ensures))
