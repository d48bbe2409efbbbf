-- `update::reslot` meets its contract: what the floor of one page promises of the lent page holds of the array in the words. Assumes nothing.
use mathlib.Core.Path.{◌≡◌, refl}
use Prim.Native.Nat.{◌+◌, ◌-◌}
use native.Mathlib.Omega.{arith}
use Rattle.sizes.specs.Sizes.{array_words, array_at}
use Rattle.update.specs.Local.{seated_any}
use Rattle.update.proofs.reslot.Goals as goal

pub returns : goal.returns
returns c =
    let a = c.args.a in
    let p = c.args.p in
    let to = c.array_at-to.ensures in
    let from = c.array_at-from.ensures in
    let e : array_at (a + 1) - array_at a ≡ array_words = omega arith in
    let r = c.reslot in
    let g = rw (to, from, e) at r.ensures in
    rw (to, from, e) (seated_any c.args.words.now _ r.new.page a p.depth p.value c.args.feed
    c.args.word r.result c.requires.0 g refl)
