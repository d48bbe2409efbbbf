-- `words::gain` lends the page of p for the link, and stores the tag and the two counts. Assumes nothing.
use Rattle.std.proofs.Common.{◌≡◌, ◌+◌, ◌-◌, refl, arith}
use Rattle.sizes.specs.Sizes.{array_words, array_at}
use Rattle.words.specs.Rehung.{gained_any}
use Rattle.words.proofs.gain.Goals as goal

pub returns : goal.returns
returns c =
    let p = c.args.p in
    let e : array_at p + array_words - array_at p ≡ array_words = omega arith in
    rw (c.retag.ensures, c.tag_of.ensures, c.level_in-level.ensures.0, e)
    (gained_any c.args.words.now c.set_link.new.page p c.args.i c.args.a _ _ c.requires
    (rw e at c.set_link.ensures) refl refl)
