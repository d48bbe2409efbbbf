-- `words::release` lends the page of the parent for the link, and stores the tag and the two counts. Assumes nothing.
use Rattle.std.proofs.Common.{◌≡◌, ◌+◌, ◌-◌, get_or, refl, arith}
use Rattle.sizes.specs.Sizes.{array_words, array_at}
use Rattle.array.specs.Tag.{parent_in, cell_in}
use Rattle.words.specs.Gained.{group_at}
use Rattle.words.specs.Rehung.{released_any}
use Rattle.words.proofs.release.Goals as goal

pub returns : goal.returns
returns c =
    let known = c.slice_known-1.given in
    let ws = c.args.words.now in
    let x = get_or ws (array_at c.args.a) 0 in
    let e : array_at (parent_in x) + array_words - array_at (parent_in x) ≡ array_words = omega arith in
    rw (c.retag.ensures, c.parent_in-p.ensures, c.tag-tag.ensures, e)
    (released_any ws c.cut_link.new.page c.args.a (parent_in x) (cell_in x) _ _ refl refl
    (omega (arith, known 0)) (omega (arith, known (group_at c.args.a))) c.requires
    (rw (c.cell_in-i.ensures.0, c.parent_in-p.ensures, c.tag-tag.ensures, e) at c.cut_link.ensures)
    refl refl)
