-- `audit::table::content` reads the slots of one array, then checks its page, its totals and its links by what it read. Assumes nothing.
use mathlib.Core.Path.{◌≡◌, sym, ◌∙◌}
use Rattle.std.specs.Prelude.{Some, None}
use native.Mathlib.Omega.{arith}
use borrow.Author.Tests.{not-true, not-false}
use borrow.Author.Rules.{rules}
use Rattle.audit.specs.Won.{won_of_lem}
use Rattle.audit.proofs.Laws.{read_start, read_wrong, read_right, read_page, content_words, content_page, content_inner}
use Rattle.audit.proofs.Laws.{content_tied, content_all}
use Rattle.audit.proofs.table.content.Goals as goal

pub read-requires : goal.read-requires
read-requires c = (search rules, read_start _)

pub returns-in_err-m : goal.returns-in_err-m
returns-in_err-m c =
    let a = c.args in
    let z : c.read.result ≡ None = grind arith in
    rw c.from_residual.ensures
    (content_words a.lent.now.arrays a.lent.now.levels a.lent.now.words.now a.a
    (read_wrong a.lent.now.words.now _ _ a.a c.page.ensures _ c.read.ensures z))

pub invariant_of-array : goal.invariant_of-array
invariant_of-array c =
    let a = c.args in
    record {
      within = c.requires;
      hops = won_of_lem a.lent.now.words.now a.a _ (read_page a.lent.now.words.now _ _ a.a c.page.ensures _ c.read.ensures);
    }

pub returns-then-not-page_ok : goal.returns-then-not-page_ok
returns-then-not-page_ok c =
    let a = c.args in
    let z : c.read.result ≡ Some c.in_ok-m.m = grind arith in
    content_page a.lent.now.arrays a.lent.now.levels a.lent.now.words.now a.a
    (read_right a.lent.now.words.now _ _ a.a c.page.ensures _ c.read.ensures _ z).0
    (sym c.page_ok.ensures ∙ not-true _ c.if-not-page_ok.true-raw)

pub returns-then-not-inners_ok : goal.returns-then-not-inners_ok
returns-then-not-inners_ok c =
    let a = c.args in
    let z : c.read.result ≡ Some c.in_ok-m.m = grind arith in
    content_inner a.lent.now.arrays a.lent.now.levels a.lent.now.words.now a.a
    (read_right a.lent.now.words.now _ _ a.a c.page.ensures _ c.read.ensures _ z).0
    (sym c.page_ok.ensures ∙ not-false _ c.if-not-page_ok.false-raw)
    (sym c.inners_ok.ensures ∙ not-true _ c.if-not-inners_ok.true-raw)

pub returns-else-rows_ok : goal.returns-else-rows_ok
returns-else-rows_ok c =
    let a = c.args in
    let z : c.read.result ≡ Some c.in_ok-m.m = grind arith in
    content_tied a.lent.now.arrays a.lent.now.levels a.lent.now.words.now a.a
    (read_right a.lent.now.words.now _ _ a.a c.page.ensures _ c.read.ensures _ z).0
    (sym c.page_ok.ensures ∙ not-false _ c.if-not-page_ok.false-raw)
    (sym c.inners_ok.ensures ∙ not-false _ c.if-not-inners_ok.false-raw)
    (sym c.rows_ok.ensures ∙ c.if-rows_ok.false)

pub returns-then-rows_ok : goal.returns-then-rows_ok
returns-then-rows_ok c =
    let a = c.args in
    let z : c.read.result ≡ Some c.in_ok-m.m = grind arith in
    let k = read_right a.lent.now.words.now _ _ a.a c.page.ensures _ c.read.ensures _ z in
    content_all a.lent.now.arrays a.lent.now.levels a.lent.now.words.now a.a _ k.0 k.1
    (sym c.page_ok.ensures ∙ not-false _ c.if-not-page_ok.false-raw)
    (sym c.inners_ok.ensures ∙ not-false _ c.if-not-inners_ok.false-raw)
    (sym c.rows_ok.ensures ∙ c.if-rows_ok.true)
