-- `paths::find` meets its contract: the walk tells where the path stops, and the read which word is there. Assumes nothing.
use native.Mathlib.Omega.{arith}
use lib.ListN.{length}
use Rattle.std.specs.Prelude.{◌≡◌, refl, Some, None}
use Rattle.std.proofs.lemmas.Result.{err_from_is_err_and}
use Rattle.numbers.specs.Front.{value_lt}
use Rattle.numbers.specs.Number.{number, number_lt}
use Rattle.paths.specs.Held.{word_found}
use Rattle.paths.proofs.find.Goals as goal

pub returns-in_err-stop : goal.returns-in_err-stop
returns-in_err-stop c =
    let p = err_from_is_err_and c.from_residual.result c.from_residual.ensures.1 in
    let z : c.walk_down.result ≡ None = grind arith in
    let known = c.type_inv.address in
    let n = c.args.address.now in
    let q = c.place_of-place in
    let small = value_lt (length n) (number n) q.result.level q.result.depth q.ensures.top q.ensures.deep in
    rw (p.1, p.2) (
      grind arith,
      record {
        level = q.result.level;
        depth = q.result.depth;
        value = q.result.value;
        word = word_found c.args.words.now 0 0 q.result.level q.result.depth q.result.value c.args.feed;
        sought = record {
          inside = number_lt n (λ i. omega (arith, known i));
          stands = q.ensures;
          small = rw q.ensures.bits small;
          walked = rw z at c.walk_down.ensures;
          word = refl;
        };
      },
    )

pub word_at-word-requires : goal.word_at-word-requires
word_at-word-requires c =
    let n = c.args.address.now in
    let p = c.place_of-place in
    let z : c.walk_down.result ≡ Some c.in_ok-stop.stop = grind arith in
    let w = rw z at c.walk_down.ensures in
    let small = value_lt (length n) (number n) p.result.level p.result.depth p.ensures.top p.ensures.deep in
    (w.1.inside, p.ensures.deep, rw p.ensures.bits small, c.requires.3)

pub returns : goal.returns
returns c =
    let known = c.type_inv.address in
    let n = c.args.address.now in
    let p = c.place_of-place in
    let z : c.walk_down.result ≡ Some c.in_ok-stop.stop = grind arith in
    let w = rw z at c.walk_down.ensures in
    let small = value_lt (length n) (number n) p.result.level p.result.depth p.ensures.top p.ensures.deep in (
      w.0,
      record {
        inside = number_lt n (λ i. omega (arith, known i));
        stands = p.ensures;
        small = rw p.ensures.bits small;
        walked = w.1;
        word = c.word_at-word.ensures;
      },
    )
