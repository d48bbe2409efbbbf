-- Rows filled with 0. Assumes nothing.
use Rattle.std.proofs.Common.{◌≡◌, refl, ◌*◌, ◌-◌, length, take, drop, rules}
use Rattle.release.proofs.Cleared.{filled}
use Rattle.release.proofs.clear_rows.Goals as goal

pub returns : goal.returns
returns c =
    let ws = c.args.words.now in
    let from = c.args.from in
    let to = c.args.to in
    let n : length (take (4 * to - 4 * from) (drop (4 * from) ws)) ≡ 4 * to - 4 * from = search rules in
    filled ws c.fill.new.self from to (4 * to - 4 * from) c.requires.0 c.requires.1 c.requires.2 refl
    (rw n at (c.fill.ensures.after (λ y p. p)))
