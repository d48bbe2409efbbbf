-- `shorten::refusal` meets its contract: each return is what the check, the root's first slot or the hops make of it. Assumes nothing.
use Rattle.shorten.proofs.Refusals.{check_table, root_inside, ask-small, refusal_default, refusal_none, refusal-over}
use Rattle.shorten.proofs.refusal.Goals as goal

pub hop_at-requires : goal.hop_at-requires
hop_at-requires c = root_inside (check_table c.args.words.now _ c.in_ok-check.ensures)

pub returns-then-hop_at-eq0 : goal.returns-then-hop_at-eq0
returns-then-hop_at-eq0 c =
    refusal_default (check_table c.args.words.now _ c.in_ok-check.ensures) c.args.scratch c.if-scratch-words.false
    c.hop_at.result c.hop_at.ensures.0 c.if-hop_at-eq0.true

pub small_hops-requires : goal.small_hops-requires
small_hops-requires c = ask-small (check_table c.args.words.now _ c.in_ok-check.ensures)

pub returns-then-not-small_hops : goal.returns-then-not-small_hops
returns-then-not-small_hops c =
    refusal-over (check_table c.args.words.now _ c.in_ok-check.ensures) c.args.scratch c.if-scratch-words.false
    c.hop_at.result c.hop_at.ensures.0 c.if-hop_at-eq0.false c.small_hops.result c.small_hops.ensures c.if-not-small_hops.true

pub returns : goal.returns
returns c =
    refusal_none (check_table c.args.words.now _ c.in_ok-check.ensures) c.args.scratch c.if-scratch-words.false
    c.hop_at.result c.hop_at.ensures.0 c.if-hop_at-eq0.false c.small_hops.result c.small_hops.ensures c.if-not-small_hops.false
