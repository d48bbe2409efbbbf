-- The answer to a record is its call's, by what it asks for. Assumes nothing.
use Rattle.feed.proofs.Answers.{is_address, is_table, any_update, any_lookup}
use Rattle.feed.proofs.Record.answer.Goals as goal

pub announce_with-requires : goal.announce_with-requires
announce_with-requires c =
    let i = is_address c.args.self.address.now c.args.self.some c.args.self.few in
    (i, λ k. is_table i (c.requires.1 k))

pub withdraw_with-requires : goal.withdraw_with-requires
withdraw_with-requires c =
    let i = is_address c.args.self.address.now c.args.self.some c.args.self.few in
    (i, λ k. is_table i (c.requires.1 k))

pub lookup_on-requires : goal.lookup_on-requires
lookup_on-requires c = (c.requires.0, c.args.self.some, c.args.self.few)

pub returns-in-Announce : goal.returns-in-Announce
returns-in-Announce c =
    let s = c.args.self in
    rw c.in-Announce.is (any_update (is_address s.address.now s.some s.few) c.announce_with.ensures)

pub returns-in-Withdraw : goal.returns-in-Withdraw
returns-in-Withdraw c =
    let s = c.args.self in
    rw c.in-Withdraw.is (any_update (is_address s.address.now s.some s.few) c.withdraw_with.ensures)

pub returns-in-Look : goal.returns-in-Look
returns-in-Look c = rw c.in-Look.is (any_lookup _ c.lookup_on.ensures)
