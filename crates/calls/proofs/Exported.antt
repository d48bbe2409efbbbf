-- Calls of the C face one after the other on lent words, each known by its promise alone: how a caller reads their numbers as
-- replies, and that they make a series of the Rattle calls below them. The names are those of IPv4, and IPv6's calls,
-- toggleash_v6_clear and so on, are meant as well. Assumes nothing.
--
--     toggleash_clear ──▶ words ── toggleash_announce ──▶ . ── toggleash_lookup ──▶ . ── toggleash_withdraw ──▶ words'
--           0                      refusal, hop, cells         refusal, found, ..
use Rattle.calls.specs.Exported.{looked}
use Rattle.calls.specs.Exported.{more, nothing}
use Rattle.calls.specs.Exported.{updated}
use Rattle.std.specs.Prelude.{◌≡◌, List, ℕ}
use Rattle.std.proofs.Common.{sym, ap, ◌∙◌}
use Rattle.routes.specs.Family.{Family, levels}
use Rattle.routes.specs.Answers.{Reply}
use Rattle.candidates.specs.Answers.{Record}
use Rattle.words.specs.Table.{seen}
use Rattle.replies.specs.Said.{said_reply}
use Rattle.feed.specs.Series as rattle
use Rattle.calls.specs.Below.{lookup_below, update_below}
use Rattle.calls.specs.Sorts.{lookup_looks, answer_made}
use Rattle.calls.specs.Exported.{said_update, said_lookup, update_read, lookup_read, Asked, Series}

pub asked-below : {F : Family} {ws vs : List ℕ} {x : Record} {y : Reply} → Asked F ws x y vs → rattle.Asked (levels F) ws x y vs
asked-below {F} {ws} {vs} (updated {u} r p) =
    let b = update_below F ws vs u r p in
    let e : said_update r ≡ said_reply b.answer =
    ap said_update p.answer ∙ update_read _ (answer_made F (seen (levels F) ws) u) ∙ sym b.promise.answer in
    rw e (rattle.updated b.answer b.promise)
asked-below {F} {ws} (looked {a} r p) =
    let b = lookup_below F ws a r p in
    let e : said_lookup r ≡ said_reply b.answer = ap said_lookup p ∙ lookup_read _ (lookup_looks F ws a) ∙ sym b.promise in
    rw e (rattle.looked b.answer b.promise)

pub series_below : {F : Family} {ws vs : List ℕ} {xs : List Record} {ys : List Reply} → Series F ws xs ys vs
    → rattle.Series (levels F) ws xs ys vs
series_below nothing = rattle.nothing
series_below (more a s) = rattle.more (asked-below a) (series_below s)
