-- What an answer says: document 01's reply for each of its cases, and that no two answers say the same. Assumes nothing.
use Rattle.std.specs.Prelude.{◌≡◌, refl, Option, Some, None, Result, Ok, Err}
use Rattle.std.proofs.Common.{sym, ap, ◌∙◌}
use Rattle.routes.specs.Match as best
use Rattle.routes.specs.Answers.{Reply, done, found, none, refused}
use Rattle.routes.specs.Seen.{Answer, gives, refuses}
use Rattle.replies.specs.declared.Reply as code
use Rattle.replies.specs.declared.Reply.TheVariants as reply
use Rattle.replies.specs.declared.Best.{Best}
use Rattle.refusals.specs.declared.Refusal.{Refusal}
use Rattle.refusals.specs.Number.{number, number_one}

-- ---- the answer to a record

-- 16 done, with hop and cells; 17 found, with hop, length and block; 18 none, with the block; 19 refused, with its number
abbrev pub said_reply : code.Reply → Reply
said_reply (reply.Done hop cells) = done hop cells
said_reply (reply.Found hop length block) = found hop length block
said_reply (reply.Nothing block) = none block
said_reply (reply.Refused number) = refused number

-- and back: each reply is said by one answer
abbrev pub reply_of : Reply → code.Reply
reply_of (done hop cells) = reply.Done hop cells
reply_of (found hop length block) = reply.Found hop length block
reply_of (none block) = reply.Nothing block
reply_of (refused number) = reply.Refused number

pub said_back : (y : Reply) → said_reply (reply_of y) ≡ y
said_back (done hop cells) = refl
said_back (found hop length block) = refl
said_back (none block) = refl
said_back (refused number) = refl

reply_back : (r : code.Reply) → reply_of (said_reply r) ≡ r
reply_back (reply.Done hop cells) = refl
reply_back (reply.Found hop length block) = refl
reply_back (reply.Nothing block) = refl
reply_back (reply.Refused number) = refl

pub reply_one : (r s : code.Reply) → said_reply r ≡ said_reply s → r ≡ s
reply_one r s e = sym (reply_back r) ∙ ap reply_of e ∙ reply_back s

-- ---- the answer of a lookup in a copy

abbrev pub said_match : Result (Option Best) Refusal → Answer best.Match
said_match (Ok (Some b)) = gives (best.found b.hop b.length)
said_match (Ok None) = gives best.none
said_match (Err e) = refuses (number e)

pub match_one : (r s : Result (Option Best) Refusal) → said_match r ≡ said_match s → r ≡ s
match_one (Ok (Some b)) (Ok (Some c)) e =
    let p : b.hop ≡ c.hop = cc in
    let q : b.length ≡ c.length = cc in
    λ i. Ok (Some (record { hop = p i; length = q i }))
match_one (Ok (Some b)) (Ok None) e = cc
match_one (Ok (Some b)) (Err f) e = cc
match_one (Ok None) (Ok (Some b)) e = cc
match_one (Ok None) (Ok None) e = refl
match_one (Ok None) (Err f) e = cc
match_one (Err f) (Ok (Some b)) e = cc
match_one (Err f) (Ok None) e = cc
match_one (Err f) (Err g) e = let q : number f ≡ number g = cc in ap Err (number_one f g q)
