-- Sessions, of any runs and single calls in a row: each update gets the list's answer, and the words end as its list. Assumes
-- nothing.
use Rattle.std.specs.Prelude.{◌≡◌, refl, List, [], ◌∷◌, ◌++◌, ℕ, length, drop}
use Rattle.std.proofs.Common.{sym, ap, ap₂, ◌∙◌}
use Rattle.routes.specs.Family.{Family, levels, width}
use Rattle.routes.specs.Answers.{Reply}
use Rattle.routes.specs.Bytes.{replies_bytes}
use Rattle.candidates.specs.Candidate.{Candidate}
use Rattle.candidates.specs.Answers.{Update, update, Record, records, after, replies, leaves}
use Rattle.candidates.specs.Seen.{table}
use Rattle.encoded.specs.Replies.{answers_back}
use Rattle.words.specs.Table.{seen}
use Rattle.feed.specs.Series.{answered}
use Rattle.weaves.specs.Feeds.{read_back}
use Rattle.weaves.specs.Fed.{as_many}
use Rattle.weaves.proofs.Joined.{demand_3_family}
use Rattle.answers.specs.declared.Ran.{Ran}
use Rattle.calls.specs.Held.{held}
use Rattle.calls.specs.Both as below
use Rattle.calls.specs.Exported.{cleared}
use Rattle.calls.proofs.Exported.{asked-below}
use Rattle.calls.specs.ExportedBoth.{holds}
use Rattle.calls.specs.SwappedFeeds.{replies-append, leaves-append, FeedRun, feed-replies, feed_list}
use Rattle.claim.specs.Calls.{Fed, Session, nothing, call, feed, Begun}
use Rattle.claim.specs.Demands.{Demand3}

records-append : (us vs : List Update) → records (us ++ vs) ≡ records us ++ records vs
records-append [] vs = refl
records-append (u ∷ us) vs = ap (◌∷◌ (update u)) (records-append us vs)

-- the replies to updates on words that stand for cs, and the list that the words then stand for
record AsList (F : Family) (A : ℕ) (cs : List Candidate) (us : List Update) (ys : List Reply) (vs : List ℕ) : Type 0 where
  answers : ys ≡ replies (width F) A cs (records us)
  list : seen (levels F) vs ≡ table A (leaves (width F) A cs (records us))

-- ---- one run

module _ (F : Family) (A : ℕ) (cs : List Candidate) {ws vs : List ℕ} {us : List Update} {ys : List Reply}
    (t : seen (levels F) ws ≡ table A cs) (f : Fed F ws us ys vs) where
  abbrev fed : FeedRun F A cs f.sent
  fed = record {
    fits = f.fits;
    rest = f.rest;
    closes = f.closes;
    room = length f.reply;
    enough = λ e. f.enough (ap (λ (x : Ran). x.stop) (rw t at f.runs.answer) ∙ e);
  }

  -- the bytes of its replies
  abbrev bs : List ℕ
  bs = replies_bytes (replies (width F) A cs (records us))

  written : f.reply' ≡ bs ++ drop (length bs) f.reply
  written =
      (rw t at f.runs.replies)
      ∙ ap (λ (x : List ℕ). x ++ drop (length x) f.reply)
      (feed-replies fed ∙ ap (λ (x : List Record). replies_bytes (replies (width F) A cs x)) f.meant)

  fed_as : AsList F A cs us ys vs
  fed_as = record {
    answers =
        f.heard ∙ ap (read_back us) written
        ∙ (rw (as_many us) at (answers_back F A cs (records us) [] (drop (length bs) f.reply)
        (held F A cs ws t).list.candidates));
    list =
        (rw t at f.runs.list)
        ∙ ap (table A) (feed_list fed ∙ ap (leaves (width F) A cs) f.meant);
  }

-- ---- many

session_as : (F : Family) (A : ℕ) (cs : List Candidate) {ws vs : List ℕ} {us : List Update} {ys : List Reply}
    → seen (levels F) ws ≡ table A cs → Session F ws us ys vs → AsList F A cs us ys vs
session_as F A cs t nothing = record { answers = refl; list = t }
session_as F A cs t (call {u = u} a s) =
    let b = answered (levels F) A cs t (asked-below a) in
    let n = session_as F A (after (width F) A cs u) b.list s in
    record { answers = ap₂ ◌∷◌ b.answer n.answers; list = n.list }
session_as F A cs t (feed {us = us} {us' = us'} f s) =
    let W = width F in
    let b = fed_as F A cs t f in
    let n = session_as F A (leaves W A cs (records us)) b.list s in
    let r = records-append us us' in
    record {
      answers =
          ap₂ ◌++◌ b.answers n.answers
          ∙ sym (ap (replies W A cs) r ∙ replies-append W A cs (records us) (records us'));
      list =
          n.list
          ∙ ap (table A) (sym (ap (leaves W A cs) r ∙ leaves-append W A cs (records us) (records us')));
    }

begun_as : {F : Family} {A : ℕ} {us : List Update} (b : Begun F A us) → AsList F A [] us b.replies b.words'
begun_as {F} {A} b = session_as F A [] (cleared b.cleared) b.session

-- ---- demand 3

pub demand_3 : (F : Family) → Demand3 F
demand_3 F A xs ys zs w m j f s =
    let i = demand_3_family F A xs ys zs w m in
    let p = begun_as j in
    let q = begun_as f in
    let r = begun_as s in
    record {
      first = rw (p.answers, q.answers) i.first_heard;
      second = rw (p.answers, r.answers) i.second-heard;
      first_list = q.list;
      second_list = r.list;
      union = i.union;
      left = holds (below.holds F A _ j.words' (p.list ∙ ap (table A) i.joined));
    }
