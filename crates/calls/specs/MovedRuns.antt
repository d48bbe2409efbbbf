-- Item 8 of logs that are run as feeds: each is the records of one run, on words that stand for one list, and the second's order
-- comes from the first's by the moves. Assumes nothing.
--
--     words ── run: u₁ u₂ u₃ ──▶ words', reply'        the replies, read back from reply', are the same in another order, cells
--     words ── run: u₂ u₁ u₃ ──▶ words', reply'        excepted; and the words stand for one list again
use Rattle.std.specs.Prelude.{◌≡◌, List, [], ◌++◌, ℕ, length, drop}
use Rattle.std.proofs.Common.{ap, ◌∙◌}
use Rattle.routes.specs.Family.{Family, levels, width}
use Rattle.routes.specs.Bytes.{replies_bytes}
use Rattle.candidates.specs.Candidate.{Candidate}
use Rattle.candidates.specs.Answers.{Update, Record, records, replies, leaves}
use Rattle.candidates.specs.Bytes.{Sent, meanings}
use Rattle.candidates.specs.Seen.{table}
use Rattle.encoded.specs.Replies.{answers_back}
use Rattle.words.specs.Table.{seen}
use Rattle.weaves.specs.Feeds.{read_back}
use Rattle.weaves.specs.Fed.{as_many}
use Rattle.swaps.specs.Moves.{ends, Reordered}
use Rattle.calls.specs.Swapped.{LaterAlike, is_table}
use Rattle.calls.specs.SwappedFeeds.{feed-replies, feed_list}
use Rattle.calls.specs.SwappedRuns.{RunOf, feed_run, ran_to, run-replies, run_list}
use Rattle.calls.specs.Moved.{told, ends_is}

-- a log of the updates us, run as a feed
pub record Logged (F : Family) (A : ℕ) (cs : List Candidate) (us : List Update) : Type 0 where
  pub sent : List Sent
  pub meant : meanings sent ≡ records us
  pub ran : RunOf F A cs sent

-- the same answers in another order, and words that no later calls tell apart
pub record LogsAlike {F : Family} {A : ℕ} {cs : List Candidate} {us vs : List Update}
    (p : Logged F A cs us) (q : Logged F A cs vs) : Type 0 where
  pub answers : Reordered (told us (read_back us p.ran.reply')) (told vs (read_back vs q.ran.reply'))
  pub list : seen (levels F) p.ran.words' ≡ seen (levels F) q.ran.words'
  pub later : LaterAlike F p.ran.words' q.ran.words'

module _ {F : Family} {A : ℕ} {cs : List Candidate} {us : List Update} (p : Logged F A cs us) where
  -- the replies read back are those of the list
  pub read : read_back us p.ran.reply' ≡ replies (width F) A cs (records us)
  read =
      let c = p.ran in
      let spare : List ℕ = drop (length (ran_to c).end.replies) c.reply in
      let e = feed-replies (feed_run c) ∙ ap (λ (xs : List Record). replies_bytes (replies (width F) A cs xs)) p.meant in
      ap (read_back us) (run-replies c ∙ ap (λ (bs : List ℕ). bs ++ spare) e)
      ∙ rw (as_many us) at (answers_back F A cs (records us) [] spare (is_table F A cs c.words c.is).list.candidates)

  pub left : seen (levels F) p.ran.words' ≡ table A (ends (width F) A cs us)
  left =
      run_list p.ran
      ∙ ap (table A) (feed_list (feed_run p.ran) ∙ ap (leaves (width F) A cs) p.meant ∙ ends_is (width F) A cs us)
