-- Demand 3 of three calls of the run: the joint feed and each of its two feeds alone, each on lent words of a cleared table of A
-- arrays. It follows from what the run promises of any words and any feed, and from nothing else of it. Assumes nothing.
--
--     cleared words ── both ──▶ words of the join          lookups, check and writing out go by what the words are seen to be,
--     cleared words ── first ─▶ words of its list          so they answer by the join
--     cleared words ── second ▶ words of its list
use Rattle.calls.specs.Three.{Called}
use Rattle.std.specs.Prelude.{◌≡◌, List, ◌++◌, ℕ, length, drop}
use Rattle.std.proofs.Common.{ap, ◌∙◌, le-ltb}
use Rattle.routes.specs.Family.{Family, levels, width}
use Rattle.candidates.specs.Answers.{Update}
use Rattle.candidates.specs.Seen.{table, bytes_for}
use Rattle.words.specs.Table.{seen}
use Rattle.weaves.specs.Feeds.{Weave, said, kept_both, Meets, read_back}
use Rattle.weaves.specs.Fed.{read_said, Together}
use Rattle.weaves.proofs.Fed.{answered, demand_3_fed}
use Rattle.calls.specs.Three.{Call, Left, ran_is, fed, replied}

module _ {F : Family} {A : ℕ} {us : List Update} (c : Call F A us) where
  left : Left c
  left =
      record {
        answer = rw (ran_is {F = F} {A = A} {us = us} c) at (answered (fed {F = F} {A = A} {us = us} c));
        replies =
            (rw c.cleared at c.runs.replies)
            ∙ ap (λ (x : List ℕ). x ++ drop (length x) c.reply) (answered (fed {F = F} {A = A} {us = us} c)).replies;
        list = (rw c.cleared at c.runs.list) ∙ ap (table A) (answered (fed {F = F} {A = A} {us = us} c)).list;
      }

  replied-said : (replied {F = F} {A = A} {us = us} c) ≡ said (width F) A us
  replied-said = ap (read_back us) left.replies ∙ read_said F A us _

pub demand_3_called : {F : Family} {A : ℕ} {xs ys zs : List Update} (w : Weave xs ys zs) → Meets (width F) A xs ys
    → (j : Call F A zs) (f : Call F A xs) (s : Call F A ys) → Called w j f s
demand_3_called {F} {A} {xs} {ys} {zs} w m j f s =
    record {
      joint = left j;
      first = left f;
      second = left s;
      first_read = rw (replied-said j, replied-said f) t.independent.first_heard;
      second_read = rw (replied-said j, replied-said s) t.independent.second-heard;
      independent = t.independent;
      accepted = rw (← ran_is j, ← ran_is f, ← ran_is s) t.accepted;
      refused = rw (← ran_is j, ← ran_is f, ← ran_is s) t.refused;
      list = l;
      lookups = λ walked a. rw l;
      check = rw l;
      count = λ room. rw l;
      front = λ room. rw l;
      out = λ room h. rw (l, le-ltb room (bytes_for F (length (kept_both (width F) A xs ys))) h);
    }
  where
    t : Together w (fed j) (fed f) (fed s)
    t = demand_3_fed w m (fed j) (fed f) (fed s)

    l : seen (levels F) j.words' ≡ table A (kept_both (width F) A xs ys)
    l = (left j).list ∙ ap (table A) t.independent.joined
