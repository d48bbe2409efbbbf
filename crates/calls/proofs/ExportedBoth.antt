-- Demand 3 over the C face: three calls of toggleash_run on cleared words, the joint feed and each of its two alone; and the same
-- where the records are sent by toggleash_announce and toggleash_withdraw, one by one. Assumes nothing.
--
--     toggleash_clear ── toggleash_run, or calls, of both ────▶ words that stand for the two lists joined
--     toggleash_clear ── toggleash_run, or calls, of the first ▶ .. for its list alone
--     toggleash_clear ── .. of the second ─────────────────────▶ .. for its list alone
use Rattle.calls.proofs.Both as rattle_proved
use Rattle.calls.specs.ExportedBoth.{RanBoth, Sent, SentBoth}
use Rattle.std.specs.Prelude.{List, ℕ}
use Rattle.routes.specs.Family.{Family, width}
use Rattle.candidates.specs.Answers.{Update}
use Rattle.weaves.specs.Feeds.{Weave, Meets}
use Rattle.calls.specs.Both as rattle
use Rattle.calls.specs.Exported.{cleared}
use Rattle.calls.proofs.Exported.{series_below}
use Rattle.calls.specs.ExportedBoth.{holds, Run, told-ran, under}

pub demand_3_run_exported : {F : Family} {A : ℕ} {xs ys zs : List Update} (w : Weave xs ys zs) → Meets (width F) A xs ys
    → (j : Run F A zs) (f : Run F A xs) (s : Run F A ys) → RanBoth w j f s
demand_3_run_exported w m j f s =
    let b = rattle_proved.demand_3_run w m (under j) (under f) (under s) in
    record {
      first = b.first;
      second = b.second;
      accepted = rw (told-ran j, told-ran f, told-ran s) b.accepted;
      refused = rw (told-ran j, told-ran f, told-ran s) b.refused;
      first_list = b.called.first.list;
      second_list = b.called.second.list;
      union = b.called.independent.union;
      left = holds b.left;
    }

-- the calls below
abbrev calls : {F : Family} {A : ℕ} {us : List Update} → Sent F A us → rattle.Sent F A us
calls c =
    record {
      words = c.words;
      cleared = cleared c.cleared;
      replies = c.replies;
      words' = c.words';
      calls = series_below c.calls;
    }

pub demand_3_sent_exported : {F : Family} {A : ℕ} {xs ys zs : List Update} (w : Weave xs ys zs) → Meets (width F) A xs ys
    → (j : Sent F A zs) (f : Sent F A xs) (s : Sent F A ys) → SentBoth w j f s
demand_3_sent_exported w m j f s =
    let b = rattle.demand_3_sent w m (calls j) (calls f) (calls s) in
    record {
      first = b.first;
      second = b.second;
      first_list = b.first_list;
      second_list = b.second_list;
      union = b.union;
      left = holds b.left;
    }
