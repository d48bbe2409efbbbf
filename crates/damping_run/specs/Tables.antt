-- A run by local calls on a front and a table is the run: at each turn what is left of the run, from how far it has come, is the
-- whole run. Assumes nothing.
use Rattle.std.specs.Prelude.{◌≡◌, refl, Bool, true, false, cond, List, ◌++◌, ℕ, suc, ◌-◌, length, drop, eqb}
use Rattle.std.proofs.Common.{sym, ap, subst, ◌∙◌, add-zero, arith}
use Rattle.routes.specs.Answers.{Reply}
use Rattle.routes.specs.Seen.{gives}
use Rattle.candidates.specs.Seen.{table}
use Rattle.words.specs.Words.{array_count}
use Rattle.words.specs.Table.{list_of, seen}
use Rattle.words.specs.View.{seen_table}
use Rattle.feed.specs.declared.Report.{Report}
use Rattle.feed.specs.Runs.{Ran, run_answer}
use Rattle.front.specs.Front.{Both, taken, replies}
use Rattle.front.specs.Runs.{State, Ran as Outcome, ahead, event_at, halts, finish, turn, runs, fresh, run, events_from}
use Rattle.front.specs.Seen.{front}
use Rattle.restraint.specs.Turns.{size_pos, halts_clear, runs_on, runs_stop, runs_enough}
use Rattle.restraint.specs.Taken.{events_stop, events_on_lem}
use Rattle.rows.specs.Row.{IsWords}
use Rattle.damping.specs.View.{seen_front, seen_front_lem}
use Rattle.damping_run.specs.Series.{Asked, Series, nothing, more}
use Rattle.damping_run.specs.Runs.{report_of, HasRun}
use Rattle.damping_run.specs.Locally.{Note, noted, halts_at, Gone, nowhere, further, report_at, RanLocally}
use Rattle.damping_run.specs.Answered.{Stands, both_of, asked_words, asked_table, Answered, answered}

-- ---- how far it has come

-- the run's state, as the counts and the words stand for it
abbrev pub state_of : Note → List ℕ → List ℕ → State
state_of n fs ws =
    record {
      both = both_of fs ws;
      consumed = n.consumed;
      replies = n.replies;
      accepted = n.accepted;
      refused = n.refused;
    }

-- a front stays one, whatever the table's words
pub gone_words : {feed : List ℕ} {room : ℕ} {fs ws gs vs : List ℕ} {n : Note} → IsWords fs → Gone feed room fs ws n gs vs
    → IsWords gs
gone_words w nowhere = w
gone_words w (further g e a) = asked_words (gone_words w g) a

-- a call was made for each record and tick that is left from the state s on: they began with the words fs and ws and left hs
-- and us
abbrev Ahead : ℕ → List ℕ → ℕ → State → List ℕ → List ℕ → List ℕ → List ℕ → Type 0
Ahead A feed room s fs ws hs us =
    Series fs ws (events_from (length feed) A feed room s)
    (replies 32 A s.both (events_from (length feed) A feed room s)) hs us

ahead_more : (A : ℕ) (feed : List ℕ) (room : ℕ) (s : State) {fs ws gs vs hs us : List ℕ}
    → halts feed room s.consumed (length s.replies) ≡ 5
    → Asked fs ws (ahead feed s) (taken 32 A s.both (ahead feed s)).reply gs vs
    → Ahead A feed room (turn A feed s) gs vs hs us → Ahead A feed room s fs ws hs us
ahead_more A feed room s e a x = rw (events_on_lem A feed room s e) (more a x)

module _ (feed : List ℕ) (room : ℕ) (fs₀ ws₀ : List ℕ) where
  abbrev A : ℕ
  A = array_count ws₀

  abbrev whole : Outcome
  whole = run A (both_of fs₀ ws₀) feed room

  pub record GoneOn (n : Note) (fs ws : List ℕ) : Type 0 where
    pub stands : Stands fs ws
    pub arrays : array_count ws ≡ A
    pub left : runs (length feed) A feed room (state_of n fs ws) ≡ whole
    -- a series of calls for what is left makes one for all
    pub series : (hs us : List ℕ) → Ahead A feed room (state_of n fs ws) fs ws hs us
        → Ahead A feed room (fresh (both_of fs₀ ws₀)) fs₀ ws₀ hs us

  -- a turn
  module _ {n : Note} {fs ws gs vs : List ℕ} {y : Reply} (g : GoneOn n fs ws) (e : halts_at feed room n ≡ 5)
      (a : Asked fs ws (event_at feed n.consumed) y gs vs) where
    abbrev state : State
    state = state_of n fs ws

    answer : Answered fs ws (event_at feed n.consumed) y gs vs
    answer = answered fs ws g.stands a

    said : y ≡ (taken 32 A (both_of fs ws) (event_at feed n.consumed)).reply
    said = rw g.arrays at answer.answer

    both_on : both_of gs vs ≡ (taken 32 A (both_of fs ws) (event_at feed n.consumed)).left
    both_on = rw g.arrays at answer.both

    on : state_of (noted feed n y) gs vs ≡ turn A feed state
    on =
        ap (λ (z : Reply). state_of (noted feed n z) gs vs) said
        ∙ ap (λ (b : Both). record {
          both = b;
          consumed = (turn A feed state).consumed;
          replies = (turn A feed state).replies;
          accepted = (turn A feed state).accepted;
          refused = (turn A feed state).refused;
        }) both_on

    turns : GoneOn (noted feed n y) gs vs
    turns =
        record {
          stands = answer.stands;
          arrays = answer.arrays ∙ g.arrays;
          left =
              ap (λ (s : State). runs (length feed) A feed room s) on
              ∙ runs_enough (length feed) (length feed - 1) A feed room (turn A feed state) (omega arith)
              (omega (arith, size_pos feed n.consumed))
              ∙ sym (runs_on (length feed - 1) A feed room state e)
              ∙ ap (λ (m : ℕ). runs m A feed room state) byte
              ∙ g.left;
          series = λ hs us x. g.series hs us
              (ahead_more A feed room state e (rw said at a)
              (subst (λ (s : State). Ahead A feed room s gs vs hs us) on x));
        }
      where
        byte : suc (length feed - 1) ≡ length feed
        byte = omega (arith, (halts_clear feed room n.consumed (length n.replies) e).body, size_pos feed n.consumed)

  pub gone_on : {n : Note} {fs ws : List ℕ} → Stands fs₀ ws₀ → Gone feed room fs₀ ws₀ n fs ws → GoneOn n fs ws
  gone_on t nowhere = record { stands = t; arrays = refl; left = refl; series = λ hs us x. x }
  gone_on t (further g e a) = (let o = gone_on t g in turns o e (asked_table o.stands.table a))

-- ---- the end

-- a run that ended as o, on a table of A arrays
record Ended (o : Outcome) (A : ℕ) (b gs vs c : List ℕ) (r : Report) : Type 0 where
  report : r ≡ report_of o
  list : seen 4 vs ≡ table A o.end.both.list
  places : seen_front gs ≡ front o.end.both.places
  replies : c ≡ o.end.replies ++ drop (length o.end.replies) b

module _ (fs₀ ws₀ feed b gs vs c : List ℕ) (r : Ran) (t : Stands fs₀ ws₀) (p : RanLocally fs₀ ws₀ feed b gs vs c r) where
  abbrev n : Note
  n = p.note

  abbrev stop : ℕ
  stop = halts_at feed (length b) n

  abbrev last : State
  last = state_of n gs vs

  g : GoneOn feed (length b) fs₀ ws₀ n gs vs
  g = gone_on feed (length b) fs₀ ws₀ t p.gone

  ended : run (array_count ws₀) (both_of fs₀ ws₀) feed (length b)
      ≡ record { stop = stop; end = cond (eqb stop 0) (finish last) last }
  ended =
      sym g.left
      ∙ runs_enough (length feed) (suc (length feed)) (array_count ws₀) feed (length b) last (omega arith) (omega arith)
      ∙ runs_stop (length feed) (array_count ws₀) feed (length b) last stop refl p.stopped

  listed : seen 4 vs ≡ table (array_count ws₀) (list_of 4 vs)
  listed = seen_table 4 vs g.stands.table ∙ ap (λ (m : ℕ). table m (list_of 4 vs)) g.arrays

  ends : (z : Bool) → eqb stop 0 ≡ z
      → Ended (record { stop = stop; end = cond z (finish last) last }) (array_count ws₀) b gs vs c (report_at stop n)
  ends true e = record {
    report = rw e;
    list = listed;
    places = seen_front_lem gs g.stands.front;
    replies = p.replies;
  }
  ends false e = record {
    report = rw e (λ i. record {
      stop = stop;
      consumed = add-zero n.consumed i;
      written = length n.replies;
      accepted = n.accepted;
      refused = n.refused;
    });
    list = listed;
    places = seen_front_lem gs g.stands.front;
    replies = p.replies;
  }

  pub ran_table : HasRun fs₀ ws₀ feed b gs vs c r
  ran_table =
      let x : Ended (run (array_count ws₀) (both_of fs₀ ws₀) feed (length b)) (array_count ws₀) b gs vs c (report_at stop n) =
      rw ended (ends (eqb stop 0) refl) in
      let f = seen_front_lem fs₀ t.front in
      let s = seen_table 4 ws₀ t.table in
      record {
        answer = rw (f, s) (ap run_answer p.answer ∙ ap gives x.report);
        list = rw (f, s) x.list;
        places = rw (f, s) x.places;
        replies = rw (f, s) x.replies;
        kept = λ m z. (let y = sym p.answer ∙ z in cc);
        front = λ _. g.stands.front;
        series = rw (f, s) (g.series gs vs
            (rw (events_stop (array_count ws₀) feed (length b) last (length feed) p.stopped) nothing));
      }
