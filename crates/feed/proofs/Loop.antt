-- The loop of the run: at each turn what is left of the run, from how far it has come, is the whole run. Assumes nothing.
--
--     feed   ██████████████░░░░░░░░        reply   ██████████░░░░░░░░░░
--            consumed      at                      written   out, the rest as it was
use mathlib.Core.Path.{◌≡◌, refl, sym, ap, subst, ◌∙◌}
use mathlib.Core.Logic.{◌≢◌}
use mathlib.Core.Bool.{Bool, true, false, cond, true≢false}
use mathlib.Core.List.{List, ◌++◌}
use Prim.Native.Nat.{ℕ, suc, ◌+◌, ◌-◌, ◌≤◌, ◌<◌}
use native.Mathlib.Nat.{add-zero}
use native.Mathlib.Omega.{arith}
use lib.ListN.{length, take, drop, take-append-drop}
use lib.Seq.{length-sets, length-take-le, drop-drop}
use lib.Dec.{eqb}
use Rattle.numbers.specs.Wrote.{Wrote}
use Rattle.sizes.specs.Sizes.{level_bound}
use Rattle.routes.specs.Family.{Family, levels, width}
use Rattle.routes.specs.Answers.{Reply, is_done, is_refused}
use Rattle.routes.specs.Bytes.{reply_bytes}
use Rattle.candidates.specs.Runs.{tally}
use Rattle.routes.specs.Seen.{gives}
use Rattle.laws.specs.Encoded.{reply_short}
use Rattle.laws.specs.Families.{levels_some, levels_few}
use Rattle.candidates.specs.Candidate.{Candidate}
use Rattle.candidates.specs.Answers.{reply, replies}
use Rattle.candidates.specs.Runs.{State, Ran as Outcome, size, role_at, ahead, finish, halts, taken, runs, fresh, run}
use Rattle.candidates.specs.Runs.{records_from}
use Rattle.candidates.specs.Seen.{Seen, misfit, foreign, table, misfits}
use Rattle.encoded.specs.Turns.{Clear, size_pos, halts_clear, runs_on, runs_stop, runs_enough}
use Rattle.encoded.specs.Taken.{records_stop}
use Rattle.encoded.proofs.Taken.{records_on_lem}
use Rattle.words.specs.Table.{seen}
use Rattle.words.specs.CheckReflects.{Fits}
use Rattle.words.specs.View.{seen_table, seen-cases, seen_misfit, table_fits}
use Rattle.update.specs.Update.{refusal_of}
use Rattle.update.specs.Refuse.{refusal-size, refusal_foreign, refusal_none, passed}
use Rattle.feed.specs.Runs.{report_of, local_report, HasRun, RanLocally, RunsTable, HasRunLocally}
use Rattle.feed.specs.Local.{local_run, ran_words, Called, none}
use Rattle.feed.specs.Local as Local
use Rattle.feed.specs.Series.{Asked, Series, nothing, more, Answered, answered}
use Rattle.feed.specs.Turns.{IsTable, room_in, list_in, one, next_at, state_of, come_to, Placed, Takes, Took, TookAny, AskedAny}
use Rattle.feed.specs.declared.Progress.{Progress}
use Rattle.feed.specs.declared.Report.{Report}
use Rattle.std.specs.Prelude.{Ok, Err}
use Rattle.refusals.specs.Number.{number}
use Rattle.refusals.specs.declared.Refusal.{Refusal}
use Rattle.refusals.specs.declared.Refusal.TheVariants.{Misfit}
use Rattle.update.specs.Fault.{number_some}
use Rattle.feed.specs.Progress.{Counted}
use Rattle.feed.proofs.Answers.{table_eq}
use Rattle.feed.specs.Replies.{wrote-before, wrote_after}

-- ---- one record

one_tally : (b : Bool) (n : ℕ) → n + one b ≡ tally b n
one_tally true n = refl
one_tally false n = add-zero n

one_le : (b : Bool) → one b ≤ 1
one_le true = omega arith
one_le false = omega arith

module _ (F : Family) (p : Progress) (ws feed b : List ℕ) (t : Takes F p ws feed b)
    (tb : IsTable (seen (levels F) ws)) (n : ℕ) (vs : List ℕ) (r : Reply) (q : ℕ)
    (c : List ℕ) (x y : ℕ) (en : n ≡ size F (role_at F feed p.at))
    (asked : Asked (levels F) ws (next_at F p feed) r vs)
    (w : Wrote b p.out (reply_bytes r) q c)
    (ex : x ≡ one (is_done r)) (ey : y ≡ one (is_refused r)) where
  abbrev A : ℕ
  A = room_in (seen (levels F) ws)

  abbrev cs : List Candidate
  cs = list_in (seen (levels F) ws)

  answer : Answered (levels F) A cs (next_at F p feed) r vs
  answer = answered (levels F) A cs (table_eq (seen (levels F) ws) tb) asked

  fits : p.out + length (reply_bytes r) ≤ length b
  fits = omega (arith, reply_short r, t.clear.free)

  pub took : Took F p ws feed b (record { at = p.at + n; out = q; accepted = p.accepted + x; refused = p.refused + y }) vs c
  took =
      record {
        asked = rw said at asked;
        state = λ i. record {
          list = ap list_in answer.list i;
          consumed = p.at + en i;
          replies = reps i;
          accepted = acc i;
          refused = ref i;
        };
        list = answer.list ∙ ap (table A) (sym (ap list_in answer.list));
        rest = wrote_after b p.out (reply_bytes r) q c fits w;
        placed = record {
          at = omega (arith, t.clear.body);
          out = omega (arith, fits, w.place, ap length w.list ∙ length-sets b p.out (reply_bytes r));
          accepted = omega (arith, t.placed.accepted, one_le (is_done r), size_pos F (role_at F feed p.at));
          refused = omega (arith, t.placed.refused, one_le (is_refused r), size_pos F (role_at F feed p.at));
        };
        on = omega (arith, size_pos F (role_at F feed p.at));
        past = omega (arith, w.place);
      }
    where
      said : r ≡ reply (width F) A cs (next_at F p feed)
      said = answer.answer

      reps : take q c ≡ take p.out b ++ reply_bytes (reply (width F) A cs (next_at F p feed))
      reps = wrote-before b p.out (reply_bytes r) q c fits w ∙ ap (λ z. take p.out b ++ reply_bytes z) said

      acc : p.accepted + x ≡ tally (is_done (reply (width F) A cs (next_at F p feed))) p.accepted
      acc =
          ap (λ (m : ℕ). p.accepted + m) ex
          ∙ one_tally (is_done r) p.accepted
          ∙ ap (λ z. tally (is_done z) p.accepted) said

      ref : p.refused + y ≡ tally (is_refused (reply (width F) A cs (next_at F p feed))) p.refused
      ref =
          ap (λ (m : ℕ). p.refused + m) ey
          ∙ one_tally (is_refused r) p.refused
          ∙ ap (λ z. tally (is_refused z) p.refused) said

-- on any words
pub took_any : (F : Family) (p : Progress) (ws feed b : List ℕ) → Takes F p ws feed b → (n : ℕ) (vs : List ℕ) (r : Reply) (q : ℕ)
    (c : List ℕ) (x y : ℕ) → n ≡ size F (role_at F feed p.at) → AskedAny (levels F) ws (next_at F p feed) r vs
    → Wrote b p.out (reply_bytes r) q c → x ≡ one (is_done r) → y ≡ one (is_refused r)
    → TookAny F p ws feed b (record { at = p.at + n; out = q; accepted = p.accepted + x; refused = p.refused + y }) vs c
took_any F p ws feed b t n vs r q c x y en a w ex ey =
    let fits : p.out + length (reply_bytes r) ≤ length b = omega (arith, reply_short r, t.clear.free) in
    let reps = wrote-before b p.out (reply_bytes r) q c fits w ∙ ap (λ z. take p.out b ++ reply_bytes z) a.answer in
    let acc = ap (λ (m : ℕ). p.accepted + m) ex ∙ one_tally (is_done r) p.accepted
    ∙ ap (λ z. tally (is_done z) p.accepted) a.answer in
    let ref = ap (λ (m : ℕ). p.refused + m) ey ∙ one_tally (is_refused r) p.refused
    ∙ ap (λ z. tally (is_refused z) p.refused) a.answer in
    record {
      state = λ i. record { words = a.words i; consumed = p.at + en i; replies = reps i; accepted = acc i; refused = ref i };
      called = a.called;
      rest = wrote_after b p.out (reply_bytes r) q c fits w;
      past = omega (arith, w.place);
      size = a.size;
      placed = record {
        at = omega (arith, t.clear.body);
        out = omega (arith, fits, w.place, ap length w.list ∙ length-sets b p.out (reply_bytes r));
        accepted = omega (arith, t.placed.accepted, one_le (is_done r), size_pos F (role_at F feed p.at));
        refused = omega (arith, t.placed.refused, one_le (is_refused r), size_pos F (role_at F feed p.at));
      };
      on = omega (arith, size_pos F (role_at F feed p.at));
      table = λ tb. took F p ws feed b t tb n vs r q c x y en (a.table tb) w ex ey;
    }

pub took_counted : (F : Family) (p : Progress) (ws feed b : List ℕ) → Takes F p ws feed b → (n : ℕ) (vs : List ℕ) (r : Reply)
    (q : Progress) (c : List ℕ) → n ≡ size F (role_at F feed p.at) → AskedAny (levels F) ws (next_at F p feed) r vs
    → Counted p n r true q b c → TookAny F p ws feed b q vs c
took_counted F p ws feed b t n vs r q c e a k =
    subst (λ (z : Progress). TookAny F p ws feed b z vs c)
    (sym (λ i. record { at = k.at i; out = q.out; accepted = k.accepted i; refused = k.refused i }))
    (took_any F p ws feed b t n vs r q.out c (one (is_done r)) (one (is_refused r)) e a k.wrote refl refl)

-- ---- the loop

abbrev pub whole : Family → List ℕ → List ℕ → List ℕ → Outcome
whole F ws feed b = run F (room_in (seen (levels F) ws)) (list_in (seen (levels F) ws)) feed (length b)

-- a call was made for each record that is left from the state s on: they began with the words ws and left us
abbrev pub Ahead : Family → ℕ → List ℕ → ℕ → State → List ℕ → List ℕ → Type 0
Ahead F A feed room s ws us =
    Series (levels F) ws (records_from F (length feed) A feed room s)
    (replies (width F) A s.list (records_from F (length feed) A feed room s)) us

ahead_more : (F : Family) (A : ℕ) (feed : List ℕ) (room : ℕ) (s : State) {ws vs us : List ℕ}
    → halts F feed room s.consumed (length s.replies) ≡ 5
    → Asked (levels F) ws (ahead F feed s) (reply (width F) A s.list (ahead F feed s)) vs
    → Ahead F A feed room (taken F A feed s) vs us → Ahead F A feed room s ws us
ahead_more F A feed room s e a x = rw (records_on_lem F A feed room s e) (more a x)

-- a run from ws₀ and b₀ has come to p, with the words ws and the reply bytes b, and `stop` is what the next tests find
pub record Going (F : Family) (ws₀ feed b₀ ws b : List ℕ) (p : Progress) (stop : ℕ) : Type 0 where
  pub placed : Placed p feed b
  pub list : seen (levels F) ws ≡ table (room_in (seen (levels F) ws₀)) (list_in (seen (levels F) ws))
  pub left : runs F (length feed) (room_in (seen (levels F) ws₀)) feed (length b₀) (state_of (levels F) p ws b)
      ≡ whole F ws₀ feed b₀
  pub rest : drop p.out b ≡ drop p.out b₀
  pub long : length b ≡ length b₀
  pub wide : length ws ≡ length ws₀
  pub halted : stop ≡ halts F feed (length b₀) p.at p.out
  -- a series of calls for the records that are left makes one for all
  pub series : (us : List ℕ) → Ahead F (room_in (seen (levels F) ws₀)) feed (length b₀) (state_of (levels F) p ws b) ws us
      → Ahead F (room_in (seen (levels F) ws₀)) feed (length b₀) (fresh (list_in (seen (levels F) ws₀))) ws₀ us

pub start : (F : Family) (ws feed b : List ℕ) (stop : ℕ) → IsTable (seen (levels F) ws) → stop ≡ halts F feed (length b) 0 0
    → Going F ws feed b ws b (record { at = 0; out = 0; accepted = 0; refused = 0 }) stop
start F ws feed b stop t e =
    record {
      placed = record { at = omega arith; out = omega arith; accepted = omega arith; refused = omega arith };
      list = table_eq (seen (levels F) ws) t;
      left = refl;
      rest = refl;
      long = refl;
      wide = refl;
      halted = e;
      series = λ us h. h;
    }

out_length : (p : Progress) (feed b : List ℕ) → Placed p feed b → length (take p.out b) ≡ p.out
out_length p feed b h = length-take-le p.out b h.out

-- what is told of a run that has come to p
abbrev told : Progress → ℕ → ℕ → ℕ → Report
told p stop consumed written =
    record { stop = stop; consumed = consumed; written = written; accepted = p.accepted; refused = p.refused }

-- a run that ended as o, on any words
record Told (o : Local.Ran) (b vs c : List ℕ) (r : Report) : Type 0 where
  report : r ≡ local_report o
  words : vs ≡ o.end.words
  replies : c ≡ o.end.replies ++ drop (length o.end.replies) b

-- a run that ended as o, on a table of A arrays
record Ended (F : Family) (o : Outcome) (A : ℕ) (b vs c : List ℕ) (r : Report) : Type 0 where
  report : r ≡ report_of o
  list : seen (levels F) vs ≡ table A o.end.list
  replies : c ≡ o.end.replies ++ drop (length o.end.replies) b

module _ (F : Family) (ws₀ feed b₀ ws b : List ℕ) (p : Progress) (stop : ℕ) (g : Going F ws₀ feed b₀ ws b p stop) where
  abbrev A₀ : ℕ
  A₀ = room_in (seen (levels F) ws₀)

  abbrev state : State
  state = state_of (levels F) p ws b

  going_clear : stop ≡ 5 → Clear F feed (length b) p.at p.out
  going_clear e = rw g.long (halts_clear F feed (length b₀) p.at p.out (sym g.halted ∙ e))

  pub going_table : IsTable (seen (levels F) ws)
  going_table = rw g.list tt

  same_room : room_in (seen (levels F) ws) ≡ A₀
  same_room = ap room_in g.list

  halted_at : halts F feed (length b₀) p.at (length (take p.out b)) ≡ stop
  halted_at = ap (halts F feed (length b₀) p.at) (out_length p feed b g.placed) ∙ sym g.halted

  pub again : (q : Progress) (vs c : List ℕ) (next : ℕ) → stop ≡ 5 → Took F p ws feed b q vs c
      → length c ≡ length b → length vs ≡ length ws → next ≡ halts F feed (length b₀) q.at q.out
      → Going F ws₀ feed b₀ vs c q next
  again q vs c next e t lc lv h =
      record {
        placed = t.placed;
        list = t.list ∙ ap (λ (n : ℕ). table n (list_in (seen (levels F) vs))) same_room;
        left =
            ap (λ (s : State). runs F (length feed) A₀ feed (length b₀) s) on
            ∙ runs_enough F (length feed) (length feed - 1) A₀ feed (length b₀) (taken F A₀ feed state) (omega arith)
            (omega (arith, size_pos F (role_at F feed p.at)))
            ∙ sym (runs_on F (length feed - 1) A₀ feed (length b₀) state (halted_at ∙ e))
            ∙ ap (λ (n : ℕ). runs F n A₀ feed (length b₀) state) m
            ∙ g.left;
        rest = t.rest ∙ dropped;
        long = lc ∙ g.long;
        wide = lv ∙ g.wide;
        halted = h;
        series = λ us x. g.series us
            (ahead_more F A₀ feed (length b₀) state (halted_at ∙ e) (rw same_room at t.asked)
            (subst (λ (s : State). Ahead F A₀ feed (length b₀) s vs us) on x));
      }
    where
      on : state_of (levels F) q vs c ≡ taken F A₀ feed state
      on = t.state ∙ ap (λ (n : ℕ). taken F n feed state) same_room

      m : suc (length feed - 1) ≡ length feed
      m = omega (arith, (going_clear e).body, size_pos F (role_at F feed p.at))

      dropped : drop q.out b ≡ drop q.out b₀
      dropped =
          let o : p.out + (q.out - p.out) ≡ q.out = omega (arith, t.past) in
          let d : ℕ = q.out - p.out in
          rw (← o) (sym (drop-drop d p.out b) ∙ ap (drop d) g.rest ∙ drop-drop d p.out b₀)

  -- ---- the end

  ended : stop ≢ 5 → whole F ws₀ feed b₀ ≡ record { stop = stop; end = cond (eqb stop 0) (finish state) state }
  ended n =
      sym g.left
      ∙ runs_enough F (length feed) (suc (length feed)) A₀ feed (length b₀) state (omega arith) (omega arith)
      ∙ runs_stop F (length feed) A₀ feed (length b₀) state stop halted_at n

  kept : b ≡ take p.out b ++ drop (length (take p.out b)) b₀
  kept = rw (out_length p feed b g.placed, ← g.rest) (sym (take-append-drop p.out b))

  report : (z : Bool)
      → Ended F (record { stop = stop; end = cond z (finish state) state }) A₀ b₀ ws b (told p stop (p.at + one z) p.out)
  report true = record {
    report = λ i. told p stop (p.at + 1) (sym (out_length p feed b g.placed) i);
    list = g.list;
    replies = kept;
  }
  report false = record {
    report = λ i. told p stop (add-zero p.at i) (sym (out_length p feed b g.placed) i);
    list = g.list;
    replies = kept;
  }

  -- no record is left
  all_asked : stop ≢ 5 → Ahead F A₀ feed (length b₀) (fresh (list_in (seen (levels F) ws₀))) ws₀ ws
  all_asked n = g.series ws (rw (records_stop F A₀ feed (length b₀) state (length feed) (λ e. n (sym halted_at ∙ e))) nothing)

  runs_as : (s : Seen) → seen (levels F) ws₀ ≡ s → IsTable s → (r : Report)
      → Ended F (run F (room_in s) (list_in s) feed (length b₀)) (room_in s) b₀ ws b r
      → Ahead F (room_in s) feed (length b₀) (fresh (list_in s)) ws₀ ws → ws ≡ ran_words F ws₀ feed (length b₀)
      → HasRun F ws₀ feed b₀ ws b (Ok r)
  runs_as misfit e t r x a w = absurd t
  runs_as foreign e t r x a w = absurd t
  runs_as (table A cs) e t r x a w =
      record {
        answer = rw e (ap gives x.report);
        list = rw e x.list;
        replies = rw e x.replies;
        kept = λ n z. (let y : ◌≡◌ {A = ℕ} 0 1 = cc in absurd (omega arith));
        series = rw e a;
        words = λ _. w;
      }

  stopped : IsTable (seen (levels F) ws₀) → (n : ℕ) → stop ≢ 5 → n ≡ one (eqb stop 0) → ws ≡ ran_words F ws₀ feed (length b₀)
      → HasRun F ws₀ feed b₀ ws b (Ok (told p stop (p.at + n) p.out))
  stopped t n h e = runs_as (seen (levels F) ws₀) refl t _ (rw (e, ended h) (report (eqb stop 0))) (all_asked h)

-- ---- the test at the start

module _ (F : Family) (ws : List ℕ) where
  abbrev few : levels F < level_bound
  few = omega (arith, levels_few F)

  pub run_refused : (n : Refusal) → number n ≡ refusal_of (levels F) ws 0 → (feed b : List ℕ) → HasRun F ws feed b ws b (Err n)
  run_refused n first feed b =
      seen-cases (levels F) ws (levels_some F) few
      (λ m e. (let q : number n ≡ 1 = first ∙ sym (refusal-size (levels F) ws 0 m) in
      record { answer = rw (e, q); list = rw e; replies = rw e; kept = λ _ _. refl; series = rw e nothing; words = rw e absurd }))
      (λ m t e. (let q : number n ≡ 2 = first ∙ sym (refusal_foreign (levels F) ws 0 m refl t) in
      record { answer = rw (e, q); list = rw e; replies = rw e; kept = λ _ _. refl; series = rw e nothing; words = rw e absurd }))
      (λ m t _ _. absurd (number_some n (first ∙ sym (refusal_none (levels F) ws 0 m refl t))))

  module _ (clear : refusal_of (levels F) ws 0 ≡ 0) where
    pub run_fits : Fits (length ws)
    run_fits = table_fits (levels F) ws (passed (levels F) ws (levels_some F) few 0 clear).0

    pub run_started : IsTable (seen (levels F) ws)
    run_started = rw (seen_table (levels F) ws (passed (levels F) ws (levels_some F) few 0 clear).0) tt

-- ---- the loop on any words of a right size

pub record GoingAny (F : Family) (ws₀ feed b₀ ws b : List ℕ) (p : Progress) (stop : ℕ) : Type 0 where
  pub fits : Fits (length ws)
  pub placed : Placed p feed b
  pub long : length b ≡ length b₀
  pub wide : length ws ≡ length ws₀
  pub halted : stop ≡ halts F feed (length b₀) p.at p.out
  pub left : Local.runs F (length feed) feed (length b₀) (come_to p ws b) ≡ local_run F ws₀ feed (length b₀)
  pub rest : drop p.out b ≡ drop p.out b₀
  pub called : Called (levels F) ws₀ ws
  pub table : IsTable (seen (levels F) ws₀) → Going F ws₀ feed b₀ ws b p stop

pub start_any : (F : Family) (ws feed b : List ℕ) (stop : ℕ) → Fits (length ws) → stop ≡ halts F feed (length b) 0 0
    → GoingAny F ws feed b ws b (record { at = 0; out = 0; accepted = 0; refused = 0 }) stop
start_any F ws feed b stop f e = record {
  fits = f;
  placed = record { at = omega arith; out = omega arith; accepted = omega arith; refused = omega arith };
  long = refl;
  wide = refl;
  halted = e;
  left = refl;
  rest = refl;
  called = none;
  table = λ t. start F ws feed b stop t e;
}

-- the rest of the reply is still as it was
still_rest : (p q : ℕ) (b c d : List ℕ) → p ≤ q → drop p b ≡ drop p c → drop q d ≡ drop q b → drop q d ≡ drop q c
still_rest p q b c d h e f =
    let o : p + (q - p) ≡ q = omega arith in
    f ∙ rw (← o) (sym (drop-drop (q - p) p b) ∙ ap (drop (q - p)) e ∙ drop-drop (q - p) p c)

module _ (F : Family) (ws₀ feed b₀ ws b : List ℕ) (p : Progress) (stop : ℕ) (g : GoingAny F ws₀ feed b₀ ws b p stop) where
  any_clear : stop ≡ 5 → Clear F feed (length b) p.at p.out
  any_clear e = rw g.long (halts_clear F feed (length b₀) p.at p.out (sym g.halted ∙ e))

  pub any_takes : stop ≡ 5 → Takes F p ws feed b
  any_takes e = record { fits = g.fits; placed = g.placed; clear = any_clear e }

  any_halted : halts F feed (length b₀) p.at (length (take p.out b)) ≡ stop
  any_halted = ap (halts F feed (length b₀) p.at) (out_length p feed b g.placed) ∙ sym g.halted

  pub any_table : IsTable (seen (levels F) ws₀) → IsTable (seen (levels F) ws)
  any_table t = going_table F ws₀ feed b₀ ws b p stop (g.table t)

  pub any_again : (q : Progress) (vs c : List ℕ) (next : ℕ) → stop ≡ 5 → TookAny F p ws feed b q vs c
      → length c ≡ length b → length vs ≡ length ws → next ≡ halts F feed (length b₀) q.at q.out
      → GoingAny F ws₀ feed b₀ vs c q next
  any_again q vs c next e t lc lv h =
      let s = come_to p ws b in
      let m : suc (length feed - 1) ≡ length feed = omega (arith, (any_clear e).body, size_pos F (role_at F feed p.at)) in
      record {
        fits = rw t.size g.fits;
        placed = t.placed;
        long = lc ∙ g.long;
        wide = lv ∙ g.wide;
        halted = h;
        left =
            ap (Local.runs F (length feed) feed (length b₀)) t.state
            ∙ Local.runs_enough F (length feed) (length feed - 1) feed (length b₀) (Local.taken F feed s) (omega arith)
            (omega (arith, size_pos F (role_at F feed p.at)))
            ∙ sym (Local.runs_on F (length feed - 1) feed (length b₀) s (any_halted ∙ e))
            ∙ ap (λ (n : ℕ). Local.runs F n feed (length b₀) s) m
            ∙ g.left;
        rest = still_rest p.out q.out b b₀ c t.past g.rest t.rest;
        called = t.called ws₀ g.called;
        table = λ y. (let d = g.table y in
            again F ws₀ feed b₀ ws b p stop d q vs c next e (t.table (going_table F ws₀ feed b₀ ws b p stop d)) lc lv h);
      }

  -- the end
  any_ended : stop ≢ 5
      → local_run F ws₀ feed (length b₀)
      ≡ record { stop = stop; end = cond (eqb stop 0) (Local.finish (come_to p ws b)) (come_to p ws b) }
  any_ended n =
      sym g.left
      ∙ Local.runs_enough F (length feed) (suc (length feed)) feed (length b₀) (come_to p ws b) (omega arith) (omega arith)
      ∙ Local.runs_stop F (length feed) feed (length b₀) (come_to p ws b) stop any_halted n

  any_kept : b ≡ take p.out b ++ drop (length (take p.out b)) b₀
  any_kept = rw (out_length p feed b g.placed, ← g.rest) (sym (take-append-drop p.out b))

  any_told : (z : Bool) → Told (record { stop = stop; end = cond z (Local.finish (come_to p ws b)) (come_to p ws b) }) b₀ ws b
      (told p stop (p.at + one z) p.out)
  any_told true = record {
    report = λ i. told p stop (p.at + 1) (sym (out_length p feed b g.placed) i);
    words = refl;
    replies = any_kept;
  }
  any_told false = record {
    report = λ i. told p stop (add-zero p.at i) (sym (out_length p feed b g.placed) i);
    words = refl;
    replies = any_kept;
  }

  pub any_ran : (n : ℕ) → stop ≢ 5 → n ≡ one (eqb stop 0) → RanLocally F ws₀ feed b₀ ws b (told p stop (p.at + n) p.out)
  any_ran n h e =
      let x : Told (local_run F ws₀ feed (length b₀)) b₀ ws b (told p stop (p.at + n) p.out) =
      rw (e, any_ended h) (any_told (eqb stop 0)) in
      record { answer = x.report; words = x.words; replies = x.replies; calls = g.called }

  pub any_stopped : (n : ℕ) → stop ≢ 5 → n ≡ one (eqb stop 0) → RunsTable F ws₀ feed b₀ ws b (told p stop (p.at + n) p.out)
  any_stopped n h e = record {
    ran = any_ran n h e;
    table = λ t. stopped F ws₀ feed b₀ ws b p stop (g.table t) t n h e (any_ran n h e).words;
  }

-- ---- the local run

module _ (F : Family) (ws feed b : List ℕ) where
  pub local_refused : misfits (length ws) ≡ true → HasRunLocally F ws feed b ws b (Err Misfit)
  local_refused m = record {
    wrong = λ _. (refl, refl, refl);
    told = record { stop = 0; consumed = 0; written = 0; accepted = 0; refused = 0 };
    right = λ n. absurd (true≢false (sym m ∙ n));
    table = λ t. absurd (rw (seen_misfit (levels F) ws m) at t);
  }
