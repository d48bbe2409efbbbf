-- The loop of the run: at each turn a call was made for what comes next, and the counters say how far the run has come. Assumes
-- nothing.
--
--     feed   ██████████████░░░░░░░░        reply   ██████████░░░░░░░░░░
--            consumed      at                      written   out, the rest as it was
use mathlib.Core.Path.{◌≡◌, refl, sym, ap, subst, ◌∙◌}
use mathlib.Core.Bool.{Bool, true, false, cond, not}
use mathlib.Core.List.{List}
use Prim.Native.Nat.{ℕ, ◌+◌, ◌-◌, ◌≤◌}
use native.Mathlib.Nat.{add-zero}
use native.Mathlib.Omega.{arith}
use lib.ListN.{length, take, drop}
use lib.Seq.{length-sets, length-take-le, drop-drop}
use Rattle.logic.specs.Cases.{bool}
use Rattle.numbers.specs.Wrote.{Wrote}
use Rattle.routes.specs.Answers.{Reply, is_done, is_refused}
use Rattle.routes.specs.Bytes.{reply_bytes}
use Rattle.laws.specs.Encoded.{reply_short}
use Rattle.candidates.specs.Runs.{tally}
use Rattle.candidates.specs.Seen.{misfits}
use Rattle.words.specs.View.{seen-cases}
use Rattle.update.specs.Refuse.{refusal-size, refusal_foreign, refusal_none}
use Rattle.feed.specs.Progress.{one}
use Rattle.feed.specs.Replies.{wrote-before, wrote_after}
use Rattle.feed.specs.declared.Report.{Report}
use Rattle.std.specs.Prelude.{Ok, Err}
use Rattle.refusals.specs.Number.{number, refusal_of, number_back}
use Rattle.refusals.specs.declared.Refusal.{Refusal}
use Rattle.update.specs.Fault.{number_some}
use Rattle.feed.specs.Progress.{Counted}
use Rattle.front.specs.Front.{accepts}
use Rattle.front.specs.Runs.{ticks_at, event_at, size_at, halts}
use Rattle.restraint.specs.Turns.{size_pos}
use Rattle.rows.specs.Row.{front_b, IsWords}
use Rattle.rows.specs.Told.{words_from}
use Rattle.damping.specs.View.{seen_alien}
use Rattle.damping.specs.Refuse.{refusal_through, refusal_first, refusal_alien, refusal_passed}
use Rattle.damping.specs.Locally.{Ready, refusal_before, before_none, before_table}
use Rattle.damping_run.specs.Series.{nothing}
use Rattle.damping_run.specs.Runs.{HasRun}
use Rattle.damping_run.specs.Locally.{AskedLocally, Note, halts_at, Gone, nowhere, further, RanLocally}
use Rattle.damping_run.specs.Locally.{HasRunLocally}
use Rattle.damping_run.specs.Tables.{gone_words, ran_table}
use Rattle.damping_run.specs.Turns.{first, note_of, Takes, Took}
use Rattle.damping_run.specs.Steps.{Comes, comes_first, comes_on}
use Rattle.feed.specs.declared.Progress.{Progress}
use Rattle.damping_run.proofs.Answers.{accepts_at}

-- ---- a turn

one_tally : (b : Bool) (n : ℕ) → n + one b ≡ tally b n
one_tally true n = refl
one_tally false n = add-zero n

one_le : (b : Bool) → one b ≤ 1
one_le true = omega arith
one_le false = omega arith

-- what is next was answered r by its call, the reply is written, and the counts go on
module _ (p : Progress) (fs ws feed b : List ℕ) (k : Bool) (t : Takes p fs ws feed b k) (gs vs c : List ℕ) (r : Reply)
    (n q x y : ℕ) (en : n ≡ size_at feed p.at) (asked : AskedLocally fs ws (event_at feed p.at) r gs vs)
    (w : Wrote b p.out (reply_bytes r) q c) (ex : x ≡ one (cond (ticks_at feed p.at) false (is_done r)))
    (ey : y ≡ one (is_refused r)) where
  fits : p.out + length (reply_bytes r) ≤ length b
  fits = omega (arith, reply_short r, t.clear.free)

  pub took : Took p fs ws feed b (record { at = p.at + n; out = q; accepted = p.accepted + x; refused = p.refused + y })
      gs vs c
  took =
      record {
        reply = r;
        asked = asked;
        note = λ i. record {
          consumed = p.at + en i;
          replies = wrote-before b p.out (reply_bytes r) q c fits w i;
          accepted = acc i;
          refused = ref i;
        };
        rest = wrote_after b p.out (reply_bytes r) q c fits w;
        placed = record {
          at = omega (arith, t.clear.body);
          out = omega (arith, fits, w.place, ap length w.list ∙ length-sets b p.out (reply_bytes r));
          accepted =
              omega (arith, t.placed.accepted, one_le (cond (ticks_at feed p.at) false (is_done r)), size_pos feed p.at);
          refused = omega (arith, t.placed.refused, one_le (is_refused r), size_pos feed p.at);
        };
        on = omega (arith, size_pos feed p.at);
        past = omega (arith, w.place);
      }
    where
      acc : p.accepted + x ≡ tally (accepts (event_at feed p.at) r) p.accepted
      acc =
          ap (λ (m : ℕ). p.accepted + m) ex
          ∙ one_tally (cond (ticks_at feed p.at) false (is_done r)) p.accepted
          ∙ ap (λ (z : Bool). tally z p.accepted) (accepts_at feed p.at r)

      ref : p.refused + y ≡ tally (is_refused r) p.refused
      ref = ap (λ (m : ℕ). p.refused + m) ey ∙ one_tally (is_refused r) p.refused

pub took_counted : (p : Progress) (fs ws feed b : List ℕ) (k : Bool) → Takes p fs ws feed b k → (gs vs : List ℕ) (r : Reply)
    (n : ℕ) (q : Progress) (c : List ℕ) (u : Bool) → n ≡ size_at feed p.at → AskedLocally fs ws (event_at feed p.at) r gs vs
    → u ≡ not (ticks_at feed p.at) → Counted p n r u q b c → Took p fs ws feed b q gs vs c
took_counted p fs ws feed b k t gs vs r n q c u e a d m =
    subst (λ (z : Progress). Took p fs ws feed b z gs vs c)
    (sym (λ i. record { at = m.at i; out = q.out; accepted = m.accepted i; refused = m.refused i }))
    (took p fs ws feed b k t gs vs c r n q.out (one (cond u (is_done r) false)) (one (is_refused r)) e a m.wrote
    (ap one (update_is u (ticks_at feed p.at) (is_done r) d)) refl)
  where
    update_is : (u t y : Bool) → u ≡ not t → cond u y false ≡ cond t false y
    update_is u true y d = rw d
    update_is u false y d = rw d

-- ---- the loop

-- a run from fs₀, ws₀ and b₀ has come to p, with the words fs and ws and the reply bytes b, and `stop` is what the next tests
-- find
pub record Going (fs₀ ws₀ feed b₀ fs ws b : List ℕ) (p : Progress) (known : Bool) (stop : ℕ) : Type 0 where
  pub comes : Comes p fs ws feed b (length b₀) known stop
  pub gone : Gone feed (length b₀) fs₀ ws₀ (note_of p b) fs ws
  pub rest : drop p.out b ≡ drop p.out b₀
  pub wide : length ws ≡ length ws₀
  pub broad : length fs ≡ length fs₀

pub start : (fs ws feed b : List ℕ) (p : Progress) (k : Bool) (stop : ℕ) → Ready fs ws k → p ≡ first
    → stop ≡ halts feed (length b) p.at p.out → Going fs ws feed b fs ws b p k stop
start fs ws feed b p k stop y z e = record {
  comes = comes_first p fs ws feed b k stop y z e;
  gone = rw z nowhere;
  rest = refl;
  wide = refl;
  broad = refl;
}

module _ (fs₀ ws₀ feed b₀ fs ws b : List ℕ) (p : Progress) (k : Bool) (stop : ℕ)
    (g : Going fs₀ ws₀ feed b₀ fs ws b p k stop) where
  out_length : length (take p.out b) ≡ p.out
  out_length = length-take-le p.out b g.comes.placed.out

  halted_at : halts_at feed (length b₀) (note_of p b) ≡ stop
  halted_at = ap (halts feed (length b₀) p.at) out_length ∙ sym g.comes.halted

  pub again : (q : Progress) (gs vs c : List ℕ) (next : ℕ) → stop ≡ 5 → Took p fs ws feed b q gs vs c
      → length c ≡ length b → length vs ≡ length ws → length gs ≡ length fs
      → next ≡ halts feed (length b₀) q.at q.out → Going fs₀ ws₀ feed b₀ gs vs c q k next
  again q gs vs c next e t lc lv lg h =
      record {
        comes = comes_on p fs ws feed b (length b₀) k stop g.comes q gs vs c next t lc lv h;
        gone = subst (λ (n : Note). Gone feed (length b₀) fs₀ ws₀ n gs vs) (sym t.note)
            (further g.gone (halted_at ∙ e) t.asked);
        rest = t.rest ∙ dropped;
        wide = lv ∙ g.wide;
        broad = lg ∙ g.broad;
      }
    where
      dropped : drop q.out b ≡ drop q.out b₀
      dropped =
          let o : p.out + (q.out - p.out) ≡ q.out = omega (arith, t.past) in
          let d : ℕ = q.out - p.out in
          rw (← o) (sym (drop-drop d p.out b) ∙ ap (drop d) g.rest ∙ drop-drop d p.out b₀)

-- ---- the test at the start

pub run_refused : (fs ws feed b : List ℕ) (r : Refusal) → number r ≡ refusal_through fs ws 0 → HasRun fs ws feed b fs ws b (Err r)
run_refused fs ws feed b r e =
    seen-cases 4 ws (omega arith) (omega arith)
    (λ m s. (let q : number r ≡ 1 = e ∙ sym (refusal_first fs ws 0 1 (refusal-size 4 ws 0 m) (omega arith)) in
    record {
      answer = rw (s, q);
      list = rw s;
      places = rw s;
      replies = rw s;
      kept = λ _ _. (refl, refl);
      front = λ w. w;
      series = rw s nothing;
    }))
    (λ m k s. (let q : number r ≡ 2 = e ∙ sym (refusal_first fs ws 0 2 (refusal_foreign 4 ws 0 m refl k) (omega arith)) in
    record {
      answer = rw (s, q);
      list = rw s;
      places = rw s;
      replies = rw s;
      kept = λ _ _. (refl, refl);
      front = λ w. w;
      series = rw s nothing;
    }))
    (λ m k _ s. bool (front_b fs)
    (λ f. absurd (number_some r (e ∙ sym (refusal_passed fs ws 0 0 (refusal_none 4 ws 0 m refl k) refl f))))
    (λ f. (let q : number r ≡ 2 = e ∙ sym (refusal_alien fs ws 0 0 (refusal_none 4 ws 0 m refl k) refl f) in
    let a = seen_alien fs f in
    record {
      answer = rw (a, s, q);
      list = rw (a, s);
      places = rw (a, s);
      replies = rw (a, s);
      kept = λ _ _. (refl, refl);
      front = λ w. w;
      series = rw (a, s) nothing;
    })))

-- ---- the local run

pub local_refused : (fs ws feed b : List ℕ) (r : Refusal) → number r ≡ refusal_before fs ws 0
    → HasRunLocally fs ws feed b fs ws b (Err r)
local_refused fs ws feed b r e = record {
  first = λ _. ap Err (sym (number_back r) ∙ ap refusal_of e);
  work = λ y. absurd (number_some r (e ∙ y));
  kept = λ _ _. (refl, refl, refl);
  front = λ w. w;
  table = λ t. run_refused fs ws feed b r (e ∙ sym (before_table fs ws 0 t));
}

pub local_ran : (fs ws feed b gs vs c : List ℕ) (r : Report) → IsWords fs → misfits (length ws) ≡ false
    → RanLocally fs ws feed b gs vs c (Ok r) → HasRunLocally fs ws feed b gs vs c (Ok r)
local_ran fs ws feed b gs vs c r w m p = record {
  first = λ n. absurd (n (sym (before_none fs ws 0 m refl (words_from fs w))));
  work = λ _. p;
  kept = λ n z. cc;
  front = λ _. gone_words w p.gone;
  table = λ t. ran_table fs ws feed b gs vs c (Ok r) (record { front = w; table = t }) p;
}
