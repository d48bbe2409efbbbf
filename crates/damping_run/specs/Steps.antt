-- A run driven step by step: what holds between two steps, from the tests at the start on. Assumes nothing.
--
--     passed the tests ──▶ first ── halt, 5 ── answer_next ──▶ p ── halt, 5 ── answer_next ──▶ .. ── halt ──▶ the stop
use Rattle.std.specs.Prelude.{◌≡◌, refl, Bool, true, List, ℕ, ◌<◌, length}
use Rattle.std.proofs.Common.{sym, ap, ◌∙◌, arith}
use Rattle.candidates.specs.Seen.{misfits}
use Rattle.words.specs.View.{fits_no_misfit, table_fits}
use Rattle.front.specs.Runs.{halts}
use Rattle.restraint.specs.Turns.{halts_clear}
use Rattle.rows.specs.Row.{row_at}
use Rattle.damping.specs.Refuse.{refusal_through, passed_all}
use Rattle.damping.specs.Locally.{Ready}
use Rattle.damping_run.specs.Answered.{asked_words, asked_table, answered}
use Rattle.damping_run.specs.Turns.{first, Placed, Takes, Took}
use Rattle.feed.specs.declared.Progress.{Progress}

-- a run on the words fs and ws, with the reply bytes b, has come to p, and `stop` is what the next tests find
pub record Comes (p : Progress) (fs ws feed b : List ℕ) (room : ℕ) (known : Bool) (stop : ℕ) : Type 0 where
  pub ready : Ready fs ws known
  pub placed : Placed p feed b
  pub long : length b ≡ room
  pub halted : stop ≡ halts feed room p.at p.out

-- words that pass the tests at the start are a front and a table
pub passed_ready : (fs ws : List ℕ) → ((i : ℕ) → (row_at fs i).a < 4294967296) → refusal_through fs ws 0 ≡ 0 → Ready fs ws true
passed_ready fs ws small e =
    let p = passed_all fs ws 0 small e in
    record { front = p.0; fits = fits_no_misfit (length ws) (table_fits 4 ws p.1); table = λ _. p.1 }

-- before the first record
pub comes_first : (p : Progress) (fs ws feed b : List ℕ) (k : Bool) (stop : ℕ) → Ready fs ws k → p ≡ first
    → stop ≡ halts feed (length b) p.at p.out → Comes p fs ws feed b (length b) k stop
comes_first p fs ws feed b k stop y z e = record { ready = y; placed = placed; long = refl; halted = e }
  where
    placed : Placed p feed b
    placed = rw z (record { at = omega arith; out = omega arith; accepted = omega arith; refused = omega arith })

module _ (p : Progress) (fs ws feed b : List ℕ) (room : ℕ) (k : Bool) (stop : ℕ) (c : Comes p fs ws feed b room k stop) where
  -- where no test stops it, the next step may be taken
  pub comes_takes : stop ≡ 5 → Takes p fs ws feed b k
  comes_takes e = record {
    ready = c.ready;
    placed = c.placed;
    clear = rw c.long (halts_clear feed room p.at p.out (sym c.halted ∙ e));
  }

  -- a front stays one, and a table that is known to be one
  pub comes_on : (q : Progress) (gs vs d : List ℕ) (next : ℕ) → Took p fs ws feed b q gs vs d → length d ≡ length b
      → length vs ≡ length ws → next ≡ halts feed room q.at q.out → Comes q gs vs feed d room k next
  comes_on q gs vs d next t ld lv e = record {
    ready = record {
      front = asked_words c.ready.front t.asked;
      fits = ap misfits lv ∙ c.ready.fits;
      table = λ z. (let w = c.ready.table z in
          (answered fs ws (record { front = c.ready.front; table = w }) (asked_table w t.asked)).stands.table);
    };
    placed = t.placed;
    long = ld ∙ c.long;
    halted = e;
  }
