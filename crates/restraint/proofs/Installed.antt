-- What is kept of a candidate is not lost: while that is not withdrawn it stays kept, or the table holds the candidate. So with
-- five ticks and with room for it the table holds it, whatever becomes of others. Assumes nothing.
use Rattle.std.specs.Prelude.{◌≡◌, refl, ◌≢◌, ◌⊎◌, Bool, true, false, ◌&&◌, ◌||◌, List, [], ◌∷◌, ℕ, suc, ◌≤◌, length, ltb, eqb}
use Rattle.std.proofs.Common.{sym, ap, ◌∙◌, inl, inr, ⊎_elim, arith, ne_eqb}
use Rattle.std.proofs.Math.Option.{some, none-ne-some}
use Rattle.logic.specs.Cases.{bool, same}
use Rattle.logic.specs.Bools.{and_to}
use Rattle.routes.specs.Answers.{done, refused, is_done}
use Rattle.candidates.specs.Keyed.{Ordered, find, put}
use Rattle.candidates.specs.Candidate.{Candidate, place}
use Rattle.candidates.specs.Candidate as candidate
use Rattle.candidates.specs.Answers.{Update, announce, withdraw, update, lookup, sound, answer, after}
use Rattle.rivals.specs.Maps.{put_same, put_other}
use Rattle.rivals.specs.Updates.{at, after_other, after_same}
use Rattle.front.specs.Place.{Mark, mark, Place, placed, key, marked, mark_in, mark_at, has, IsFront, kept_of, kept_hop}
use Rattle.front.specs.Place.{kept_preference, most_places, free_below}
use Rattle.restraint.specs.Places.{choice}
use Rattle.front.specs.Front.{Event, asks, tick, Both, Step, step, charged, charge, keeping, kept, passed, dropped, removed}
use Rattle.front.specs.Front.{damped, updated, halved, released, spent, halve, again, due, installs, taken, leaves}
use Rattle.restraint.specs.Passes.{rest, list_past, one_pass, one_list, passes, passes_list}
use Rattle.restraint.specs.Keeps.{AllTyped, event_keeps, announce_sound}
use Rattle.restraint.specs.Ticks.{Spares, AllSpare, AllRoomFor, ticks_in}
use Rattle.restraint.proofs.Ticks.{five_ticks}
use Rattle.restraint.specs.Absent.{Lacks, InOrder, tried_ordered, tried_other, one_other, event_ordered}
use Rattle.restraint.specs.Installed.{Here, event_here}

module _ (W A : ℕ) where
  pub stays_here : (k : ℕ) (b : Both) (es : List Event) → AllTyped W es → AllSpare k es → IsFront W b.places
      → InOrder b.list → Here b.list b.places k → Here (leaves W A b es).list (leaves W A b es).places k
  stays_here k b [] t c g i w = w
  stays_here k b (e ∷ es) t c g i w =
      stays_here k (taken W A b e).left es t.1 c.1 (event_keeps W A b e t.0 g) (event_ordered W A b e i)
      ((event_here W A) k b e c.0 g i w)

  -- what is kept in any front is in the table after five ticks
  pub kept_installed : (k : ℕ) (b : Both) (es : List Event) → IsFront W b.places → InOrder b.list
      → AllTyped W es → AllSpare k es → AllRoomFor W A k b es → 5 ≤ ticks_in es
      → (mark_at b.places k).kept ≢ 0 → ¬ Lacks (leaves W A b es).list k
  kept_installed k b es g i t c r m n =
      ⊎_elim (λ (x : (mark_at (leaves W A b es).places k).kept ≢ 0). absurd (x (five_ticks W A k b es g c r m).1))
      (λ (x : ¬ Lacks (leaves W A b es).list k). x)
      (stays_here k b es t c g i (inl n))
