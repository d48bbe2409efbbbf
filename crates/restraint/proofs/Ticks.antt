-- A candidate that is not withdrawn again is let go within five ticks if there is room for it, from any front and whatever
-- becomes of others: no update but its own withdrawals raises its penalty, and each tick halves it. Assumes nothing.
--
--     12000 ── 6000 ── 3000 ── 1500 ── 750 ── 375
use Rattle.std.specs.Prelude.{◌≡◌, refl, ◌≢◌, true, false, ◌&&◌, ◌||◌, List, [], ◌∷◌, ℕ, zero, suc, ◌/◌, ◌≤◌, ◌<◌, length, ltb}
use Rattle.std.specs.Prelude.{eqb}
use Rattle.std.proofs.Common.{sym, ◌∙◌, true≢false, arith, lt-ltb, eq-eqb}
use Rattle.logic.specs.Cases.{bool, same}
use Rattle.routes.specs.Answers.{done, refused, is_done}
use Rattle.candidates.specs.Keyed.{put, Every}
use Rattle.candidates.specs.Candidate.{Candidate, place}
use Rattle.candidates.specs.Answers.{Update, announce, withdraw, update, lookup, sound, answer}
use Rattle.rivals.specs.Maps.{every_put, every_map}
use Rattle.front.specs.Place.{Mark, mark, blank, Place, placed, key, marked, has, mark_at, backs, IsPlace, IsFront, kept_of}
use Rattle.front.specs.Place.{kept_hop, most_places, most_penalty, free_below}
use Rattle.restraint.specs.Places.{choice}
use Rattle.front.specs.Front.{Event, asks, tick, Both, Step, step, charged, charge, keeping, kept, passed, dropped, removed}
use Rattle.front.specs.Front.{damped, updated, halved, released, spent, halve, again, due, installs, tried, tick_places, taken}
use Rattle.front.specs.Front.{leaves}
use Rattle.restraint.specs.Passes.{rest, list_past, one_pass, passes}
use Rattle.restraint.specs.Ticks.{AllSpare, AllCalm, calm_spares, ticks_in, AllRoomFor, AllRoom, Under, Free, FreeAt, halves}
use Rattle.restraint.specs.Ticks.{mark_free, spared_under, spared_free, tick_under, tick_free, tick_stays}

module _ (W A : ℕ) where
  stays_free : (k : ℕ) (b : Both) (es : List Event) → AllSpare k es → Every (FreeAt k) b.places
      → Every (FreeAt k) (leaves W A b es).places
  stays_free k b [] c u = u
  stays_free k b (asks (update x) ∷ es) c u =
      stays_free k (taken W A b (asks (update x))).left es c.1 (spared_free W A k b x c.0 u)
  stays_free k b (asks (lookup a) ∷ es) c u = stays_free k (taken W A b (asks (lookup a))).left es c.1 u
  stays_free k b (tick ∷ es) c u = stays_free k (taken W A b tick).left es c.1 ((tick_stays W A) k b.list b.places u)

  falls : (k t n : ℕ) (b : Both) (es : List Event) → AllSpare k es → AllRoomFor W A k b es → Every (Under k n) b.places
      → halves (suc t) n < free_below → suc t ≤ ticks_in es → Every (FreeAt k) (leaves W A b es).places
  falls k t n b [] c r u h m = absurd (omega arith)
  falls k t n b (asks (update x) ∷ es) c r u h m =
      falls k t n (taken W A b (asks (update x))).left es c.1 r.1 (spared_under W A k b n x c.0 u) h m
  falls k t n b (asks (lookup a) ∷ es) c r u h m = falls k t n (taken W A b (asks (lookup a))).left es c.1 r.1 u h m
  falls k zero n b (tick ∷ es) c r u h m =
      stays_free k (taken W A b tick).left es c.1 ((tick_free W A) k n b.list b.places h u r.0)
  falls k (suc t) n b (tick ∷ es) c r u h m =
      falls k t (n / 2) (taken W A b tick).left es c.1 r.1 ((tick_under W A) k n b.list b.places u) h (omega arith)

  all_places : (k : ℕ) (b : Both) (es : List Event) → IsFront W b.places → AllSpare k es → AllRoomFor W A k b es
      → 5 ≤ ticks_in es → Every (FreeAt k) (leaves W A b es).places
  all_places k b es i c r m =
      falls k 4 most_penalty b es c r
      (every_map (IsPlace W) (Under k most_penalty) (λ p w. record { under = λ _. w.right.low }) b.places i.places)
      (omega arith) m

  -- from any front, whatever becomes of others: after five ticks a candidate that is not withdrawn again is not held back, and
  -- nothing is kept of it
  pub five_ticks : (k : ℕ) (b : Both) (es : List Event) → IsFront W b.places → AllSpare k es → AllRoomFor W A k b es
      → 5 ≤ ticks_in es → ((mark_at (leaves W A b es).places k).back ≡ false) × ((mark_at (leaves W A b es).places k).kept ≡ 0)
  five_ticks k b es i c r m = mark_free (leaves W A b es).places k (all_places k b es i c r m)

  -- and with no withdrawal at all that is so of each
  pub all_free : (b : Both) (es : List Event) → IsFront W b.places → AllCalm es → AllRoom W A b es → 5 ≤ ticks_in es
      → Every Free (leaves W A b es).places
  all_free b es i c r m =
      free_each (leaves W A b es).places (λ k. all_places k b es i (calm_spares k es c) (r k) m)
    where
      free_each : (ps : List Place) → ((k : ℕ) → Every (FreeAt k) ps) → Every Free ps
      free_each [] f = tt
      free_each (p ∷ ps) f = ((f (key p)).0.free refl, free_each ps (λ k. (f k).1))
