-- The tests before a record of a run through a front, and the run by what they find. Assumes nothing.
use Rattle.std.specs.Prelude.{◌≡◌, refl, ◌≢◌, true, false, cond, List, ℕ, zero, suc, ◌+◌, ◌≤◌, ◌<◌, length, get_or, eqb}
use Rattle.std.proofs.Common.{sym, ap, ◌∙◌, true≢false, arith}
use Rattle.std.proofs.Math.ListN.{get_or-eq_default}
use borrow.Author.Tests.{lt-ltb, le-ltb, eqb-true, ne_eqb}
use Rattle.logic.specs.Cases.{bool, less, most}
use Rattle.routes.specs.Family.{v4}
use Rattle.candidates.specs.Runs.{role_at}
use Rattle.candidates.specs.Runs as told
use Rattle.encoded.specs.Turns as plain
use Rattle.front.specs.Runs.{State, tick_kind, ticks_at, size_at, halts, decide, turn, finish, runs}

module _ (feed : List ℕ) (at : ℕ) where
  -- where a tick begins there is a byte
  pub tick_there : ticks_at feed at ≡ true → at < length feed
  tick_there t =
      most (length feed) at
      (λ h _. absurd (omega (arith, eqb-true (get_or feed at 0) tick_kind t, get_or-eq_default feed 0 h)))
      (λ h _. h)

  pub size_pos : 1 ≤ size_at feed at
  size_pos = bool (ticks_at feed at) (λ t. rw t (omega arith)) (λ t. rw t (plain.size_pos v4 (role_at v4 feed at)))

-- no test stops the run
pub record Clear (feed : List ℕ) (room at out : ℕ) : Type 0 where
  pub body : at + size_at feed at ≤ length feed
  pub free : out + 5 ≤ room
  pub plain : ticks_at feed at ≡ false → plain.Clear v4 feed room at out

module _ (feed : List ℕ) (room at out : ℕ) where
  pub halts-plain : ticks_at feed at ≡ false → halts feed room at out ≡ told.halts v4 feed room at out
  unfolding halts
  halts-plain t = rw t

  pub halts-full : ticks_at feed at ≡ true → room < out + 5 → halts feed room at out ≡ 4
  unfolding halts
  halts-full t h = rw (t, lt-ltb room (out + 5) h)

  pub halts_tick : ticks_at feed at ≡ true → out + 5 ≤ room → halts feed room at out ≡ 5
  unfolding halts
  halts_tick t h = rw (t, le-ltb room (out + 5) h)

  pub halts_none : length feed ≤ at → halts feed room at out ≡ 1
  halts_none h =
      bool (ticks_at feed at)
      (λ t. absurd (omega (arith, tick_there feed at t)))
      (λ t. rw (halts-plain t) (plain.halts_1 v4 feed room at out h))

  pub halts_clear : halts feed room at out ≡ 5 → Clear feed room at out
  halts_clear e =
      bool (ticks_at feed at)
      (λ t. less room (out + 5)
      (λ h _. absurd (omega (arith, halts-full t h)))
      (λ h _. record { body = rw t (omega (arith, tick_there feed at t)); free = h; plain = λ f. absurd (both t f) }))
      (λ t. (let c = plain.halts_clear v4 feed room at out (sym (halts-plain t) ∙ e) in
      record { body = rw t c.body; free = c.free; plain = λ _. c }))
    where
      both : ticks_at feed at ≡ true → ticks_at feed at ≡ false → ⊥
      both t f = true≢false (sym t ∙ f)

module _ (n A : ℕ) (feed : List ℕ) (room : ℕ) (s : State) where
  pub runs_on : halts feed room s.consumed (length s.replies) ≡ 5
      → runs (suc n) A feed room s ≡ runs n A feed room (turn A feed s)
  unfolding runs
  runs_on e = rw e

  pub runs_stop : (k : ℕ) → halts feed room s.consumed (length s.replies) ≡ k → k ≢ 5
      → runs (suc n) A feed room s ≡ record { stop = k; end = cond (eqb k 0) (finish s) s }
  unfolding runs
  runs_stop k e m = rw (e, ne_eqb k 5 m)

-- a run at the feed's end needs no record more
pub runs_end : (n A : ℕ) (feed : List ℕ) (room : ℕ) (s : State) → length feed ≤ s.consumed
    → runs n A feed room s ≡ record { stop = 1; end = s }
unfolding runs
runs_end zero A feed room s h = refl
runs_end (suc n) A feed room s h = rw (halts_none feed room s.consumed (length s.replies) h)

-- more than the bytes left is as good as the bytes left
pub runs_enough : (n m A : ℕ) (feed : List ℕ) (room : ℕ) (s : State) → length feed ≤ s.consumed + n
    → length feed ≤ s.consumed + m → runs n A feed room s ≡ runs m A feed room s
unfolding runs
runs_enough zero zero A feed room s h k = refl
runs_enough zero (suc m) A feed room s h k = sym (runs_end (suc m) A feed room s (omega arith))
runs_enough (suc n) zero A feed room s h k = runs_end (suc n) A feed room s (omega arith)
runs_enough (suc n) (suc m) A feed room s h k =
    let p = size_pos feed s.consumed in
    ap (decide (halts feed room s.consumed (length s.replies)) s)
    (runs_enough n m A feed room (turn A feed s) (omega arith) (omega arith))
