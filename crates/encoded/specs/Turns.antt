-- The tests before a record of a family, and a run by what they find. Assumes nothing.
use Rattle.std.specs.Prelude.{◌≡◌, refl, ◌≢◌, Bool, true, false, cond, List, ℕ, zero, suc, ◌+◌, ◌≤◌, ◌<◌, length, get_or, eqb}
use Rattle.std.proofs.Common.{sym, ap, arith}
use borrow.Author.Tests.{lt-ltb, le-ltb, le-leb, lt-leb, ne_eqb}
use Rattle.logic.specs.Cases.{bool, same, less, most}
use Rattle.routes.specs.Family.{Family, Role, ending, announcing, withdrawing, looking, announcing_for, withdrawing_for, unknown}
use Rattle.routes.specs.Family.{is_unknown}
use Rattle.candidates.specs.Runs.{State, size, tally, finish, role_at, halts, decide, taken, runs}

pub size_pos : (F : Family) (r : Role) → 1 ≤ size F r
size_pos F ending = omega arith
size_pos F announcing = omega arith
size_pos F withdrawing = omega arith
size_pos F looking = omega arith
size_pos F announcing_for = omega arith
size_pos F withdrawing_for = omega arith
size_pos F unknown = omega arith

-- a count beside those that follow it
pub tally-count : (b : Bool) (m n : ℕ) → tally b m + n ≡ m + (cond b 1 0 + n)
tally-count true m n = omega arith
tally-count false m n = omega arith

-- no test stops the run
pub record Clear (F : Family) (feed : List ℕ) (room at out : ℕ) : Type 0 where
  pub known : is_unknown (role_at F feed at) ≡ false
  pub body : at + size F (role_at F feed at) ≤ length feed
  pub more : 1 ≤ get_or feed at 0
  pub free : out + 5 ≤ room

module _ (F : Family) (feed : List ℕ) (room at out : ℕ) where
  pub halts_1 : length feed ≤ at → halts F feed room at out ≡ 1
  unfolding halts
  halts_1 h = rw (le-leb (length feed) at h)

  pub halts_2 : at < length feed → is_unknown (role_at F feed at) ≡ true → halts F feed room at out ≡ 2
  unfolding halts
  halts_2 l h = rw (lt-leb (length feed) at l, h)

  pub halts_3 : at < length feed → is_unknown (role_at F feed at) ≡ false → length feed < at + size F (role_at F feed at)
      → halts F feed room at out ≡ 3
  unfolding halts
  halts_3 l k h = rw (lt-leb (length feed) at l, k, lt-ltb (length feed) (at + size F (role_at F feed at)) h)

  pub halts_0 : at < length feed → get_or feed at 0 ≡ 0 → halts F feed room at out ≡ 0
  unfolding halts
  halts_0 l h = rw (lt-leb (length feed) at l, h, le-ltb (length feed) (at + 1) (omega arith))

  pub halts_4 : is_unknown (role_at F feed at) ≡ false → at + size F (role_at F feed at) ≤ length feed → 1 ≤ get_or feed at 0
      → room < out + 5 → halts F feed room at out ≡ 4
  unfolding halts
  halts_4 k b m h =
      rw (
        lt-leb (length feed) at (omega (arith, size_pos F (role_at F feed at))),
        k,
        le-ltb (length feed) (at + size F (role_at F feed at)) b,
        ne_eqb (get_or feed at 0) 0 (λ e. omega arith),
        lt-ltb room (out + 5) h,
      )

  pub clear_halts : Clear F feed room at out → halts F feed room at out ≡ 5
  unfolding halts
  clear_halts c =
      rw (
        lt-leb (length feed) at (omega (arith, size_pos F (role_at F feed at))),
        c.known,
        le-ltb (length feed) (at + size F (role_at F feed at)) c.body,
        ne_eqb (get_or feed at 0) 0 (λ e. omega arith),
        le-ltb room (out + 5) c.free,
      )

  pub halts_clear : halts F feed room at out ≡ 5 → Clear F feed room at out
  halts_clear e =
      most (length feed) at (λ h _. absurd (omega (arith, halts_1 h))) (λ l _.
      bool (is_unknown (role_at F feed at)) (λ h. absurd (omega (arith, halts_2 l h))) (λ k.
      less (length feed) (at + size F (role_at F feed at)) (λ h _. absurd (omega (arith, halts_3 l k h))) (λ b _.
      same (get_or feed at 0) 0 (λ h _. absurd (omega (arith, halts_0 l h))) (λ m _.
      less room (out + 5) (λ h _. absurd (omega (arith, halts_4 k b (omega arith) h))) (λ f _.
      record { known = k; body = b; more = omega arith; free = f })))))

module _ (F : Family) (n A : ℕ) (feed : List ℕ) (room : ℕ) (s : State) where
  pub runs_on : halts F feed room s.consumed (length s.replies) ≡ 5
      → runs F (suc n) A feed room s ≡ runs F n A feed room (taken F A feed s)
  unfolding runs
  runs_on e = rw e

  pub runs_stop : (k : ℕ) → halts F feed room s.consumed (length s.replies) ≡ k → k ≢ 5
      → runs F (suc n) A feed room s ≡ record { stop = k; end = cond (eqb k 0) (finish s) s }
  unfolding runs
  runs_stop k e m = rw (e, ne_eqb k 5 m)

-- a run at the feed's end needs no record more
pub runs_end : (F : Family) (n A : ℕ) (feed : List ℕ) (room : ℕ) (s : State) → length feed ≤ s.consumed
    → runs F n A feed room s ≡ record { stop = 1; end = s }
unfolding runs
runs_end F zero A feed room s h = refl
runs_end F (suc n) A feed room s h = rw (halts_1 F feed room s.consumed (length s.replies) h)

-- more than the bytes left is as good as the bytes left
pub runs_enough : (F : Family) (n m A : ℕ) (feed : List ℕ) (room : ℕ) (s : State) → length feed ≤ s.consumed + n
    → length feed ≤ s.consumed + m → runs F n A feed room s ≡ runs F m A feed room s
unfolding runs
runs_enough F zero zero A feed room s h k = refl
runs_enough F zero (suc m) A feed room s h k = sym (runs_end F (suc m) A feed room s (omega arith))
runs_enough F (suc n) zero A feed room s h k = runs_end F (suc n) A feed room s (omega arith)
runs_enough F (suc n) (suc m) A feed room s h k =
    let p = size_pos F (role_at F feed s.consumed) in
    ap (decide (halts F feed room s.consumed (length s.replies)) s)
    (runs_enough F n m A feed room (taken F A feed s) (omega arith) (omega arith))
