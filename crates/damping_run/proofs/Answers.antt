-- Records and ticks answered by their calls, and what the feed's bytes say of the one that is next. Assumes nothing.
use mathlib.Core.Path.{◌≡◌, ◌∙◌}
use mathlib.Core.Bool.{Bool, false, cond}
use mathlib.Core.List.{List}
use Prim.Native.Nat.{ℕ, ◌+◌, ◌≤◌, ◌<◌}
use native.Mathlib.Omega.{arith}
use lib.ListN.{length, get_or}
use Rattle.std.specs.Prelude.{Option, Some}
use borrow.Author.Tests.{eq-eqb, ne_eqb, eqb-true, le-ltb, lt-leb}
use Rattle.logic.specs.Nonzero.{nonzero}
use Rattle.feed.specs.Progress.{size_known, halts_before, halts_as}
use Rattle.logic.specs.Cases.{bool}
use Rattle.numbers.specs.Digits.{two_at, four_at}
use Rattle.numbers.specs.Four.{four_at_lem}
use Rattle.routes.specs.Family.{v4, Role, is_unknown}
use Rattle.routes.specs.Answers.{Reply, done, is_done}
use Rattle.candidates.specs.Answers.{announce, withdraw}
use Rattle.candidates.specs.Runs.{size, role_at}
use Rattle.candidates.specs.Seen.{lookup_on}
use Rattle.encoded.specs.Turns as plain
use Rattle.words.specs.Table.{seen}
use Rattle.replies.specs.Said.{said_reply}
use Rattle.replies.specs.declared.Reply as code
use Rattle.lookup.specs.Walk.{walk}
use Rattle.feed.specs.Turns.{announce_at, withdraw_at, lookup_at}
use Rattle.front.specs.Front.{asks, accepts}
use Rattle.front.specs.Runs.{tick_kind, ticks_at, event_at, size_at, halts}
use Rattle.restraint.specs.Turns.{Clear, tick_there}
use Rattle.damping.specs.Locally.{HasDampedLocally}
use Rattle.damping.specs.Tick.{TickedLocally}
use Rattle.damping_run.specs.Locally.{AskedLocally, updated, looked, ticked}
use Rattle.damping_run.specs.Turns.{bytes_of, Asks}

-- ---- the calls: each answer is its promise's

module _ (fs ws gs vs : List ℕ) (r : code.Reply) (feed : List ℕ) (i : ℕ) where
  pub asked_announce : (a l h f p : ℕ) → i + 1 + 4 ≤ length feed → a ≡ four_at feed (i + 1) → l ≡ get_or feed (i + 1 + 4) 0
      → h ≡ two_at feed (i + 1 + 4 + 1) → HasDampedLocally fs ws gs vs (announce a l h f p) r
      → AskedLocally fs ws (asks (announce_at 4 feed i f p)) (said_reply r) gs vs
  asked_announce a l h f p b ea el eh x = rw (four_at_lem feed (i + 1) b, ← ea, ← el, ← eh) (updated r x)

  pub asked_withdraw : (a l f : ℕ) → i + 1 + 4 ≤ length feed → a ≡ four_at feed (i + 1) → l ≡ get_or feed (i + 1 + 4) 0
      → HasDampedLocally fs ws gs vs (withdraw a l f) r → AskedLocally fs ws (asks (withdraw_at 4 feed i f)) (said_reply r) gs vs
  asked_withdraw a l f b ea el x = rw (four_at_lem feed (i + 1) b, ← ea, ← el) (updated r x)

pub asked_lookup : (fs ws : List ℕ) (r : code.Reply) (feed : List ℕ) (i a : ℕ) → i + 1 + 4 ≤ length feed
    → a ≡ four_at feed (i + 1) → said_reply r ≡ lookup_on 32 (seen 4 ws) (walk 4 ws a) a
    → AskedLocally fs ws (asks (lookup_at 4 feed i)) (said_reply r) fs ws
asked_lookup fs ws r feed i a b e p = rw (four_at_lem feed (i + 1) b, ← e) (looked r p)

-- ---- by the role

module _ (r : Role) (fs ws feed : List ℕ) (i : ℕ) (known : Bool) (h : Asks r fs ws feed i known) where
  pub asks_body : (s : Role) → r ≡ s → i + size v4 s ≤ length feed
  asks_body s e = rw e at h.body

-- ---- by the kind

module _ (fs ws gs vs feed : List ℕ) (i : ℕ) where
  pub asked_tick : get_or feed i 0 ≡ tick_kind → TickedLocally fs ws gs vs → AskedLocally fs ws (event_at feed i) (done 0 0) gs vs
  asked_tick e t = rw (eq-eqb (get_or feed i 0) tick_kind e) (ticked t)

-- ---- the tests before it

module _ (feed : List ℕ) (room at out : ℕ) where
  -- those that any run makes, by the bytes of the kind
  pub halts_through : (n : Option ℕ) → (at < length feed → n ≡ nonzero (bytes_of (get_or feed at 0)))
      → halts_before feed room at out n ≡ halts feed room at out
  unfolding halts
  halts_through n q =
      bool (ticks_at feed at)
      (λ t. (let l = tick_there feed at t in
      let k : get_or feed at 0 ≡ 9 = eqb-true (get_or feed at 0) tick_kind t in
      let s : n ≡ Some 1 = q l ∙ rw t in
      rw (t, s, lt-leb (length feed) at l, le-ltb (length feed) (at + 1) (omega arith), k)))
      (λ t. rw t (halts_as v4 feed room at out n (λ l. q l ∙ rw t (sized (role_at v4 feed at)))))
    where
      sized : (r : Role) → nonzero (cond (is_unknown r) 0 (size v4 r)) ≡ size_known v4 r
      sized r =
          bool (is_unknown r)
          (λ u. rw u)
          (λ u. rw (u, ne_eqb (size v4 r) 0 (omega (arith, plain.size_pos v4 r))))

  pub size-told : (n : ℕ) → n ≡ bytes_of (get_or feed at 0) → Clear feed room at out → n ≡ size_at feed at
  size-told n e c =
      bool (ticks_at feed at)
      (λ t. rw t (e ∙ rw t))
      (λ t. rw t (e ∙ rw (t, (c.plain t).known)))

-- ---- the counts

-- a tick is no update
pub accepts_at : (feed : List ℕ) (i : ℕ) (y : Reply) → cond (ticks_at feed i) false (is_done y) ≡ accepts (event_at feed i) y
accepts_at feed i y = bool (ticks_at feed i) (λ t. rw t) (λ t. rw t)
