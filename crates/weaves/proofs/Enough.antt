-- Reply room enough: a run that does not stop for want of it runs as with any more room. Five bytes for each record are enough.
-- Assumes nothing.
use Rattle.std.specs.Prelude.{◌≡◌, refl, ◌≢◌, List, [], ◌∷◌, ◌++◌, ℕ, zero, suc, ◌+◌, ◌*◌, ◌≤◌, length, get_or, ltb, leb, eqb}
use Rattle.std.proofs.Common.{sym, ap, ◌∙◌, arith, le-ltb}
use Rattle.logic.specs.Cases.{bool, same, less}
use Rattle.routes.specs.Family.{Family, is_unknown}
use Rattle.candidates.specs.Candidate.{Candidate}
use Rattle.candidates.specs.Bytes.{Sent, all_bytes, AllFit}
use Rattle.candidates.specs.Runs.{State, size, role_at, halts, Ran, decide, taken, runs, fresh, run}
use Rattle.encoded.specs.Encoded.{ended}
use Rattle.weaves.specs.Feeds.{Closes}
use Rattle.weaves.specs.Enough.{closed, run-roomy}

-- the tests find the same with more room, unless they find too little
halts_more : (F : Family) (feed : List ℕ) (room more at out : ℕ) → room ≤ more → halts F feed room at out ≢ 4
    → halts F feed more at out ≡ halts F feed room at out
unfolding halts
halts_more F feed room more at out h n =
    bool (leb (length feed) at) (λ e. rw e) (λ e.
    bool (is_unknown (role_at F feed at)) (λ d. rw (e, d)) (λ d.
    bool (ltb (length feed) (at + size F (role_at F feed at))) (λ c. rw (e, d, c)) (λ c.
    bool (eqb (get_or feed at 0) 0) (λ b. rw (e, d, c, b)) (λ b.
    less room (out + 5)
    (λ l a. absurd (n (rw (e, d, c, b, a))))
    (λ l a. rw (e, d, c, b, a, le-ltb more (out + 5) (omega arith)))))))

-- a stop that is found is the run's
decide_stop : (h : ℕ) (s : State) (on : Ran) → (decide h s on).stop ≢ 4 → h ≢ 4
decide_stop h s on n e = n (rw e)

runs_more : (F : Family) (n A : ℕ) (feed : List ℕ) (room more : ℕ) (s : State) → room ≤ more → (runs F n A feed room s).stop ≢ 4
    → runs F n A feed more s ≡ runs F n A feed room s
unfolding runs
runs_more F zero A feed room more s h q = refl
runs_more F (suc n) A feed room more s h q =
    let z = halts_more F feed room more s.consumed (length s.replies) h (decide_stop _ s _ q) in
    same (halts F feed room s.consumed (length s.replies)) 5
    (λ e d. rw (z, d) (runs_more F n A feed room more (taken F A feed s) h (rw d at q)))
    (λ e d. rw (z, d))

-- ---- a feed of records, and what may follow them

module _ (F : Family) (A : ℕ) (cs : List Candidate) (xs : List Sent) (f : AllFit F xs) where
  pub run_enough : (t : List ℕ) → Closes t → (room : ℕ) → (run F A cs (all_bytes F xs ++ t) room).stop ≢ 4
      → run F A cs (all_bytes F xs ++ t) room ≡ closed t (ended F A (fresh cs) xs)
  run_enough t c room n =
      sym (runs_more F _ A (all_bytes F xs ++ t) room (room + 5 * length xs) (fresh cs) (omega arith) n)
      ∙ run-roomy F A cs xs f t c (room + 5 * length xs) (omega arith)

  -- five bytes for each record are enough
  pub enough : (t : List ℕ) → Closes t → (room : ℕ) → 5 * length xs ≤ room → (run F A cs (all_bytes F xs ++ t) room).stop ≢ 4
  enough t c room h e = never t (ap (λ (o : Ran). o.stop) (sym (run-roomy F A cs xs f t c room h)) ∙ e)
    where
      never : (t : List ℕ) → (closed t (ended F A (fresh cs) xs)).stop ≢ 4
      never [] e = omega arith
      never (k ∷ t) e = omega arith
