-- A list of candidates that fits goes on to fit. Assumes nothing.
use Rattle.std.specs.Prelude.{◌≡◌, List, ℕ, ◌+◌, ◌*◌, ◌≤◌, ◌<◌}
use Rattle.std.proofs.Math.Path.{ap}
use Rattle.std.proofs.Common.{sym, ◌∙◌, arith}
use Rattle.std.proofs.Math.Bool.{true, false}
use borrow.Author.Tests.{ltb-false}
use Rattle.routes.specs.Route.{route, insert, hop_at}
use Rattle.routes.specs.Room.{need}
use Rattle.routes.specs.Answers.{is_done, lacking}
use Rattle.logic.specs.Cases.{bool, same}
use Rattle.laws.specs.Replies.{passed}
use Rattle.candidates.specs.Keyed.{put, Every}
use Rattle.candidates.specs.Candidate.{Candidate, candidate, place, key}
use Rattle.candidates.specs.Winners.{winners}
use Rattle.candidates.specs.Answers.{Update, announce, withdraw, verdict, answer, after}
use Rattle.rivals.specs.Won.{Good, winners_hop}
use Rattle.rivals.specs.Need.{asked, need-held, need_cut}
use Rattle.rivals.specs.Updates.{faulty-sound, done_sound, sound_good}

-- lengths below 256 keep keys apart
module _ (W : ℕ) (w : W < 256) where
  -- an accepted announcement has room, where the list fits
  pub done_room : (A : ℕ) (cs : List Candidate) (a l h f p : ℕ) → Every Good cs → need W (winners cs) ≤ A
      → is_done (answer W A cs (announce a l h f p)) ≡ true
      → need W (winners (put key (candidate a l f p h) cs)) ≤ A
  unfolding answer
  done_room A cs a l h f p q n e =
      let s = done_sound W A cs (announce a l h f p) e in
      let g = sound_good W w a l h f p s in
      let y = faulty-sound W (announce a l h f p) (verdict W A cs (announce a l h f p)) s in
      let v : is_done (verdict W A cs (announce a l h f p)) ≡ true = ap is_done (sym y) ∙ e in
      let k : lacking W A (winners cs) a l h ≡ false = (passed 8 (lacking W A (winners cs) a l h) _ v).0 in
      same (hop_at (winners cs) (a * 256 + l)) 0
      (λ z t. rw (← (asked W (candidate a l f p h) cs h g.pos g q))
      (ltb-false A (need W (insert (route a l h) (winners cs))) (rw t at k)))
      (λ z t. omega (arith, n, need-held W (candidate a l f p h) cs g q (λ y. z (winners_hop cs (a * 256 + l) ∙ y))))

  -- a list that fits goes on to fit
  pub after-fits : (A : ℕ) (cs : List Candidate) (u : Update) → Every Good cs → need W (winners cs) ≤ A
      → need W (winners (after W A cs u)) ≤ A
  after-fits A cs (announce a l h f p) q n =
      bool (is_done (answer W A cs (announce a l h f p))) (λ e. rw e (done_room A cs a l h f p q n e)) (λ e. rw e n)
  after-fits A cs (withdraw a l f) q n =
      bool (is_done (answer W A cs (withdraw a l f))) (λ e. rw e (omega (arith, n, need_cut W (place a l f) cs q)))
      (λ e. rw e n)
