-- What two feeds name holds what each names, and a list whose prefixes are all named stays so and is answered by its hop alone.
-- Assumes nothing.
use Rattle.std.specs.Prelude.{◌≡◌, List, [], ◌∷◌, ◌++◌, ℕ, ◌-◌, ◌/◌, ◌≤◌, ◌<◌}
use Rattle.std.proofs.Common.{◌∙◌, arith}
use Rattle.routes.specs.Route.{Route}
use Rattle.routes.specs.Room.{need}
use Rattle.routes.specs.Answers.{is_done}
use Rattle.logic.specs.Cases.{bool}
use Rattle.logic.specs.Bools.{or_left}
use Rattle.laws.specs.Room.{has_head, mem-heads, HeadsWithin, need_le, mem_skip, heads_first, heads-second}
use Rattle.candidates.specs.Keyed.{put, Every}
use Rattle.candidates.specs.Candidate.{Candidate, candidate, place, key}
use Rattle.candidates.specs.Winners.{winners}
use Rattle.candidates.specs.Answers.{Update, announce, withdraw, answer, after, plain}
use Rattle.rivals.specs.Maps.{every_map}
use Rattle.rivals.specs.Need.{heads_cut}
use Rattle.rivals.specs.Updates.{done_sound, after_ordered, after_good, Roomy}
use Rattle.rivals.specs.Updates.{plainly, held_for, answer-plain}
use Rattle.weaves.specs.Feeds.{prefix, proper, named}
use Rattle.weaves.specs.Steps.{sound-proper, Names, Fair, within_put}

module _ (W : ℕ) where
  own_names : (us : List Update) → Every (Names W (named W us)) us
  own_names [] = tt
  own_names (u ∷ us) = (
    (λ e n z h. rw (sound-proper W u e) (mem-heads W n z (prefix u) (named W us) ∙ or_left (has_head W n z (prefix u)) _ h)),
    every_map (Names W (named W us)) (Names W (named W (u ∷ us)))
        (λ x m p n z h. bool (proper W (prefix u)) (λ e. rw e (mem_skip W n z (prefix u) (named W us) (m p n z h)))
        (λ e. rw e (m p n z h))) us (own_names us),
  )

  -- what a feed names stands in what two feeds name
  pub names_first : (xs ys : List Update) → Every (Names W (named W xs ++ named W ys)) xs
  names_first xs ys =
      every_map (Names W (named W xs)) (Names W (named W xs ++ named W ys))
      (λ u m p n z h. heads_first W (named W xs) (named W ys) n z (m p n z h)) xs (own_names xs)

  pub names_second : (xs ys : List Update) → Every (Names W (named W xs ++ named W ys)) ys
  names_second xs ys =
      every_map (Names W (named W ys)) (Names W (named W xs ++ named W ys))
      (λ u m p n z h. heads-second W (named W xs) (named W ys) n z (m p n z h)) ys (own_names ys)

  -- lengths below 256 keep keys apart
  module _ (w : W < 256) where
    pub after_fair : (A : ℕ) (N : List Route) (cs : List Candidate) (u : Update) → Names W N u → Fair W N cs
        → Fair W N (after W A cs u)
    after_fair A N cs u m b =
        record { ordered = after_ordered W A cs u b.ordered; good = after_good W w A cs u b.good; within = of u m }
      where
        of : (u : Update) → Names W N u → HeadsWithin W N (winners (after W A cs u))
        of (announce a l h f p) m =
            bool (is_done (answer W A cs (announce a l h f p)))
            (λ e. rw e (within_put W w N cs a l h f p (done_sound W A cs (announce a l h f p) e) m b)) (λ e. rw e b.within)
        of (withdraw a l f) m =
            bool (is_done (answer W A cs (withdraw a l f)))
            (λ e. rw e (λ n z q. b.within n z (heads_cut W (place a l f) cs b.good n z q))) (λ e. rw e b.within)

    roomy : (A : ℕ) (N : List Route) (cs : List Candidate) (u : Update) → need W N ≤ A → Names W N u → Fair W N cs
        → Roomy W A cs u
    roomy A N cs (announce a l h f p) r m b =
        λ s. (
        let i = need_le W N (winners (put key (candidate a l f p h) cs)) (within_put W w N cs a l h f p s m b) (W / 8 - 1) in
        omega arith
        )
    roomy A N cs (withdraw a l f) r m b = tt

    pub fair_plain : (A : ℕ) (N : List Route) (cs : List Candidate) (u : Update) → need W N ≤ A → Names W N u → Fair W N cs
        → plain (answer W A cs u) ≡ plainly W (held_for W cs u) u
    fair_plain A N cs u r m b = answer-plain W w A cs u b.good (roomy A N cs u r m b)
