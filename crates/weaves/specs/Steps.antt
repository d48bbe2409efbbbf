-- What a feed names, and the lists that its updates may have left. Assumes nothing.
use Rattle.std.specs.Prelude.{◌≡◌, true, List, [], ℕ, ◌<◌}
use Rattle.std.proofs.Common.{sym, ◌∙◌}
use Rattle.std.proofs.lemmas.Bool.{false≢true}
use Rattle.routes.specs.Route.{Route, route}
use Rattle.routes.specs.Room.{mem, heads}
use Rattle.logic.specs.Bools.{or_case}
use Rattle.laws.specs.Room.{has_head, HeadsWithin}
use Rattle.candidates.specs.Keyed.{Ordered, put, Every}
use Rattle.candidates.specs.Candidate.{Candidate, candidate, key}
use Rattle.candidates.specs.Winners.{winners}
use Rattle.candidates.specs.Answers.{Update, announce, withdraw, sound}
use Rattle.rivals.specs.Won.{Good}
use Rattle.rivals.specs.Need.{heads-put}
use Rattle.rivals.specs.Updates.{announce_passes, withdraw_passes, sound_good}
use Rattle.weaves.specs.Feeds.{prefix, proper}

module _ (W : ℕ) where
  pub sound-proper : (u : Update) → sound W u ≡ true → proper W (prefix u) ≡ true
  sound-proper (announce a l h f p) e = let x = announce_passes W a l h f p e in rw (x.0.short, x.0.clean)
  sound-proper (withdraw a l f) e = let x = withdraw_passes W a l f e in rw (x.short, x.clean)

  -- the update's prefix, if it is sound, has its heads in N
  abbrev pub Names : List Route → Update → Type 0
  Names N u = sound W u ≡ true → (n z : ℕ) → has_head W n z (prefix u) ≡ true → mem z (heads W n N) ≡ true

  -- ---- a list that updates may have left, all of whose prefixes are of N

  pub record Fair (N : List Route) (cs : List Candidate) : Type 0 where
    pub ordered : Ordered key 0 cs
    pub good : Every Good cs
    pub within : HeadsWithin W N (winners cs)

  pub fair_empty : (N : List Route) → Fair N []
  fair_empty N = record { ordered = tt; good = tt; within = λ n z e. absurd (false≢true e) }

  -- lengths below 256 keep keys apart
  module _ (w : W < 256) where
    pub within_put : (N : List Route) (cs : List Candidate) (a l h f p : ℕ) → sound W (announce a l h f p) ≡ true
        → Names N (announce a l h f p) → Fair N cs
        → HeadsWithin W N (winners (put key (candidate a l f p h) cs))
    within_put N cs a l h f p s m b n z q =
        or_case (has_head W n z (route a l 0)) (mem z (heads W n (winners cs)))
        (sym (heads-put W n z (candidate a l f p h) cs (sound_good W w a l h f p s) b.good) ∙ q)
        (λ e. m s n z e)
        (λ e. b.within n z e)
