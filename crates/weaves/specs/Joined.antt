-- A joint list is followed beside the list of one feed alone: at that feed's numbers the two hold the same candidates, and at no
-- other does the feed's own list hold any. And lists joined. Assumes nothing.
use Rattle.std.specs.Prelude.{◌≡◌, refl, Bool, true, false, List, [], ◌∷◌, ℕ, ◌≤◌, ◌<◌}
use Rattle.std.proofs.Common.{sym, ◌∙◌, arith}
use Rattle.std.proofs.Math.Option.{none, some, none-ne-some}
use Rattle.routes.specs.Route.{Route}
use Rattle.routes.specs.Room.{need}
use Rattle.logic.specs.Cases.{same}
use Rattle.candidates.specs.Keyed.{Ordered, find}
use Rattle.candidates.specs.Candidate.{Candidate, key}
use Rattle.candidates.specs.Answers.{Update, sound}
use Rattle.rivals.specs.Maps.{put_ordered, put_same, put_other}
use Rattle.rivals.specs.Updates.{at}
use Rattle.weaves.specs.Feeds.{join}
use Rattle.weaves.specs.Steps.{Names, Fair, fair_empty}

-- ---- a joint run beside the run of one of its feeds

-- N is all that is named, and it fits; `mine` tells the keys of the feed from those of the other
module _ (W : ℕ) (w : W < 256) (A : ℕ) (N : List Route) (fits : need W N ≤ A) (mine : ℕ → Bool) where
  -- an update of the feed, b true, or of the other, b false
  pub record Owned (b : Bool) (u : Update) : Type 0 where
    pub names : Names W N u
    pub owner : sound W u ≡ true → mine (at u) ≡ b

  -- the joint list js beside the feed's own list ss
  pub record Beside (js ss : List Candidate) : Type 0 where
    pub joint : Fair W N js
    pub alone : Fair W N ss
    pub own : (k : ℕ) → mine k ≡ true → find key js k ≡ find key ss k
    pub others : (k : ℕ) → mine k ≡ false → find key ss k ≡ none

  pub beside_empty : Beside [] []
  beside_empty = record { joint = fair_empty W N; alone = fair_empty W N; own = λ k e. refl; others = λ k e. refl }

-- ---- joined lists

pub join_same : (xs ys : List Candidate) (k : ℕ) (c : Candidate) → find key xs k ≡ some c → find key (join xs ys) k ≡ some c
join_same [] ys k c e = absurd (none-ne-some c e)
join_same (x ∷ xs) ys k c e =
    same (key x) k
    (λ q d. rw (← q) (put_same key x (join xs ys)) ∙ rw d at e)
    (λ n d. put_other key x (join xs ys) k n ∙ join_same xs ys k c (rw d at e))

pub join_other : (xs ys : List Candidate) (k : ℕ) → find key xs k ≡ none → find key (join xs ys) k ≡ find key ys k
join_other [] ys k e = refl
join_other (x ∷ xs) ys k e =
    same (key x) k
    (λ q d. absurd (none-ne-some x (sym (rw d at e))))
    (λ n d. put_other key x (join xs ys) k n ∙ join_other xs ys k (rw d at e))

pub join_ordered : (xs ys : List Candidate) → Ordered key 0 ys → Ordered key 0 (join xs ys)
join_ordered [] ys f = f
join_ordered (x ∷ xs) ys f = put_ordered key 0 x (join xs ys) (omega arith) (join_ordered xs ys f)
