-- An interleaving is a list of records of which each is marked with the feed that it comes from: the unmarked ones in order are
-- the first feed, the marked ones in order the second. Every marked list gives one, and each comes from one. Assumes nothing.
--
--     x₁ y₁• x₂ x₃ y₂•        first  x₁ x₂ x₃        second  y₁ y₂        all  x₁ y₁ x₂ x₃ y₂
use Rattle.std.specs.Prelude.{◌≡◌, refl, Bool, true, false, cond, List, [], ◌∷◌}
use Rattle.std.proofs.Common.{ap}
use Rattle.logic.specs.Cases.{bool}
use Rattle.candidates.specs.Answers.{Update}
use Rattle.weaves.specs.Feeds.{Weave, nothing, left, right}

pub record Marked : Type 0 where
  pub second : Bool
  pub sent : Update

abbrev pub firsts : List Marked → List Update
firsts [] = []
firsts (m ∷ ms) = cond m.second (firsts ms) (m.sent ∷ firsts ms)

abbrev pub seconds : List Marked → List Update
seconds [] = []
seconds (m ∷ ms) = cond m.second (m.sent ∷ seconds ms) (seconds ms)

abbrev pub all : List Marked → List Update
all [] = []
all (m ∷ ms) = m.sent ∷ all ms

pub woven : (ms : List Marked) → Weave (firsts ms) (seconds ms) (all ms)
woven [] = nothing
woven (m ∷ ms) = bool m.second (λ e. rw e (right m.sent (woven ms))) (λ e. rw e (left m.sent (woven ms)))

-- ms marks zs, and xs and ys are its two parts
pub record Marks (xs ys zs : List Update) (ms : List Marked) : Type 0 where
  pub first : firsts ms ≡ xs
  pub second : seconds ms ≡ ys
  pub whole : all ms ≡ zs

abbrev pub mark : {xs ys zs : List Update} → Weave xs ys zs → List Marked
mark nothing = []
mark (left x w) = record { second = false; sent = x } ∷ mark w
mark (right y w) = record { second = true; sent = y } ∷ mark w

pub marks : {xs ys zs : List Update} (w : Weave xs ys zs) → Marks xs ys zs (mark w)
marks nothing = record { first = refl; second = refl; whole = refl }
marks (left x w) = record { first = ap (◌∷◌ x) (marks w).first; second = (marks w).second; whole = ap (◌∷◌ x) (marks w).whole }
marks (right y w) = record { first = (marks w).first; second = ap (◌∷◌ y) (marks w).second; whole = ap (◌∷◌ y) (marks w).whole }
