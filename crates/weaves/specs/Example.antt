-- Demand 3 is not empty: two feeds that name one prefix by different numbers, a malformed record and records with a bad number
-- among them, on a table with no array to spare. What they are answered is computed. Assumes nothing.
--
--     first    announce 10.0.0.0/9 by 1, announce it by 9 (no number), announce 0.0.0.7/40 by 2 (malformed), withdraw the /9 by 1
--     second   announce 10.0.0.0/9 by 2, announce it by 9 (no number), announce 10.0.0.0/8 by 4, withdraw the /9 by 3
use Rattle.std.specs.Prelude.{◌≡◌, refl, ◌≢◌, true, List, [], ◌∷◌, ℕ}
use Rattle.std.proofs.lemmas.Bool.{false≢true}
use Rattle.std.proofs.Common.{arith}
use Rattle.std.specs.Int.Count.{count_leading_zeros}
use Rattle.routes.specs.Room.{need_to}
use Rattle.routes.specs.Cells.{cells, shown}
use Rattle.routes.specs.Answers.{done, found, refused}
use Rattle.routes.specs.Small.{ip}
use Rattle.candidates.specs.Keyed.{Every}
use Rattle.candidates.specs.Candidate.{candidate}
use Rattle.candidates.specs.Answers.{Update, announce, withdraw, sound, target, answer, looked_up}
use Rattle.weaves.specs.Feeds.{Weave, nothing, left, right, Apart, said, kept, kept_both}

abbrev pub ten : ℕ
ten = ip 10 0 0 0

abbrev pub xs : List Update
xs = announce ten 9 5 1 10 ∷ announce ten 9 5 9 0 ∷ announce 7 40 1 2 0 ∷ withdraw ten 9 1 ∷ []

abbrev pub ys : List Update
ys = announce ten 9 6 2 5 ∷ announce ten 9 6 9 0 ∷ announce ten 8 7 4 0 ∷ withdraw ten 9 3 ∷ []

abbrev pub zs : List Update
zs =
    announce ten 9 5 1 10
    ∷ announce ten 9 6 2 5
    ∷ announce ten 9 5 9 0
    ∷ announce 7 40 1 2 0
    ∷ announce ten 9 6 9 0
    ∷ announce ten 8 7 4 0
    ∷ withdraw ten 9 1
    ∷ withdraw ten 9 3
    ∷ []

abbrev pub woven : Weave xs ys zs
woven =
    left (announce ten 9 5 1 10)
    (right (announce ten 9 6 2 5)
    (left (announce ten 9 5 9 0)
    (left (announce 7 40 1 2 0)
    (right (announce ten 9 6 9 0)
    (right (announce ten 8 7 4 0)
    (left (withdraw ten 9 1)
    (right (withdraw ten 9 3)
    nothing)))))))

-- ---- it meets what demand 3 asks

-- the number that x uses, if any, is none of the second feed's
abbrev Foreign : Update → Type 0
Foreign x = Every (λ y. sound 32 x ≡ true → sound 32 y ≡ true → (target x).feed ≢ (target y).feed) ys

-- number 1 against 2, 9, 4 and 3
one : Foreign (announce ten 9 5 1 10)
one = ((λ _ _ e. omega arith), ((λ _ _ e. omega arith), ((λ _ _ e. omega arith), ((λ _ _ e. omega arith), tt))))

gone : Foreign (withdraw ten 9 1)
gone = ((λ _ _ e. omega arith), ((λ _ _ e. omega arith), ((λ _ _ e. omega arith), ((λ _ _ e. omega arith), tt))))

-- a bad number, and a malformed record, use none
nine : Foreign (announce ten 9 5 9 0)
nine = ((λ p _ _. false≢true p), ((λ p _ _. false≢true p), ((λ p _ _. false≢true p), ((λ p _ _. false≢true p), tt))))

forty : Foreign (announce 7 40 1 2 0)
forty = ((λ p _ _. false≢true p), ((λ p _ _. false≢true p), ((λ p _ _. false≢true p), ((λ p _ _. false≢true p), tt))))

pub apart : Apart 32 xs ys
apart = (one, (nine, (forty, (gone, tt))))

-- ---- computed: only cells differ

pub heard-both : said 32 2 zs
    ≡ done 5 128 ∷ done 6 128 ∷ refused 10 ∷ refused 3 ∷ refused 10 ∷ done 7 1 ∷ done 5 0 ∷ refused 7 ∷ []
unfolding answer cells shown need_to
heard-both = refl

pub heard_first : said 32 2 xs ≡ done 5 128 ∷ refused 10 ∷ refused 3 ∷ done 5 128 ∷ []
unfolding answer cells shown need_to
heard_first = refl

pub heard-second : said 32 2 ys ≡ done 6 128 ∷ refused 10 ∷ done 7 1 ∷ refused 7 ∷ []
unfolding answer cells shown need_to
heard-second = refl

pub list_both : kept 32 2 zs ≡ candidate ten 8 4 0 7 ∷ candidate ten 9 2 5 6 ∷ []
unfolding answer cells shown need_to
list_both = refl

pub list_first : kept 32 2 xs ≡ []
unfolding answer cells shown need_to
list_first = refl

pub list_joined : kept_both 32 2 xs ys ≡ candidate ten 8 4 0 7 ∷ candidate ten 9 2 5 6 ∷ []
unfolding answer cells shown need_to
list_joined = refl

-- 10.64.0.1 goes by the second feed's 10.0.0.0/9
pub looked : looked_up 32 (kept 32 2 zs) (ip 10 64 0 1) ≡ found 6 9 9
unfolding answer cells shown need_to count_leading_zeros
looked = refl
