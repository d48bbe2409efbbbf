-- The example meets what demand 3 asks, so it holds of it, of records and of bytes. Assumes nothing.
use Rattle.std.specs.Prelude.{◌≡◌, refl, List, [], ◌∷◌, ℕ, ◌^◌, ◌<◌}
use Rattle.std.proofs.Common.{arith, lit<, lit≤}
use Rattle.numbers.specs.Digits.{digits}
use Rattle.numbers.specs.Number.{number}
use Rattle.routes.specs.Family.{v4}
use Rattle.routes.specs.Room.{need_to}
use Rattle.routes.specs.Cells.{cells, shown}
use Rattle.routes.specs.Answers.{done, refused}
use Rattle.candidates.specs.Answers.{answer}
use Rattle.candidates.specs.Bytes.{Sent, withdraws, announces_for, withdraws_for, TailFits, Fits, AllFit}
use Rattle.candidates.specs.Runs.{runs, halts}
use Rattle.weaves.specs.Feeds.{Meets, Independent}
use Rattle.weaves.specs.Fed.{Fed, replied, Together}
use Rattle.weaves.specs.Example.{ten, xs, ys, zs, woven, apart}
use Rattle.weaves.proofs.Joined.{demand_3_ipv4}
use Rattle.weaves.proofs.Fed.{roomy, demand_3_fed}

-- two arrays: the root, and one for what begins with 10
meets : Meets 32 2 xs ys
unfolding need_to
meets = record { apart = apart; room = omega arith }

pub independent : Independent 32 2 woven
independent = demand_3_ipv4 2 xs ys zs woven meets

-- ---- and as bytes: the first feed's withdrawal by kind 2 and an end, the second with none, the joint one by kinds 4 and 5 with
-- an end and a byte past it

abbrev sent-xs : List Sent
sent-xs = announces_for ten 9 5 1 10 ∷ announces_for ten 9 5 9 0 ∷ announces_for 7 40 1 2 0 ∷ withdraws ten 9 ∷ []

abbrev sent-ys : List Sent
sent-ys = announces_for ten 9 6 2 5 ∷ announces_for ten 9 6 9 0 ∷ announces_for ten 8 7 4 0 ∷ withdraws_for ten 9 3 ∷ []

abbrev sent-zs : List Sent
sent-zs =
    announces_for ten 9 5 1 10
    ∷ announces_for ten 9 6 2 5
    ∷ announces_for ten 9 5 9 0
    ∷ announces_for 7 40 1 2 0
    ∷ announces_for ten 9 6 9 0
    ∷ announces_for ten 8 7 4 0
    ∷ withdraws_for ten 9 1
    ∷ withdraws_for ten 9 3
    ∷ []

-- the numbers of each record fit their bytes: those of each feed, and so those of both
abbrev fit_for : {a l h f p : ℕ} → a < 2 ^ 32 → TailFits (announces_for a l h f p) → Fits v4 (announces_for a l h f p)
fit_for x y = record { kind = lit< tt; address = x; tail = y }

abbrev fit_gone : {a l f : ℕ} → a < 2 ^ 32 → TailFits (withdraws_for a l f) → Fits v4 (withdraws_for a l f)
fit_gone x y = record { kind = lit< tt; address = x; tail = y }

abbrev fit_xs : AllFit v4 sent-xs
fit_xs = (
  fit_for (lit< tt) (lit< tt, lit< tt, lit< tt, lit< tt),
  (
    fit_for (lit< tt) (lit< tt, lit< tt, lit< tt, lit< tt),
    (
      fit_for (lit< tt) (lit< tt, lit< tt, lit< tt, lit< tt),
      (record { kind = lit< tt; address = lit< tt; tail = lit< tt }, tt),
    ),
  ),
)

abbrev fit_ys : AllFit v4 sent-ys
fit_ys = (
  fit_for (lit< tt) (lit< tt, lit< tt, lit< tt, lit< tt),
  (
    fit_for (lit< tt) (lit< tt, lit< tt, lit< tt, lit< tt),
    (fit_for (lit< tt) (lit< tt, lit< tt, lit< tt, lit< tt), (fit_gone (lit< tt) (lit< tt, lit< tt), tt)),
  ),
)

abbrev fit_ends : AllFit v4 (withdraws_for ten 9 1 ∷ withdraws_for ten 9 3 ∷ [])
fit_ends = (fit_gone (lit< tt) (lit< tt, lit< tt), (fit_gone (lit< tt) (lit< tt, lit< tt), tt))

abbrev fit_zs : AllFit v4 sent-zs
fit_zs =
    (fit_xs.0, (fit_ys.0, (fit_xs.1.0, (fit_xs.1.1.0, (fit_ys.1.0, (fit_ys.1.1.0, fit_ends))))))

abbrev joint : Fed v4 2 zs
joint = roomy sent-zs refl fit_zs (0 ∷ 9 ∷ []) refl 40 (lit≤ tt)

abbrev first : Fed v4 2 xs
first = roomy sent-xs refl fit_xs (0 ∷ []) refl 20 (lit≤ tt)

abbrev second : Fed v4 2 ys
second = roomy sent-ys refl fit_ys [] tt 20 (lit≤ tt)

-- read back from the bytes, cells and all
pub read_joint : replied joint
    ≡ done 5 128 ∷ done 6 128 ∷ refused 10 ∷ refused 3 ∷ refused 10 ∷ done 7 1 ∷ done 5 0 ∷ refused 7 ∷ []
unfolding answer cells shown need_to runs halts number digits
read_joint = refl

pub read_first : replied first ≡ done 5 128 ∷ refused 10 ∷ refused 3 ∷ done 5 128 ∷ []
unfolding answer cells shown need_to runs halts number digits
read_first = refl

pub together : Together woven joint first second
together = demand_3_fed woven meets joint first second
