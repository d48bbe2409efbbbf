-- The number of each refusal, in the documents' words, and what a result of the code says. Assumes nothing.
use Rattle.std.specs.Prelude.{◌≡◌, refl, cond, ℕ, eqb, Result, Ok, Err}
use Rattle.std.proofs.Common.{sym, ap, ◌∙◌}
use Rattle.routes.specs.Seen.{Answer, gives, refuses}
use Rattle.refusals.specs.declared.Refusal.{Refusal}
use Rattle.refusals.specs.declared.Refusal.TheVariants as refusal

abbrev pub number : Refusal → ℕ
number refusal.Misfit = 1
number refusal.Foreign = 2
number refusal.Length = 3
number refusal.Stray = 4
number refusal.Hop = 5
number refusal.Absent = 7
number refusal.Full = 8
number refusal.Short = 9
number refusal.Feed = 10
number refusal.NoRoute = 20
number refusal.NoEntry = 21
number refusal.NoInterface = 22
number refusal.NoDefault = 23
number refusal.HighHop = 24

-- no two refusals have one number: each is found by its own
abbrev pub refusal_of : ℕ → Refusal
refusal_of n =
    cond (eqb n 2) refusal.Foreign (
    cond (eqb n 3) refusal.Length (
    cond (eqb n 4) refusal.Stray (
    cond (eqb n 5) refusal.Hop (
    cond (eqb n 7) refusal.Absent (
    cond (eqb n 8) refusal.Full (
    cond (eqb n 9) refusal.Short (
    cond (eqb n 10) refusal.Feed (
    cond (eqb n 20) refusal.NoRoute (
    cond (eqb n 21) refusal.NoEntry (
    cond (eqb n 22) refusal.NoInterface (
    cond (eqb n 23) refusal.NoDefault (
    cond (eqb n 24) refusal.HighHop (
    refusal.Misfit)))))))))))))

pub number_back : (r : Refusal) → refusal_of (number r) ≡ r
number_back refusal.Misfit = refl
number_back refusal.Foreign = refl
number_back refusal.Length = refl
number_back refusal.Stray = refl
number_back refusal.Hop = refl
number_back refusal.Absent = refl
number_back refusal.Full = refl
number_back refusal.Short = refl
number_back refusal.Feed = refl
number_back refusal.NoRoute = refl
number_back refusal.NoEntry = refl
number_back refusal.NoInterface = refl
number_back refusal.NoDefault = refl
number_back refusal.HighHop = refl

pub number_one : (r s : Refusal) → number r ≡ number s → r ≡ s
number_one r s e = sym (number_back r) ∙ ap refusal_of e ∙ number_back s

-- what a call's result says
abbrev pub said : {T : Type 0} → Result T Refusal → Answer T
said (Ok x) = gives x
said (Err e) = refuses (number e)

-- the number of the fault that a test finds, 0 for none
abbrev pub fault : Result (Unit {0}) Refusal → ℕ
fault (Ok u) = 0
fault (Err e) = number e

-- results leave no choice
pub said_one : {T : Type 0} (r s : Result T Refusal) → said r ≡ said s → r ≡ s
said_one (Ok x) (Ok y) e = cc
said_one (Ok x) (Err f) e = cc
said_one (Err f) (Ok y) e = cc
said_one {T} (Err f) (Err g) e = let q : number f ≡ number g = cc in ap Err (number_one f g q)
