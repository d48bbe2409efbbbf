-- What a run through a front does to the table is what a feed without ticks does to it, run on the table alone: the records
-- passed on and, for a tick, what it installs, each as an announcement or withdrawal for its feed. Assumes nothing.
--
--     feed       01.. 02.. 09 03..               through the front, to the places and the table
--     fed        04.. 05.. 04.. 04.. 03..        without it, to the table: kind 9 is gone, what it installs stands there
use Rattle.std.specs.Prelude.{◌≡◌, refl, List, [], ◌∷◌, ◌++◌, length, take, drop}
use Rattle.std.proofs.Common.{sym, ap, ap₂, ◌∙◌, arith, length-take, get_or-take, get_or-drop, pow_mono}
use Prim.Native.Nat.{ℕ, zero, suc, ◌+◌, ◌*◌, ◌^◌, ◌≤◌, ◌<◌}
use Rattle.std.proofs.Math.ListN.{get_or-eq_default}
use Rattle.logic.specs.Cases.{bool, less, same}
use Rattle.numbers.specs.Digits.{two_at}
use Rattle.numbers.specs.Number.{AreBytes, number_at, number_lt}
use Rattle.routes.specs.Family.{v4, Role, ending, announcing, withdrawing, looking, announcing_for, withdrawing_for, unknown}
use Rattle.candidates.specs.Keyed.{Every}
use Rattle.candidates.specs.Candidate.{Candidate}
use Rattle.candidates.specs.Answers.{announce, withdraw, Record, update, lookup, sound}
use Rattle.candidates.specs.Answers as table
use Rattle.candidates.specs.Bytes.{Sent, looks, announces_for, withdraws_for, means, meanings, all_bytes, Fits, AllFit}
use Rattle.candidates.specs.Runs.{sent_at, role_at, Ran as Outcome}
use Rattle.candidates.specs.Runs as plain
use Rattle.encoded.proofs.Encoded.{run-records}
use Rattle.front.specs.Place.{Place, IsPlace, IsFront}
use Rattle.front.specs.Front.{Event, asks, tick, Both, halve, again, installs, each, taken}
use Rattle.front.specs.Runs.{State, ticks_at, event_at, halts, turn, fresh, run, events_from, events_of}
use Rattle.restraint.specs.Keeps.{Typed, AllTyped, event_keeps}
use Rattle.restraint.specs.Through.{held_back, installed, given, through}
use Rattle.restraint.specs.Taken.{run_came}

-- ---- records as they are fed

abbrev pub sent : Record → Sent
sent (update (announce a l h f p)) = announces_for a l h f p
sent (update (withdraw a l f)) = withdraws_for a l f
sent (lookup a) = looks a

abbrev pub sents : List Record → List Sent
sents [] = []
sents (x ∷ xs) = sent x ∷ sents xs

-- the feed of records, without an end
abbrev pub fed : List Record → List ℕ
fed xs = all_bytes v4 (sents xs)

sent_means : (x : Record) → means (sent x) ≡ x
sent_means (update (announce a l h f p)) = refl
sent_means (update (withdraw a l f)) = refl
sent_means (lookup a) = refl

sents_mean : (xs : List Record) → meanings (sents xs) ≡ xs
sents_mean [] = refl
sents_mean (x ∷ xs) = ap₂ ◌∷◌ (sent_means x) (sents_mean xs)

sents-length : (xs : List Record) → length (sents xs) ≡ length xs
sents-length [] = refl
sents-length (x ∷ xs) = ap suc (sents-length xs)

pub fit_both : (xs ys : List Record) → AllFit v4 (sents xs) → AllFit v4 (sents ys) → AllFit v4 (sents (xs ++ ys))
fit_both [] ys f g = g
fit_both (x ∷ xs) ys f g = (f.0, fit_both xs ys f.1 g)

-- ---- what stands in a feed of bytes fits its bytes

abbrev pub FitsIn : Event → Type 0
FitsIn (asks x) = Fits v4 (sent x)
FitsIn tick = Unit {0}

abbrev pub AllFitIn : List Event → Type 0
AllFitIn [] = Unit {0}
AllFitIn (e ∷ es) = FitsIn e × AllFitIn es

pub typed_of : (e : Event) → FitsIn e → Typed 32 e
typed_of (asks (update (announce a l h f p))) w = (w.address, w.tail.3)
typed_of (asks (update (withdraw a l f))) w = w.address
typed_of (asks (lookup a)) w = tt
typed_of tick w = tt

pub all_typed : (es : List Event) → AllFitIn es → AllTyped 32 es
all_typed [] w = tt
all_typed (e ∷ es) w = (typed_of e w.0, all_typed es w.1)

module _ (feed : List ℕ) (ok : AreBytes feed) where
  part_bytes : (n i : ℕ) → AreBytes (take n (drop i feed))
  part_bytes n i j =
      less j n
      (λ h _. rw (get_or-take n (drop i feed) j 0 h, get_or-drop i feed j 0) (ok (i + j)))
      (λ h _. (let e : length (take n (drop i feed)) ≤ j = omega (arith, length-take n (drop i feed)) in
      rw (get_or-eq_default (take n (drop i feed)) 0 {n = j} e) (omega arith)))

  address_low : (i : ℕ) → number_at 4 feed i < 2 ^ 32
  address_low i =
      let p : 8 * length (take 4 (drop i feed)) ≤ 32 = omega (arith, length-take 4 (drop i feed)) in
      omega (arith, number_lt (take 4 (drop i feed)) (part_bytes 4 i), pow_mono p)

  two_low : (i : ℕ) → two_at feed i < 65536
  two_low i = omega (arith, ok i, ok (i + 1))

  role-fits : (i : ℕ) (r : Role) → Fits v4 (sent (means (sent_at v4 feed i r)))
  role-fits i ending = record { kind = omega arith; address = omega arith; tail = tt }
  role-fits i announcing =
      record {
        kind = omega arith;
        address = address_low (i + 1);
        tail = (ok (i + 1 + 4), two_low (i + 1 + 4 + 1), omega arith, omega arith);
      }
  role-fits i withdrawing =
      record { kind = omega arith; address = address_low (i + 1); tail = (ok (i + 1 + 4), omega arith) }
  role-fits i looking = record { kind = omega arith; address = address_low (i + 1); tail = tt }
  role-fits i announcing_for =
      record {
        kind = omega arith;
        address = address_low (i + 1);
        tail = (ok (i + 1 + 4), two_low (i + 1 + 4 + 1), ok (i + 1 + 4 + 3), ok (i + 1 + 4 + 4));
      }
  role-fits i withdrawing_for =
      record { kind = omega arith; address = address_low (i + 1); tail = (ok (i + 1 + 4), ok (i + 1 + 4 + 1)) }
  role-fits i unknown = record { kind = omega arith; address = omega arith; tail = tt }

  event_fits : (i : ℕ) → FitsIn (event_at feed i)
  event_fits i = bool (ticks_at feed i) (λ t. rw t tt) (λ t. rw t (role-fits i (role_at v4 feed i)))

  events_fit : (n A room : ℕ) (s : State) → AllFitIn (events_from n A feed room s)
  unfolding events_from
  events_fit zero A room s = tt
  events_fit (suc n) A room s =
      same (halts feed room s.consumed (length s.replies)) 5
      (λ _ e. rw e (event_fits s.consumed, events_fit n A room (turn A feed s)))
      (λ _ e. rw e tt)

  pub run_fits : (A : ℕ) (b : Both) (room : ℕ) → AllFitIn (events_of A b feed room)
  run_fits A b room = events_fit (length feed) A room (fresh b)

-- ---- and so does what the table gets

again-fits : (p : Place) → IsPlace 32 p → Fits v4 (sent (update (again p)))
again-fits p w =
    let m = w.right.sound.small in
    record {
      kind = omega arith;
      address = w.inside;
      tail = (omega (arith, w.fits), omega arith, omega (arith, w.last), omega arith);
    }

module _ (A : ℕ) where
  installed_fit : (cs : List Candidate) (ps : List Place) → Every (IsPlace 32) ps
      → AllFit v4 (sents (installed 32 A cs (each halve ps)))
  installed_fit cs [] w = tt
  installed_fit cs (p ∷ ps) w =
      bool (installs 32 A cs (halve p))
      (λ e. rw e (again-fits p w.0, installed_fit (table.after 32 A cs (again (halve p))) ps w.1))
      (λ e. rw e (installed_fit cs ps w.1))

  pub given_fit : (b : Both) (e : Event) → IsFront 32 b.places → FitsIn e → AllFit v4 (sents (given 32 A b e))
  given_fit b (asks (update u)) i w =
      bool (sound 32 u)
      (λ s. bool (held_back 32 A b.places u) (λ h. rw (s, h) tt) (λ h. rw (s, h) (w, tt)))
      (λ s. rw s (w, tt))
  given_fit b (asks (lookup a)) i w = (w, tt)
  given_fit b tick i w = installed_fit b.list b.places i.places

-- ---- the run

-- records fed to a table leave what they leave one after the other
pub fed-leaves : (A : ℕ) (cs : List Candidate) (xs : List Record) (room : ℕ) → AllFit v4 (sents xs) → 5 * length xs ≤ room
    → (plain.run v4 A cs (fed xs) room).end.list ≡ table.leaves 32 A cs xs
fed-leaves A cs xs room f h =
    let e = run-records v4 A cs (sents xs) room f (omega (arith, sents-length xs)) in
    ap (λ (o : Outcome). o.end.list) e ∙ ap (table.leaves 32 A cs) (sents_mean xs)

-- what the run gives to the table
abbrev pub behind : ℕ → Both → List ℕ → ℕ → List Record
behind A b feed room = through 32 A b (events_of A b feed room)
