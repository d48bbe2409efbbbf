-- What the code's answers say of a path: where a walk down it stops, what is sought there, and the rest of it opened. Assumes
-- nothing.
use Rattle.std.specs.Prelude.{◌≡◌, ◌≢◌, List, ℕ, Option, Some, None, Result, Ok, Err}
use Rattle.std.proofs.Common.{◌⊎◌}
use Rattle.refusals.specs.declared.Refusal.{Refusal}
use Rattle.refusals.specs.declared.Refusal.TheVariants as refusal
use Rattle.paths.specs.declared.Stop.{Stop}
use Rattle.paths.specs.declared.Found.{Found}
use Rattle.paths.specs.Way.{Walked}
use Rattle.paths.specs.Held.{SoughtAny}
use Rattle.paths.specs.Hung.{OpenedAny}

-- the walk down to level k: array 0 stands for a path test that fails
abbrev pub HasWalked : ℕ → List ℕ → ℕ → ℕ → Option Stop → Type 0
HasWalked L ws a k None = Walked L ws a k 0 0
HasWalked L ws a k (Some s) = (s.array ≢ 0) × Walked L ws a k s.level s.array

-- feed f's candidate for the prefix a of length l is sought where the path test fails
pub record Strays (L : ℕ) (ws : List ℕ) (a l f : ℕ) : Type 0 where
  pub level : ℕ
  pub depth : ℕ
  pub value : ℕ
  pub word : ℕ
  pub sought : SoughtAny L ws a l f level depth value 0 0 word

-- and what a search for it answers
abbrev pub HasSought : ℕ → List ℕ → ℕ → ℕ → ℕ → Result Found Refusal → Type 0
HasSought L ws a l f (Ok x) =
    (x.stop.array ≢ 0)
    × SoughtAny L ws a l f x.place.level x.place.depth x.place.value x.stop.level x.stop.array x.word
HasSought L ws a l f (Err e) = (e ≡ refusal.Foreign) × Strays L ws a l f

-- the path opened from array b of level j down to level k: no room is told as array 0, words that are no table as 4,097
abbrev pub HasOpened : ℕ → List ℕ → List ℕ → ℕ → ℕ → ℕ → ℕ → Result ℕ Refusal → Type 0
HasOpened L ws vs a j k b (Ok r) = (r ≢ 0) × (r ≢ 4097) × OpenedAny L ws vs a j k b r
HasOpened L ws vs a j k b (Err e) =
    ((e ≡ refusal.Full) × OpenedAny L ws vs a j k b 0) ⊎ ((e ≡ refusal.Foreign) × OpenedAny L ws vs a j k b 4097)
