-- What each step of the search and each return of the lookup says of the definition. Assumes nothing.
use mathlib.Core.Path.{◌≡◌, sym, ap, ◌∙◌}
use mathlib.Core.Logic.{◌≢◌}
use mathlib.Core.Bool.{Bool, true, false}
use mathlib.Core.List.{List}
use Prim.Native.Nat.{ℕ, zero, suc, ◌+◌, ◌-◌, ◌/◌, ◌^◌, ◌≤◌, ◌<◌}
use native.Mathlib.Omega.{arith}
use lib.ListN.{length, get_or}
use borrow.Author.Tests.{lt-ltb, le-ltb, eq-eqb, ne_eqb}
use Rattle.routes.specs.Route.{Route, IsList}
use Rattle.routes.specs.Match.{Match, none, longest}
use Rattle.routes.specs.Seen.{Answer, gives, refuses}
use Rattle.lengths.specs.Way.{Look, miss, hit, outside, search}
use Rattle.lengths.specs.Layout.{header_words, bad_best, look, answered, walk}
use Rattle.lengths.specs.Laid.{Laid}
use Rattle.lengths.proofs.Laid.{laid_walk}
use Rattle.lengths.specs.Answer.{look_of, there, Looked}
use Rattle.lengths.specs.declared.Look as coded
use Rattle.lengths.specs.declared.Look.TheVariants.{Hit}

-- ---- the search

abbrev pub looks : List ℕ → ℕ → ℕ → Look
looks ws a m = look ws m (a / 2 ^ (32 - m))

pub there_hit : (ws : List ℕ) (r : coded.Look) (at : ℕ) → r ≡ Hit at → there ws r → at < length ws
there_hit ws r at e t = rw e at t

-- what the code's look was, its case known
module _ (ws : List ℕ) (r : coded.Look) (x : Look) (k : Looked ws r x) where
  pub saw : (y : coded.Look) → r ≡ y → x ≡ look_of ws y
  saw y e = sym k.told ∙ ap (look_of ws) e

  pub within : (at : ℕ) → r ≡ Hit at → at < length ws
  within at e = there_hit ws r at e k.inside

module _ (f : ℕ → Look) (m best : ℕ) where
  pub end_miss : f m ≡ miss → hit best ≡ search f 0 m best
  unfolding search
  end_miss e = rw e

  pub end_hit : (b : ℕ) → f m ≡ hit b → m ≢ 31 → hit b ≡ search f 0 m best
  unfolding search
  end_hit b e n = rw (e, ne_eqb m 31 n)

  -- a hit at 31 tries 32
  pub end_longer : (b : ℕ) → f m ≡ hit b → m ≡ 31 → search f 0 32 b ≡ search f 0 m best
  unfolding search
  end_longer b e n = rw (e, eq-eqb m 31 n)

  pub any_outside : (n : ℕ) → f m ≡ outside → outside ≡ search f n m best
  unfolding search
  any_outside zero e = rw e
  any_outside (suc n) e = rw e

  pub turn_shorter : (n p : ℕ) → 1 ≤ n → p ≡ 2 ^ (n - 1) → f m ≡ miss → search f (n - 1) (m - p) best ≡ search f n m best
  unfolding search
  turn_shorter zero p h q e = absurd (omega arith)
  turn_shorter (suc n) p h q e = let z : suc n - 1 ≡ n = omega arith in rw (e, q, z)

  pub turn-longer : (n p b : ℕ) → 1 ≤ n → p ≡ 2 ^ (n - 1) → f m ≡ hit b → search f (n - 1) (m + p) b ≡ search f n m best
  unfolding search
  turn-longer zero p b h q e = absurd (omega arith)
  turn-longer (suc n) p b h q e = let z : suc n - 1 ≡ n = omega arith in rw (e, q, z)

-- ---- the answer

module _ (b : ℕ) where
  pub best_none : b ≡ 0 → false ≡ bad_best b
  best_none e = rw e

  pub best-small : b ≢ 0 → b < 256 → true ≡ bad_best b
  best-small n h = rw (ne_eqb b 0 n, lt-ltb b 256 h)

  -- r is the test whether it is out of its range
  module _ (r : Bool) (e : r ≡ bad_best b) where
    pub told_none : r ≡ false → b ≡ 0 → gives none ≡ answered (hit b)
    told_none q z = rw z

pub walk_short : (ws : List ℕ) (a : ℕ) → length ws < header_words → refuses 2 ≡ walk ws a
unfolding walk
walk_short ws a h = rw (lt-ltb (length ws) header_words h)

pub walk-search : (ws : List ℕ) (a : ℕ) (y : Answer Match) → header_words ≤ length ws
    → y ≡ answered (search (looks ws a) 4 16 (get_or ws 0 0)) → y ≡ walk ws a
unfolding walk
walk-search ws a y h s = s ∙ rw (le-ltb (length ws) header_words h)

-- on a list laid out the walk gives the longest match, so what the walk gives does
pub of_list : (ws : List ℕ) (a : ℕ) (y : Answer Match) → a < 4294967296 → y ≡ walk ws a → (rs : List Route) → IsList 32 rs
    → Laid rs ws → y ≡ gives (longest 32 a rs)
of_list ws a y h e rs l c = e ∙ laid_walk rs ws l c a h
