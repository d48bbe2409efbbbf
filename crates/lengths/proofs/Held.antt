-- The theorem for a list: looks that tell the list's entries, each with its best match, find the longest match. Assumes nothing.
use Rattle.std.specs.Prelude.{◌≡◌, Bool, cond, List, ℕ, ◌-◌, ◌/◌, ◌^◌, ◌≤◌}
use Rattle.std.proofs.Common.{◌∙◌, arith}
use Rattle.routes.specs.Route.{Route}
use Rattle.routes.specs.Match.{longest}
use Rattle.routes.specs.Room.{mem}
use Rattle.laws.specs.Longest.{Wfs, along, longest_last}
use Rattle.lengths.specs.Way.{Look, miss, hit, search, code}
use Rattle.lengths.proofs.Finds.{way_finds}
use Rattle.lengths.specs.Marks.{entries, best_at}
use Rattle.lengths.specs.Held.{best_along, marked}

module _ (rs : List Route) (w : Wfs 32 rs) (a : ℕ) where
  abbrev g : ℕ → ℕ
  g = along 32 a (omega arith) rs

  abbrev E : ℕ → Bool
  E m = mem (a / 2 ^ (32 - m)) (entries m rs)

  -- looks that tell the entries of the list at the address
  pub list_way : (look : ℕ → Look) → ((m : ℕ) → 1 ≤ m → m ≤ 32
      → look m ≡ cond (mem (a / 2 ^ (32 - m)) (entries m rs)) (hit (best_at rs m (a / 2 ^ (32 - m)))) miss)
      → search look 4 16 (best_at rs 0 (a / 2 ^ 32)) ≡ hit (code (longest 32 a rs))
  list_way look f =
      rw (best_along rs w a 0 (omega arith), longest_last 32 a (omega arith) rs w)
      (way_finds look E g (record { at = λ m h k. f m h k ∙ rw (best_along rs w a m k) }) (marked rs w a))
