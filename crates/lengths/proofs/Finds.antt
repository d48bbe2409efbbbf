-- The theorem that carries the search by lengths: where each held length has its entry, and its way turns longer at entries only,
-- the search finds the longest match. Assumes nothing.
use Rattle.std.specs.Prelude.{◌≡◌, refl, Bool}
use Rattle.std.proofs.Common.{arith}
use Prim.Native.Nat.{ℕ}
use Rattle.lengths.specs.Way.{Look, hit, search, best}
use Rattle.lengths.specs.Finds.{Looks, Marked, finds}

-- the search from length 16, with the default route's match, finds the longest match
pub way_finds : (look : ℕ → Look) (E : ℕ → Bool) (g : ℕ → ℕ) → Looks look E g → Marked E g
    → search look 4 16 (best g 0) ≡ hit (best g 32)
way_finds look E g s w =
    finds look E g s w.own 4 16 0 32 (record {
      low = refl;
      high = refl;
      top = omega arith;
      above = λ L a b n. absurd (n refl);
      ways = λ L x a b z t. w.way L x a b z t;
    })
