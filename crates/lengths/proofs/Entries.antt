-- How many entries a length has: its routes, and the markers that are no routes. So the entries of all lengths, with the default
-- route, number the routes and the markers. Assumes nothing.
use Rattle.std.specs.Prelude.{◌≡◌, refl, Bool, true, false, not, ◌&&◌, ◌||◌, List, ◌++◌, ℕ, zero, suc, ◌+◌}
use Rattle.std.specs.Prelude.{◌≤◌, length, eqb}
use Rattle.std.proofs.Common.{sym, ◌∙◌, true≢false, arith}
use Rattle.routes.specs.Route.{Route, From}
use Rattle.routes.specs.Room.{mem, distinct}
use Rattle.laws.specs.Longest.{Wfs}
use Rattle.laws.specs.Room.{distinct-mem}
use Rattle.lengths.specs.Way.{turns_at}
use Rattle.listing.specs.Heads.{picks}
use Rattle.lengths.specs.Marks.{held_at, marks, markers_to, markers, entries}
use Rattle.lengths.specs.Entries.{mem-append, distinct_append, mem-unheld, mem_either, own, tally, own_held, own-distinct}
use Rattle.lengths.specs.Entries.{entries_to, tally_to, tally-length}

entries_split : (m z : ℕ) (rs : List Route) → m ≤ 32 → Wfs 32 rs → mem z (entries m rs) ≡ mem z (own m rs ++ marks m rs)
entries_split m z rs h w =
    rw (
      mem_either (λ l. eqb l m) (turns_at m) m z rs,
      mem-append z (own m rs) (marks m rs),
      mem-unheld rs m z (picks (turns_at m) m rs),
      own_held m z rs h w,
    )
    (apart (eqb (held_at rs m z) 0) (mem z (picks (turns_at m) m rs)))
  where
    apart : (a b : Bool) → (not a || b) ≡ (not a || (b && a))
    apart true true = refl
    apart true false = refl
    apart false b = refl

own-apart : (m z : ℕ) (rs : List Route) → m ≤ 32 → Wfs 32 rs → mem z (own m rs) ≡ true → mem z (marks m rs) ≡ false
own-apart m z rs h w e =
    mem-unheld rs m z (picks (turns_at m) m rs)
    ∙ flip (eqb (held_at rs m z) 0) (mem z (picks (turns_at m) m rs)) (sym (own_held m z rs h w) ∙ e)
  where
    flip : (a b : Bool) → not a ≡ true → (b && a) ≡ false
    flip true b q = absurd (true≢false (sym q))
    flip false true q = refl
    flip false false q = refl

entries-count : (m : ℕ) (rs : List Route) → m ≤ 32 → From 0 rs → Wfs 32 rs
    → distinct (entries m rs) ≡ tally m rs + distinct (marks m rs)
entries-count m rs h f w =
    distinct-mem (entries m rs) (own m rs ++ marks m rs) (λ z. entries_split m z rs h w)
    ∙ distinct_append (own m rs) (marks m rs) (λ z. own-apart m z rs h w)
    ∙ rw (own-distinct m 0 rs h f w)

to_count : (m : ℕ) (rs : List Route) → m ≤ 32 → From 0 rs → Wfs 32 rs
    → entries_to m rs + tally 0 rs ≡ tally_to m rs + markers_to m rs
unfolding entries_to tally_to markers_to
to_count zero rs h f w = omega arith
to_count (suc m) rs h f w = omega (arith, to_count m rs (omega arith) f w, entries-count (suc m) rs h f w)

-- the entries of all lengths, and the default route, are the routes and the markers
pub entries_all : (rs : List Route) → From 0 rs → Wfs 32 rs → entries_to 32 rs + tally 0 rs ≡ length rs + markers rs
entries_all rs f w = to_count 32 rs (omega arith) f w ∙ rw (tally-length rs w)
