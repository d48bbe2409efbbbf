-- A change at a prefix hides no more and no fewer of its cells. Assumes nothing.
use Rattle.std.specs.Prelude.{◌≡◌, refl, List, [], ◌∷◌, ℕ, ◌+◌, ◌*◌, ◌≤◌, ◌<◌}
use Rattle.std.proofs.Common.{arith, le-ltb}
use Rattle.routes.specs.Route.{Route, route, key, All, insert, remove}
use Rattle.routes.specs.Cells.{hidden}
use Rattle.logic.specs.Cases.{tri, same}
use Rattle.laws.specs.Sorted as sorted
use Rattle.rivals.specs.Won.{settle}

module _ (W k c l : ℕ) where
  -- a route that is not longer hides nothing
  hidden-insert : (r : Route) (rs : List Route) → r.len ≤ l → r.len < 256 → All sorted.Good rs
      → hidden W k c l (insert r rs) ≡ hidden W k c l rs
  hidden-insert r [] h s p = rw (le-ltb l r.len h)
  hidden-insert r (t ∷ ts) h s p =
      tri (key r) (key t)
      (λ a e. rw (e, le-ltb l r.len h))
      (λ a e d. rw (e, d, le-ltb l r.len h, le-ltb l t.len (omega (arith, p.0.short))))
      (λ a e d. rw (e, d, hidden-insert r ts h s p.1))

  hidden-remove : (a m : ℕ) (rs : List Route) → m ≤ l → m < 256 → All sorted.Good rs
      → hidden W k c l (remove (a * 256 + m) rs) ≡ hidden W k c l rs
  hidden-remove a m [] h s p = refl
  hidden-remove a m (t ∷ ts) h s p =
      same (key t) (a * 256 + m)
      (λ q e. rw (e, le-ltb l t.len (omega (arith, p.0.short))))
      (λ n e. rw (e, hidden-remove a m ts h s p.1))

pub hidden-settle : (W k c a l h : ℕ) (rs : List Route) → l < 256 → All sorted.Good rs
    → hidden W k c l (settle a l h rs) ≡ hidden W k c l rs
hidden-settle W k c a l h rs s p =
    same h 0
    (λ _ e. rw e (hidden-remove W k c l a l rs (omega arith) s p))
    (λ _ e. rw e (hidden-insert W k c l (route a l h) rs (omega arith) s p))
