-- A prefix put in or taken out changes by one what lies inside each prefix that contains it, and no other number; another hop
-- changes none. Assumes nothing.
use Rattle.std.specs.Prelude.{◌≡◌, ℕ, suc, ◌+◌, ◌≤◌}
use Rattle.std.proofs.Math.Path.{sym}
use Rattle.std.proofs.Common.{◌∙◌}
use mathlib.Core.List.{List, [], ◌∷◌}
use native.Mathlib.Omega.{arith}
use Rattle.logic.specs.Cases.{tri, same}
use Rattle.routes.specs.Route.{Route, key, From, All, hop_at, insert, remove}
use Rattle.laws.specs.Sorted.{Good, hop_head, hop_skip, hop_below}
use Rattle.inside.specs.Inside.{lies, one, inside}

-- one prefix, two hops
key-lies : (W a l : ℕ) (r s : Route) → Good r → Good s → key r ≡ key s → lies W a l r ≡ lies W a l s
key-lies W a l r s g h e =
    let x : r.addr ≡ s.addr = omega (arith, g.short, h.short) in
    let y : r.len ≡ s.len = omega (arith, g.short, h.short) in
    rw (x, y)

module _ (W a l : ℕ) (r : Route) (g : Good r) where
  -- a prefix that was not held
  pub inside-insert : (rs : List Route) → All Good rs → hop_at rs (key r) ≡ 0
      → inside W (insert r rs) a l ≡ inside W rs a l + one (lies W a l r)
  unfolding inside
  inside-insert [] p z = omega arith
  inside-insert (s ∷ rs) p z =
      tri (key r) (key s)
      (λ _ e. rw e (omega arith))
      (λ q e d. absurd (omega (arith, p.0.pos, sym (hop_head s rs (key r) (sym q)) ∙ z)))
      (λ h e d. rw (e, d, inside-insert rs p.1 (sym (hop_skip s rs (key r) (omega arith)) ∙ z)) (omega arith))

  -- one that was: only its hop changes
  replaced : (lo : ℕ) (rs : List Route) → From lo rs → All Good rs → 1 ≤ hop_at rs (key r)
      → inside W (insert r rs) a l ≡ inside W rs a l
  unfolding inside
  replaced lo [] f p h = absurd (omega arith)
  replaced lo (s ∷ rs) f p h =
      tri (key r) (key s)
      (λ k e. absurd (omega (arith, hop_below (key s) (key r) (s ∷ rs) (omega arith, f.1) k)))
      (λ q e d. rw (e, d, key-lies W a l r s g p.0 q))
      (λ k e d. rw (e, d, replaced (suc (key s)) rs f.1 p.1 (rw (hop_skip s rs (key r) (omega arith)) at h)))

  pub inside_replace : (rs : List Route) → From 0 rs → All Good rs → 1 ≤ hop_at rs (key r)
      → inside W (insert r rs) a l ≡ inside W rs a l
  inside_replace rs f p h = replaced 0 rs f p h

  -- taken out
  pub inside-remove : (rs : List Route) → All Good rs → 1 ≤ hop_at rs (key r)
      → inside W (remove (key r) rs) a l + one (lies W a l r) ≡ inside W rs a l
  unfolding inside
  inside-remove [] p h = absurd (omega arith)
  inside-remove (s ∷ rs) p h =
      same (key s) (key r)
      (λ q e. rw (e, key-lies W a l r s g p.0 (sym q)) (omega arith))
      (λ n e. rw e (omega (arith, inside-remove rs p.1 (rw (hop_skip s rs (key r) n) at h))))
