-- The table that is chosen gives every address its hop, with the least number of routes. Assumes nothing.
use Rattle.std.specs.Prelude.{◌≡◌, refl, Bool, true, false, cond, ◌&&◌, ◌||◌, length}
use Rattle.std.proofs.Common.{sym, ◌∙◌, true≢false}
use Rattle.std.proofs.Math.Path.{ap}
use Rattle.std.proofs.lemmas.Bool.{false≢true}
use Prim.Native.Nat.{ℕ, zero, suc, ◌+◌, ◌*◌, ◌^◌, ◌<◌}
use native.Mathlib.Omega.{arith}
use Rattle.std.specs.Int.Bits.{bit_and}
use borrow.Author.Tests.{eqb-true}
use Rattle.logic.specs.Cases.{bool, same}
use Rattle.routes.specs.Collect.{collect}
use Rattle.shortest.specs.HopSet.{has, has_and, has_or, has-only, has-low}
use Rattle.shortest.specs.Chosen.{meet, set_of, pick, under, above, chosen}
use Rattle.shortest.specs.Inside.{apart, lacks, cost, carried, In, in_one, in_head, in_half}
use Rattle.shortest.specs.Least.{some, collect_one, collect_more, apart_and}
use Rattle.shortest.specs.Given.{Hops, hops-left, hops_right, set_some, pick_some, below, set_at}

-- below it the hop is in its set
pick_in : (N m h : ℕ) → 0 < m → m < 2 ^ N → has m (under (pick N m h) h) ≡ true
pick_in N m h p q = bool (has m h) (λ e. rw e e) (λ e. rw e (has-low N m p q))

-- its halves lack the hop once if they are apart
halves_in : (x y h : ℕ) → has (meet x y) h ≡ true → lacks x h + lacks y h ≡ apart x y
halves_in x y h e =
    same (bit_and x y) 0
    (λ q t. rw t (one (has x h) (has y h) (sym (has_or x y h) ∙ (rw t at e)) (apart_and x y h q)))
    (λ n t. rw t (none (has x h) (has y h) (sym (has_and x y h) ∙ (rw t at e))))
  where
    one : (b c : Bool) → (b || c) ≡ true → (b && c) ≡ false → cond b 0 1 + cond c 0 1 ≡ 1
    one true true e f = absurd (true≢false f)
    one true false e f = refl
    one false true e f = refl
    one false false e f = absurd (false≢true e)

    none : (b c : Bool) → (b && c) ≡ true → cond b 0 1 + cond c 0 1 ≡ 0
    none true true e = refl
    none true false e = absurd (false≢true e)
    none false c e = absurd (false≢true e)

module _ (N W : ℕ) (G : ℕ → ℕ) where
  -- the hop below a prefix is in its set
  pub in_set : (d v l : ℕ) → l + d ≡ W → Hops N G d v
      → has (set_of G d v) (under (chosen N W G v l) (above N W G l v)) ≡ true
  in_set d v l e p =
      let s = set_some N G d v p in
      rw (set_at N W G d v l e) (pick_in N (set_of G d v) (above N W G l v) s.0 s.1)

  -- ---- as many routes as the least

  pub chosen-length : (d v l : ℕ) → l + d ≡ W → Hops N G d v
      → length (collect (chosen N W G) d v l) ≡ cost G d v + lacks (set_of G d v) (above N W G l v)
  unfolding set_of cost
  chosen-length zero v l e p =
      collect_one (chosen N W G) v l
      ∙ ap some (set_at N W G zero v l e) ∙ pick_some N (set_of G zero v) (above N W G l v) ∙ omega arith
  chosen-length (suc d) v l e p =
      let x = rw (below N W G d v l (2 * v) e (omega arith)) at
      (chosen-length d (2 * v) (suc l) (omega arith) (hops-left N G d v p)) in
      let y = rw (below N W G d v l (2 * v + 1) e (omega arith)) at
      (chosen-length d (2 * v + 1) (suc l) (omega arith) (hops_right N G d v p)) in
      let s = ap some (set_at N W G (suc d) v l e) ∙ pick_some N (set_of G (suc d) v) (above N W G l v) in
      let b = halves_in (set_of G d (2 * v)) (set_of G d (2 * v + 1)) (under (chosen N W G v l) (above N W G l v))
      (in_set (suc d) v l e p) in
      collect_more (chosen N W G) d v l ∙ omega (arith, x, y, s, b)

  -- ---- and the same hops

  pub chosen-carried : (d v l : ℕ) → l + d ≡ W → Hops N G d v → (a : ℕ) → In d v a
      → carried (chosen N W G) d l (above N W G l v) a ≡ G a
  unfolding set_of carried
  chosen-carried zero v l e p a i =
      let q : a ≡ v = omega (arith, i.from, i.to) in
      let h = under (chosen N W G v l) (above N W G l v) in
      rw q (sym (eqb-true (G v) h (sym (has-only (G v) h (p v (in_one v)).0) ∙ in_set zero v l e p)))
  chosen-carried (suc d) v l e p a i =
      rw (in_head (suc d) v a i)
      (in_half d v a i
      (λ j. rw (below N W G d v l (2 * v) e (omega arith)) at
      (chosen-carried d (2 * v) (suc l) (omega arith) (hops-left N G d v p) a j))
      (λ j. rw (below N W G d v l (2 * v + 1) e (omega arith)) at
      (chosen-carried d (2 * v + 1) (suc l) (omega arith) (hops_right N G d v p) a j)))
