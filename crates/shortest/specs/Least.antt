-- No table needs fewer routes inside a prefix than the least. Assumes nothing.
use Rattle.std.specs.Prelude.{◌≡◌, refl, Bool, true, false, cond, ◌&&◌, ◌||◌, ◌++◌, length}
use Rattle.std.proofs.Common.{sym, ap, ap₂, ◌∙◌, true≢false, arith, length-append}
use Prim.Native.Nat.{ℕ, zero, suc, ◌+◌, ◌*◌, ◌≤◌}
use Rattle.std.specs.Int.Bits.{bit_and, bit_or}
use borrow.Author.Tests.{eq-eqb}
use Rattle.logic.specs.Cases.{same}
use Rattle.routes.specs.Collect.{own, collect}
use Rattle.shortest.specs.HopSet.{has, only, has_and, has_or, has_none, has-only}
use Rattle.shortest.specs.Chosen.{meet, set_of, under}
use Rattle.shortest.specs.Inside.{apart, lacks, cost, carried, In, in_one, in_left, in_right, in_head}

-- ---- the number of routes inside a prefix

abbrev pub some : ℕ → ℕ
some zero = 0
some (suc h) = 1

own-length : (d v l h : ℕ) → length (own d v l h) ≡ some h
own-length d v l zero = refl
own-length d v l (suc h) = refl

pub collect_one : (f : ℕ → ℕ → ℕ) (v l : ℕ) → length (collect f zero v l) ≡ some (f v l)
unfolding collect
collect_one f v l = own-length zero v l (f v l)

pub collect_more : (f : ℕ → ℕ → ℕ) (d v l : ℕ)
    → length (collect f (suc d) v l)
    ≡ some (f v l) + (length (collect f d (2 * v) (suc l)) + length (collect f d (2 * v + 1) (suc l)))
unfolding collect
collect_more f d v l =
    length-append (own (suc d) v l (f v l)) (collect f d (2 * v) (suc l) ++ collect f d (2 * v + 1) (suc l))
    ∙ ap₂ ◌+◌ (own-length (suc d) v l (f v l))
    (length-append (collect f d (2 * v) (suc l)) (collect f d (2 * v + 1) (suc l)))

-- ---- one prefix: its own route pays for what the halves save

one_lacks : (b c : Bool) → cond (b && c) 0 1 ≤ cond b 0 1 + cond c 0 1
one_lacks true c = omega arith
one_lacks false c = omega arith

both-lacks : (b c : Bool) → (b && c) ≡ false → 1 + cond (b || c) 0 1 ≤ cond b 0 1 + cond c 0 1
both-lacks true true e = absurd (true≢false e)
both-lacks true false e = omega arith
both-lacks false true e = omega arith
both-lacks false false e = omega arith

lacks_most : (b : Bool) → cond b 0 1 ≤ 1
lacks_most true = omega arith
lacks_most false = omega arith

-- sets with nothing in common
pub apart_and : (x y h : ℕ) → bit_and x y ≡ 0 → (has x h && has y h) ≡ false
apart_and x y h e = sym (has_and x y h) ∙ ap (λ (z : ℕ). has z h) e ∙ has_none h

turn : (x y r h : ℕ) → apart x y + lacks (meet x y) h ≤ some r + (lacks x (under r h) + lacks y (under r h))
turn x y zero h =
    same (bit_and x y) 0
    (λ q t. rw (t, has_or x y h) (omega (arith, both-lacks (has x h) (has y h) (apart_and x y h q))))
    (λ n t. rw (t, has_and x y h) (omega (arith, one_lacks (has x h) (has y h))))
turn x y (suc r) h =
    same (bit_and x y) 0
    (λ q t. rw t (omega (
      arith,
      lacks_most (has (bit_or x y) h),
      both-lacks (has x (suc r)) (has y (suc r)) (apart_and x y (suc r) q),
    )))
    (λ n t. rw t (omega (arith, lacks_most (has (bit_and x y) h))))

-- ---- every table that gives the addresses the hops G has at least as many routes

module _ (f : ℕ → ℕ → ℕ) (G : ℕ → ℕ) where
  pub least : (d v l h : ℕ) → ((a : ℕ) → In d v a → 1 ≤ G a) → ((a : ℕ) → In d v a → carried f d l h a ≡ G a)
      → cost G d v + lacks (set_of G d v) h ≤ length (collect f d v l)
  unfolding set_of cost carried
  least zero v l h p g = rw (collect_one f v l) (last (f v l) (g v (in_one v)))
    where
      last : (r : ℕ) → under r h ≡ G v → 0 + lacks (only (G v)) h ≤ some r
      last zero e = rw (has-only (G v) h (p v (in_one v)), eq-eqb (G v) h (sym e)) (omega arith)
      last (suc r) e = omega (arith, lacks_most (has (only (G v)) h))
  least (suc d) v l h p g =
      let x = least d (2 * v) (suc l) (under (f v l) h) (λ a i. p a (in_left d v a i))
      (λ a i. (let j = in_left d v a i in rw (in_head (suc d) v a j) at (g a j))) in
      let y = least d (2 * v + 1) (suc l) (under (f v l) h) (λ a i. p a (in_right d v a i))
      (λ a i. (let j = in_right d v a i in rw (in_head (suc d) v a j) at (g a j))) in
      rw (collect_more f d v l) (omega (arith, x, y, turn (set_of G d (2 * v)) (set_of G d (2 * v + 1)) (f v l) h))
