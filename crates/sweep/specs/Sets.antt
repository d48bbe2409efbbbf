-- What the pass from below gives over a table: the sets and the costs of the prefixes, and whether all hops are small.
-- Assumes nothing.
use Rattle.std.specs.Prelude.{◌≡◌, refl, true, cond, List, [], ◌++◌, eqb, length}
use Rattle.std.proofs.Math.Path.{sym, ap₂}
use Rattle.std.proofs.Common.{ap, ◌∙◌}
use Rattle.std.proofs.Math.Bool.{◌&&◌}
use Prim.Native.Nat.{ℕ, zero, suc, ◌+◌, ◌*◌, ◌≤◌}
use native.Mathlib.Omega.{arith}
use Rattle.logic.specs.Cases.{same}
use Rattle.sizes.specs.Sizes.{slot_words}
use Rattle.routes.specs.Collect.{own, collect}
use Rattle.tree.specs.Arrays.{Arrays, held}
use Rattle.words.specs.Words.{arrays_of}
use Rattle.words.specs.TableBut.{Table}
use Rattle.words.specs.Half.{half_of}
use Rattle.words.specs.Empty.{total_in}
use Rattle.shortest.specs.HopSet.{only}
use Rattle.shortest.specs.Shortest.{upto}
use Rattle.shortest.specs.Chosen.{set_of, under}
use Rattle.shortest.specs.Inside.{cost, carried, In, in_one, in_left, in_right, in_head, in_half}
use Rattle.shortest.specs.Leaf.{one_hop, bare-carried}
use Rattle.shortest.specs.Proved.{upto-append, upto-own}
use Rattle.sweep.specs.Walk.{hop_in, set_at, cost_at, small_at}
use Rattle.sweep.specs.Slot.{At, slot_hop, slot_lower, slot_upper, bare-lower, bare_upper, empty_all}

module _ (ws : List ℕ) (tb : Table 4 ws) where
  abbrev t : Arrays
  t = arrays_of ws

  -- ---- the hops

  small-below : (p v l : ℕ) (s : At ws tb p v l) (d : ℕ) → l + suc d ≡ 32
      → (1 ≤ half_of ws p → small_at ws d (half_of ws p) ≡ upto 32 (collect (held t) d (2 * v) (suc l)))
      → (1 ≤ half_of ws p → small_at ws d (half_of ws p + slot_words) ≡ upto 32 (collect (held t) d (2 * v + 1) (suc l)))
      → (upto 32 (collect (held t) d (2 * v) (suc l)) && upto 32 (collect (held t) d (2 * v + 1) (suc l)))
      ≡ cond (eqb (half_of ws p) 0) true (small_at ws d (half_of ws p) && small_at ws d (half_of ws p + slot_words))
  small-below p v l s d e x y =
      same (half_of ws p) 0
      (λ z q. rw (q, bare-lower ws tb p v l s d z e, bare_upper ws tb p v l s d z e))
      (λ n q. rw (q, x (omega arith), y (omega arith)))

  pub small_is : (d p v l : ℕ) → l + d ≡ 32 → At ws tb p v l → small_at ws d p ≡ upto 32 (collect (held t) d v l)
  unfolding small_at collect
  small_is zero p v l e s =
      same (total_in ws p) 0
      (λ z q. rw q (sym (ap (upto 32) (empty_all ws tb p v l s z zero e))))
      (λ n q. rw (q, ← (slot_hop ws tb p v l s)) (sym (upto-own 32 zero v l (held t v l))))
  small_is (suc d) p v l e s =
      let x = collect (held t) d (2 * v) (suc l) in
      let y = collect (held t) d (2 * v + 1) (suc l) in
      same (total_in ws p) 0
      (λ z q. rw q (sym (ap (upto 32) (empty_all ws tb p v l s z (suc d) e))))
      (λ n q. rw (q, ← (slot_hop ws tb p v l s)) (sym (upto-append 32 (own (suc d) v l (held t v l)) (x ++ y)
      ∙ ap₂ ◌&&◌ (upto-own 32 (suc d) v l (held t v l)) (upto-append 32 x y
      ∙ small-below p v l s d e
      (λ n. small_is d (half_of ws p) (2 * v) (suc l) (omega arith) (slot_lower ws tb p v l s n))
      (λ n. small_is d (half_of ws p + slot_words) (2 * v + 1) (suc l) (omega arith) (slot_upper ws tb p v l s n))))))

  -- ---- the sets, where G is what the table forwards

  module _ (G : ℕ → ℕ) where
    -- the table gives the addresses of the prefix v of length l their hops, with h from above
    abbrev pub Gives : ℕ → ℕ → ℕ → ℕ → Type 0
    Gives d v l h = (a : ℕ) → In d v a → carried (held t) d l h a ≡ G a

    module _ (p v l : ℕ) (s : At ws tb p v l) where
      here : (h : ℕ) → under (held t v l) h ≡ hop_in ws p h
      here h = ap (λ (x : ℕ). under x h) (slot_hop ws tb p v l s)

      pub gives_left : (d h : ℕ) → Gives (suc d) v l h → Gives d (2 * v) (suc l) (hop_in ws p h)
      unfolding carried
      gives_left d h g a i = let j = in_left d v a i in rw (here h) at (rw (in_head (suc d) v a j) at (g a j))

      pub gives_right : (d h : ℕ) → Gives (suc d) v l h → Gives d (2 * v + 1) (suc l) (hop_in ws p h)
      unfolding carried
      gives_right d h g a i = let j = in_right d v a i in rw (here h) at (rw (in_head (suc d) v a j) at (g a j))

      -- nothing in the halves: one hop
      pub flat : (d h : ℕ) → collect (held t) d (2 * v) (suc l) ≡ [] → collect (held t) d (2 * v + 1) (suc l) ≡ []
          → Gives (suc d) v l h → (set_of G (suc d) v ≡ only (hop_in ws p h)) × (cost G (suc d) v ≡ 0)
      flat d h x y g =
          let k = hop_in ws p h in
          one_hop G k (suc d) v (λ a i. in_half d v a i
          (λ j. sym (gives_left d h g a j)
          ∙ bare-carried (held t) d (2 * v) (suc l) k (ap length x) a j)
          (λ j. sym (gives_right d h g a j)
          ∙ bare-carried (held t) d (2 * v + 1) (suc l) k (ap length y) a j))

    -- the set and the cost of the prefix
    pub set_is : (d p v l h : ℕ) → l + d ≡ 32 → At ws tb p v l → Gives d v l h
        → (set_at ws d p h ≡ set_of G d v) × (cost_at ws d p h ≡ cost G d v)
    unfolding set_at cost_at set_of cost carried
    set_is zero p v l h e s g = (ap only (sym (here p v l s h) ∙ g v (in_one v)), refl)
    set_is (suc d) p v l h e s g =
        let k = hop_in ws p h in
        same (half_of ws p) 0
        (λ z q.
        let f = flat p v l s d h (bare-lower ws tb p v l s d z e) (bare_upper ws tb p v l s d z e) g in
        rw q (sym f.0, sym f.1))
        (λ n q.
        let i : 1 ≤ half_of ws p = omega arith in
        let x = set_is d (half_of ws p) (2 * v) (suc l) k (omega arith) (slot_lower ws tb p v l s i) (gives_left p v l s d h g) in
        let y = set_is d (half_of ws p + slot_words) (2 * v + 1) (suc l) k (omega arith) (slot_upper ws tb p v l s i)
        (gives_right p v l s d h g) in
        rw (q, x.0, x.1, y.0, y.1) (refl, refl))
