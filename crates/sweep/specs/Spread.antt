-- Where the total of a slot is 0, one set serves it and all below it: that of the hop from above. Assumes nothing.
use Rattle.std.specs.Prelude.{◌≡◌, refl, List, [], length, set}
use Rattle.std.proofs.Common.{sym, ◌∙◌}
use Rattle.std.proofs.Math.Path.{ap}
use Prim.Native.Nat.{ℕ, zero, suc, ◌+◌, ◌*◌, ◌≤◌}
use native.Mathlib.Omega.{arith}
use Rattle.logic.specs.Cases.{same}
use Rattle.sizes.specs.Sizes.{slot_words}
use Rattle.routes.specs.Collect.{own, collect}
use Rattle.tree.specs.Arrays.{Arrays, held}
use Rattle.words.specs.Words.{arrays_of}
use Rattle.words.specs.TableBut.{Table}
use Rattle.words.specs.Half.{half_of}
use Rattle.shortest.specs.HopSet.{only}
use Rattle.shortest.specs.Leaf.{one_hop, bare-carried}
use Rattle.sweep.specs.Walk.{won_at, set_at, cost_at, store_at, spread_at}
use Rattle.sweep.specs.Slot.{At, slot_hop, slot_lower, slot_upper, collect-own, collect-halves}
use Rattle.sweep.specs.Sets.{set_is}

own_none : (d v l h : ℕ) → own d v l h ≡ [] → h ≡ 0
own_none d v l zero e = refl
own_none d v l (suc h) e = absurd (let z : ◌≡◌ {A = ℕ} 1 0 = ap length e in omega arith)

module _ (ws : List ℕ) (tb : Table 4 ws) (h : ℕ) where
  abbrev t : Arrays
  t = arrays_of ws

  -- nothing is collected: the slot has no hop of its own, and set and cost are those of h
  module _ (d p v l : ℕ) (e : l + d ≡ 32) (s : At ws tb p v l) (z : collect (held t) d v l ≡ []) where
    pub none_hop : won_at ws p ≡ 0
    none_hop = sym (slot_hop ws tb p v l s) ∙ own_none d v l (held t v l) (collect-own (held t) d v l z)

    pub none_set : (set_at ws d p h ≡ only h) × (cost_at ws d p h ≡ 0)
    none_set =
        let x = set_is ws tb (λ _. h) d p v l h e s (λ a i. bare-carried (held t) d v l h (ap length z) a i) in
        let y = one_hop (λ _. h) h d v (λ a i. refl) in
        (x.0 ∙ y.0, x.1 ∙ y.1)

  -- so the scratch is filled with one set
  pub store_spread : (d p v l : ℕ) (ms : List ℕ) → l + d ≡ 32 → At ws tb p v l → collect (held t) d v l ≡ []
      → store_at ws d p h ms ≡ spread_at ws d p (only h) ms
  unfolding store_at spread_at
  store_spread zero p v l ms e s z = ap (set ms p) (none_set zero p v l e s z).0
  store_spread (suc d) p v l ms e s z =
      let m = (none_set (suc d) p v l e s z).0 in
      let o = collect-halves (held t) d v l z in
      same (half_of ws p) 0
      (λ _ q. rw (q, m))
      (λ n q.
      let i : 1 ≤ half_of ws p = omega arith in
      let x = store_spread d (half_of ws p) (2 * v) (suc l) ms (omega arith) (slot_lower ws tb p v l s i) o.0 in
      let y = store_spread d (half_of ws p + slot_words) (2 * v + 1) (suc l) (spread_at ws d (half_of ws p) (only h) ms)
      (omega arith) (slot_upper ws tb p v l s i) o.1 in
      rw (q, m, none_hop (suc d) p v l e s z, x, y))
