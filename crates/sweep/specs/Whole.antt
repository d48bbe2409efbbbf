-- The two passes over a whole table give the shortest list. Assumes nothing.
use Rattle.std.specs.Prelude.{◌≡◌, List, length, get_or}
use Rattle.std.proofs.Math.Path.{refl, sym, ap}
use Rattle.std.proofs.Common.{◌∙◌}
use Prim.Native.Nat.{ℕ, zero, suc, ◌+◌, ◌-◌, ◌*◌, ◌^◌, ◌≤◌, ◌<◌}
use native.Mathlib.Omega.{arith}
use Rattle.logic.specs.Cases.{same}
use Rattle.sizes.specs.Sizes.{slot_words, root_slot}
use Rattle.routes.specs.Route.{Route, All}
use Rattle.routes.specs.Route as plain
use Rattle.routes.specs.Collect.{collect, routes}
use Rattle.laws.specs.Collect.{routes_hop}
use Rattle.laws.specs.Longest.{longest-walk, routes_wfs}
use Rattle.candidates.specs.Winners.{winners}
use Rattle.tree.specs.Arrays.{held}
use Rattle.gather.proofs.Views.{tree_winners}
use Rattle.words.specs.Words.{feeds_of, arrays_of, array_count}
use Rattle.words.specs.Table.{list_of}
use Rattle.words.specs.TableBut.{Table}
use Rattle.words.specs.Half.{half_of}
use Rattle.words.specs.Empty.{total_in}
use Rattle.writing.specs.Halves.{slot_root, slot_small}
use Rattle.shortest.specs.Shortest.{hop_of, forwards, upto}
use Rattle.shortest.specs.Chosen.{pick, under, above, chosen, shortest}
use Rattle.shortest.specs.Inside.{In}
use Rattle.shortest.specs.Given.{Hops, hops-left, hops_right, set_at, below}
use Rattle.shortest.proofs.Leaf.{chosen_leaf}
use Rattle.shortest.specs.Lists.{carried_last}
use Rattle.shortest.specs.Proved.{Upto, upto_hop, forwards_some, forwards-upto}
use Rattle.shortest.proofs.Proved.{whole_length}
use Rattle.sweep.specs.Walk.{won_at, hop_in, small_at, cost_at, store_at, routes_at}
use Rattle.sweep.specs.Slot.{At, slot_hop, slot_lower, slot_upper, bare-lower, bare_upper, empty_below}
use Rattle.sweep.specs.Sets.{Gives, gives_left, gives_right, flat, set_is, small_is}
use Rattle.sweep.specs.Stored.{Done, store_is}

-- the winners that a table stands for
abbrev pub won_of : List ℕ → List Route
won_of ws = winners (list_of 4 ws)

module _ (ws : List ℕ) (tb : Table 4 ws) where
  -- ---- the routes

  module _ (G : ℕ → ℕ) where
    -- h from above in the table, g from above in what is chosen
    pub routes_are : (d p v l h g : ℕ) (ms : List ℕ) → l + d ≡ 32 → At ws tb p v l → Gives ws tb G d v l h → Hops 32 G d v
        → Done ws tb G ms d p v → g ≡ above 32 32 G l v → routes_at ws ms d p v g ≡ collect (chosen 32 32 G) d v l
    unfolding routes_at collect Done
    routes_are zero p v l h g ms e s f b c i =
        let q : l ≡ 32 = omega arith in
        rw (c, i, set_at 32 32 G zero v l e, q)
    routes_are (suc d) p v l h g ms e s f b c i =
        let q : 32 - suc d ≡ l = omega arith in
        let r : pick 32 (get_or ms p 0) g ≡ chosen 32 32 G v l = rw (c.0, i) (sym (set_at 32 32 G (suc d) v l e)) in
        same (total_in ws p) 0
        (λ z y.
        let o = empty_below ws tb p v l s z d e in
        let k = chosen_leaf 32 32 G d v l e b (flat ws tb G p v l s d h o.0 o.1 f).1 in
        rw (y, q, r, k.0, k.1))
        (λ _ x. same (half_of ws p) 0
        (λ z y.
        let o = flat ws tb G p v l s d h (bare-lower ws tb p v l s d z e) (bare_upper ws tb p v l s d z e) f in
        let k = chosen_leaf 32 32 G d v l e b o.1 in
        rw (x, y, q, r, k.0, k.1))
        (λ n y.
        let m : 1 ≤ half_of ws p = omega arith in
        let o = under (chosen 32 32 G v l) g in
        let u : o ≡ under (chosen 32 32 G v l) (above 32 32 G l v) = rw i in
        rw (
          x,
          y,
          q,
          r,
          routes_are d (half_of ws p) (2 * v) (suc l) (hop_in ws p h) o ms (omega arith) (slot_lower ws tb p v l s m)
              (gives_left ws tb G p v l s d h f) (hops-left 32 G d v b) (c.1 m).0
              (u ∙ sym (below 32 32 G d v l (2 * v) e (omega arith))),
          routes_are d (half_of ws p + slot_words) (2 * v + 1) (suc l) (hop_in ws p h) o ms (omega arith)
              (slot_upper ws tb p v l s m) (gives_right ws tb G p v l s d h f) (hops_right 32 G d v b) (c.1 m).1
              (u ∙ sym (below 32 32 G d v l (2 * v + 1) e (omega arith))),
        )))

  -- ---- the whole table

  pub won_list : won_of ws ≡ routes 32 (held (arrays_of ws))
  won_list = tree_winners (array_count ws) 4 (feeds_of ws) tb.shape tb.words 32 (omega arith)

  -- the default route is in the root's first slot
  pub default_is : plain.held (won_of ws) 0 0 ≡ won_at ws root_slot
  default_is =
      ap (λ (rs : List Route). plain.held rs 0 0) won_list
      ∙ routes_hop 32 (omega arith) (held (arrays_of ws)) 0 0 (omega arith) (omega arith)
      ∙ slot_hop ws tb root_slot 0 0 (slot_root 4 ws tb)

  -- all hops are small
  pub small_whole : small_at ws 32 root_slot ≡ upto 32 (won_of ws)
  unfolding routes
  small_whole = small_is ws tb 32 root_slot 0 0 refl (slot_root 4 ws tb) ∙ sym (ap (upto 32) won_list)

  -- and so is each
  pub small_slot : All (Upto 32) (won_of ws) → (p v l : ℕ) → l ≤ 32 → At ws tb p v l → won_at ws p ≤ 32
  small_slot u p v l h s =
      let k = v * 2 ^ (32 - l) * 256 + l in
      let e = routes_hop 32 (omega arith) (held (arrays_of ws)) v l h (slot_small 4 ws tb p v l s) in
      omega (
        arith,
        upto_hop 32 (won_of ws) k u,
        ap (λ (rs : List Route). plain.hop_at rs k) won_list ∙ e ∙ slot_hop ws tb p v l s,
      )

  abbrev G : ℕ → ℕ
  G = forwards 32 (won_of ws)

  low_address : (a : ℕ) → In 32 0 a → a < 2 ^ 32
  low_address a i = omega (arith, i.to)

  gives_whole : Gives ws tb G 32 0 0 0
  gives_whole a i =
      carried_last (held (arrays_of ws)) 32 a
      ∙ sym (ap hop_of (longest-walk 32 (held (arrays_of ws)) a (omega arith) (low_address a i)))
      ∙ sym (ap (λ (rs : List Route). forwards 32 rs a) won_list)

  module _ (p : 1 ≤ plain.held (won_of ws) 0 0) (u : All (Upto 32) (won_of ws)) where
    hops : (a : ℕ) → a < 2 ^ 32 → (1 ≤ G a) × (G a ≤ 32)
    hops a b = (
      forwards_some 32 a (won_of ws) (omega arith) (rw won_list (routes_wfs 32 (held (arrays_of ws)))) p b,
      forwards-upto 32 32 a (won_of ws) u,
    )

    hops_whole : Hops 32 G 32 0
    hops_whole a i = hops a (low_address a i)

    -- how many routes
    pub cost_whole : cost_at ws 32 root_slot 0 + 1 ≡ length (shortest 32 32 (won_of ws))
    unfolding shortest
    cost_whole =
        ap (λ (n : ℕ). n + 1) (set_is ws tb G 32 root_slot 0 0 0 refl (slot_root 4 ws tb) gives_whole).1
        ∙ sym (whole_length 32 32 (omega arith) (omega arith) G hops)

    -- which
    pub routes_whole : (ms : List ℕ) → length ws ≤ length ms
        → routes_at ws (store_at ws 32 root_slot 0 ms) 32 root_slot 0 0 ≡ shortest 32 32 (won_of ws)
    unfolding shortest routes above
    routes_whole ms h =
        routes_are G 32 root_slot 0 0 0 0 (store_at ws 32 root_slot 0 ms) refl (slot_root 4 ws tb) gives_whole hops_whole
        (store_is ws tb G 32 root_slot 0 0 0 ms refl (slot_root 4 ws tb) gives_whole h).1 refl
