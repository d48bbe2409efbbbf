-- A table's arrays need the words that its list needs: the prefixes of an array are those of its head in the list, so its mask is
-- too. Assumes nothing.
use Rattle.std.specs.Prelude.{◌≡◌, Bool, true, not, ◌&&◌, List, leb, ltb, eqb}
use Rattle.std.proofs.Math.Path.{refl}
use Rattle.std.proofs.Common.{sym, ap, ◌∙◌, le_refl, add-mul, mul_assoc, mul-le-mul_right, arith, pow-add, ne_eqb, le-leb}
use Rattle.std.proofs.Common.{leb-true, ltb-true, eqb-true}
use Rattle.std.proofs.lemmas.Bool.{false≢true}
use Prim.Native.Nat.{ℕ, zero, suc, ◌+◌, ◌-◌, ◌*◌, ◌/◌, ◌^◌, ◌≤◌, ◌<◌}
use Rattle.std.specs.Int.Count.{ones, count_leading_zeros}
use Rattle.logic.specs.Cases.{same, most}
use Rattle.logic.specs.Bools.{and_to}
use Rattle.logic.specs.Every.{all_b}
use Rattle.logic.specs.Reflects.{all_to_lem}
use Rattle.sizes.specs.Sizes.{slot_end, cell_slots, cell_count}
use Rattle.routes.specs.Route.{Route, hop_at}
use Rattle.routes.specs.Room.{mem, heads}
use Rattle.routes.specs.Collect.{routes}
use Rattle.laws.specs.Collect.{routes_hop}
use Rattle.candidates.specs.Winners.{winners}
use Rattle.masks.specs.Prefix.{spare, value}
use Rattle.masks.specs.Mask.{mask_of, ones_255}
use Rattle.masks.proofs.Mask.{mask_same}
use Rattle.tree.specs.Arrays.{Arrays, lev, node, held}
use Rattle.tree.specs.Shape.{Shape, Filled}
use Rattle.tree.specs.Tree.{path, is_child, reach, used-level, pow8}
use Rattle.tree.specs.Need.{held_at, at_some, node_child}
use Rattle.words.specs.Words.{arrays_of, array_count}
use Rattle.words.specs.Table.{list_of}
use Rattle.words.specs.TableBut.{Table}
use Rattle.words.specs.Stock.{table_winners}
use Rattle.packed.specs.Laid.{held_of, mask_at, entries_to, needed_for, mask_first}
use Rattle.packed_build.specs.Need.{hop_under, prefix_under, entries_under, sum_of, size_to, words_for}
use Rattle.packed_build.specs.Sums.{iff, used_sum, level_sum, levels_sum, used-levels, root_sum, level-heads}
use Rattle.packed_build.specs.Sums.{node-heads, heads-node}

-- ---- a slot from 2 on: its bits, and what is left of a byte

-- s is 2 ^ d + x
record Bits (s d x : ℕ) : Type 0 where
  some : 1 ≤ d
  most : d ≤ 8
  less : x < 2 ^ d
  whole : s ≡ 2 ^ d + x
  padded : value s ≡ x * 2 ^ (8 - d)

abbrev bits_b : ℕ → ℕ → Bool
bits_b s d = leb 1 d && (leb d 8 && (leb (2 ^ d) s && (ltb s (2 ^ d + 2 ^ d) && eqb (value s) ((s - 2 ^ d) * 2 ^ (8 - d)))))

all_bits : all_b (λ s. bits_b (s + 2) (8 - spare (s + 2))) 510 ≡ true
unfolding all_b count_leading_zeros
all_bits = refl

bits : (s : ℕ) → 2 ≤ s → s < slot_end → Bits s (8 - spare s) (s - 2 ^ (8 - spare s))
bits s h l =
    let k : s - 2 + 2 ≡ s = omega arith in
    let d = 8 - spare s in
    let e : bits_b s d ≡ true =
    rw k at (all_to_lem (λ s. bits_b (s + 2) (8 - spare (s + 2))) 510 all_bits (s - 2) (omega arith)) in
    let a = and_to (leb 1 d) _ e in
    let b = and_to (leb d 8) _ a.1 in
    let c = and_to (leb (2 ^ d) s) _ b.1 in
    let f = and_to (ltb s (2 ^ d + 2 ^ d)) _ c.1 in
    let low = leb-true (2 ^ d) s c.0 in
    let high = ltb-true s (2 ^ d + 2 ^ d) f.0 in
    record {
      some = leb-true 1 d a.0;
      most = leb-true d 8 b.0;
      less = omega arith;
      whole = omega arith;
      padded = eqb-true (value s) ((s - 2 ^ d) * 2 ^ (8 - d)) f.1;
    }

-- a head and a slot's bits, with 0 after them
pad : (z x p q g : ℕ) → p * q ≡ 256 → (z * 256 + x * q) * g ≡ (z * p + x) * (q * g)
pad z x p q g e =
    ap (λ (n : ℕ). n * g) (rw (← e) (sym (add-mul (z * p) x q ∙ ap (λ (n : ℕ). n + x * q) (mul_assoc z p q))))
    ∙ mul_assoc (z * p + x) q g

-- ---- one array

module _ (A L : ℕ) (t : Arrays) (sh : Shape A L t) (full : Filled A t 0) where
  abbrev W : ℕ
  W = 8 * L

  abbrev rs : List Route
  rs = routes W (held t)

  -- of level k, and not the root
  module _ (k a : ℕ) (some : 1 ≤ a) (within : a ≤ A) (level : lev t a ≡ suc k) (first : t.slot a 1 ≡ 0) where
    abbrev z : ℕ
    z = path t k a

    leads : node t z k ≡ a
    leads = (reach A L t sh k a some within level).leads

    small : z < 2 ^ (8 * k)
    small = (reach A L t sh k a some within level).small

    deep : suc k ≤ L
    deep = omega (arith, (used-level A L t sh a some within (omega arith)).1)

    -- where its slots stand in the list
    slot_hop : (s : ℕ) → 2 ≤ s → s < slot_end → hop_under W rs (8 * k) z s ≡ t.slot a s
    slot_hop s h l =
        let d = 8 - spare s in
        let x = s - 2 ^ d in
        let b = bits s h l in
        let v = z * 2 ^ d + x in
        let n = 8 * k + d in
        let e : (z * 256 + value s) * 2 ^ (W - (8 * k + 8)) ≡ v * 2 ^ (W - n) = place d x s b in
        let fits : v < 2 ^ n = omega (arith, pow-add 2 (8 * k) d, mul-le-mul_right (2 ^ d) small, b.less) in
        ap (λ (q : ℕ). hop_at rs (q * 256 + n)) e
        ∙ routes_hop W (omega (arith, sh.levels)) (held t) v n (omega (arith, b.most, deep)) fits
        ∙ held_at t z k d x b.some b.most b.less
        ∙ rw (leads, ← b.whole) (at_some t a s some)
      where
        place : (d x s : ℕ) → Bits s d x → (z * 256 + value s) * 2 ^ (W - (8 * k + 8)) ≡ (z * 2 ^ d + x) * 2 ^ (W - (8 * k + d))
        place d x s b =
            let g = W - (8 * k + 8) in
            let r : 8 - d + g ≡ W - (8 * k + d) = omega (arith, b.most, deep) in
            let o : d + (8 - d) ≡ 8 = omega (arith, b.most) in
            let q : 2 ^ d * 2 ^ (8 - d) ≡ 256 = sym (pow-add 2 d (8 - d)) ∙ ap (λ (n : ℕ). 2 ^ n) o in
            rw (b.padded, ← r, pow-add 2 (8 - d) g) (pad z x (2 ^ d) (2 ^ (8 - d)) (2 ^ g) q)

    link_head : (i : ℕ) → i < cell_count → not (eqb (t.link a i) 0) ≡ mem (z * 256 + i) (heads W (8 * suc k) rs)
    link_head i h =
        let e : node t (z * 256 + i) (suc k) ≡ t.link a i =
        node_child t z k i h (rw leads some) ∙ ap (λ (b : ℕ). t.link b i) leads in
        let l : z * 256 + i < 2 ^ (8 * suc k) = omega (arith, pow8 k, small) in
        iff (not (eqb (t.link a i) 0)) (mem (z * 256 + i) (heads W (8 * suc k) rs))
        (λ q. same (t.link a i) 0
        (λ n d. absurd (false≢true (rw d at q)))
        (λ n d. node-heads A L t sh full (suc k) (z * 256 + i) (omega arith) deep l (omega (arith, e))))
        (λ q. let n = (heads-node A L t sh full (suc k) (z * 256 + i) (omega arith) q).0 in
        rw (ne_eqb (t.link a i) 0 (λ w. omega (arith, e))))

    prefix-held : (s : ℕ) → s < slot_end → held_of t a s ≡ prefix_under W rs (8 * k) z s
    prefix-held s h =
        let r : 8 * k + 8 ≡ 8 * suc k = omega arith in
        same s 0 (λ q _. rw q) (λ n _. same s 1
        (λ q _. rw (q, first))
        (λ m _. rw (le-leb 1 s (omega arith), le-leb 2 s (omega arith), slot_hop s (omega arith) h) (most cell_slots s
        (λ l d. rw (d, r, link_head (s - cell_slots) (omega arith)))
        (λ l d. rw d))))

    pub mask_under : 2 ≤ a → mask_at t a ≡ mask_of (prefix_under W rs (8 * k) z)
    unfolding mask_at
    mask_under h =
        rw (ne_eqb a 1 (λ e. omega arith)) (mask_same (held_of t a) (prefix_under W rs (8 * k) z) prefix-held)

  -- ---- all arrays

  abbrev weight : ℕ → ℕ
  weight a = 2 ^ ones (mask_at t a)

  entries-sum : (n : ℕ) → entries_to t n ≡ used_sum t weight n
  unfolding entries_to used_sum
  entries-sum zero = refl
  entries-sum (suc n) = rw (entries-sum n)

  module _ (first : (a : ℕ) → 2 ≤ a → a ≤ A → 1 ≤ t.tag a → t.slot a 1 ≡ 0) where
    not_root : (k a : ℕ) → 1 ≤ k → lev t a ≡ suc k → 1 ≤ a → 2 ≤ a
    not_root k a h e s = same a 1 (λ q _. absurd (omega (arith, sh.root, ap (lev t) q))) (λ n _. omega arith)

    level-size : (k : ℕ) → 1 ≤ k → k < L → level_sum t weight k A ≡ sum_of (entries_under W rs (8 * k)) (heads W (8 * k) rs)
    level-size k h l =
        level-heads A L t sh full (entries_under W rs (8 * k)) weight k h l (λ a s w e.
        let two = not_root k a h e s in
        ap (λ (m : ℕ). 2 ^ ones m) (mask_under k a s w e (first a two w (omega arith)) two))

    levels-size : (j : ℕ) → j < L → levels_sum t weight (suc j) A ≡ size_to W j rs
    unfolding size_to
    levels-size zero h =
        let e : weight 1 ≡ cell_count = rw (mask_first t, ones_255) in omega (arith, root_sum A L t sh weight, e)
    levels-size (suc j) h = omega (arith, levels-size j (omega arith), level-size (suc j) (omega arith) h)

    pub entries-size : (J : ℕ) → L ≡ suc J → entries_to t A ≡ size_to W J rs
    entries-size J e =
        entries-sum A ∙ used-levels A L t sh weight A (le_refl A) ∙ ap (λ (k : ℕ). levels_sum t weight k A) e
        ∙ levels-size J (omega arith)

-- ---- a table

-- the slot of length 0 is the root's
first_none : (L : ℕ) (ts : List ℕ) → Table L ts → (a : ℕ) → 2 ≤ a → a ≤ array_count ts → 1 ≤ (arrays_of ts).tag a
    → (arrays_of ts).slot a 1 ≡ 0
first_none L ts o a h w u =
    let c = is_child (array_count ts) L (arrays_of ts) o.shape a h w u in
    (o.right a (omega arith) w u).first (omega (arith, c.named, c.used, c.deep, o.shape.levels))

pub table_words : (L : ℕ) (ts : List ℕ) → Table L ts
    → needed_for (arrays_of ts) (array_count ts) ≡ words_for (8 * L) (winners (list_of L ts))
table_words zero ts o = absurd (omega (arith, o.shape.some_level))
table_words (suc J) ts o =
    let e : 8 * suc J / 8 - 1 ≡ J = omega arith in
    rw (
      e,
      table_winners (suc J) ts o,
      entries-size (array_count ts) (suc J) (arrays_of ts) o.shape o.filled
          (first_none (suc J) ts o) J refl,
    )
