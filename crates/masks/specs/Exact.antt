-- The two properties say exactly this: of the bytes with one index, all that have a prefix have the same longest one. So no mask
-- is left out that an entry for each index would allow, and none has fewer set bits than the one chosen. Assumes nothing.
--
--     two properties ── entries are told by the index ──▶ one longest prefix for each index
--     one longest    ── bytes of one index, made to have two prefixes that are not apart ──▶ two properties
use Rattle.std.specs.Prelude.{◌≡◌, refl, ◌≢◌, Bool, true, false, cond, ◌&&◌, ℕ, zero, suc, ◌*◌, ◌^◌, ◌≤◌, ◌<◌, min}
use Rattle.std.proofs.Common.{sym, ap, ◌∙◌, mul_assoc, mul-le-mul_left, mul-le-mul_right, arith, pow_mono, eq-eqb, ne_eqb, le-leb}
use Rattle.std.proofs.Math.Nat.{pow-succ'}
use Rattle.std.specs.Int.Bits.{bit_and, bit_xor, differ}
use Rattle.std.proofs.lemmas.Nat.{xor_lt, and_le_l, and_le_r}
use Rattle.logic.specs.Cases.{same, less, most}
use Rattle.logic.specs.Bools.{and_to, and_from}
use Rattle.sizes.specs.Sizes.{slot_end}
use Rattle.masks.specs.Bits.{bit, bit_lt, and_bit, xor_bit, differ_to, zero_bit, no_bits, same_bits, inside_from, high_bit}
use Rattle.masks.specs.Prefix.{spare, value, reach, parted, added, has, slot, parted_lt, added_lt}
use Rattle.masks.specs.Mask.{Free}
use Rattle.masks.specs.Index.{index, index_from, index_to}
use Rattle.masks.specs.On.{On, has_on}
use Rattle.masks.specs.Top.{top_ge, top_is}
use Rattle.masks.specs.Entry.{longest, entry, longest_by_entry, entry_same}

-- of the bytes with one index, all that have a prefix have one longest
pub record One (held : ℕ → Bool) (m : ℕ) : Type 0 where
  pub longest_one : (y z : ℕ) → y < 256 → z < 256 → index m y ≡ index m z → longest held y ≢ 0 → longest held z ≢ 0
      → longest held y ≡ longest held z

-- ---- the two properties give one

chosen_of : (b : Bool) (e : ℕ) → cond b e 0 ≢ 0 → cond b e 0 ≡ e
chosen_of true e n = refl
chosen_of false e n = absurd (n refl)

pub free_one : (held : ℕ → Bool) (m : ℕ) → m < 256 → Free held m → One held m
free_one held m h f = record {
  longest_one = λ y z a b q p r.
      let x = longest_by_entry held m y f in
      let w = longest_by_entry held m z f in
      let e = entry_same held m y z (index_to 8 m y z h q) in
      let u = chosen_of (has y (entry held m y)) (entry held m y) (λ o. p (x ∙ o)) in
      let v = chosen_of (has z (entry held m z)) (entry held m z) (λ o. r (w ∙ o)) in
      x ∙ u ∙ e ∙ sym v ∙ sym w;
}

-- ---- a higher slot has no fewer bits

spare_le : (s u : ℕ) → 1 ≤ s → s ≤ u → u < slot_end → spare u ≤ spare s
spare_le s u h l k =
    let a = slot s h (omega arith) in
    let b = slot u (omega arith) k in
    less (spare s) (spare u)
    (λ q _.
    let e : 2 ^ suc (spare s) ≤ 2 ^ spare u = pow_mono {i = suc (spare s)} {j = spare u} q in
    absurd (too_high s u (2 ^ spare s) (2 ^ spare u) (omega (arith, pow-succ' 2 (spare s))) l a.low b.high))
    (λ q _. q)
  where
    too_high : (s u p q : ℕ) → p * 2 ≤ q → s ≤ u → 256 ≤ s * p → u * q < 512 → ⊥
    too_high s u p q e l a b =
        let x : s * (p * 2) ≤ s * q = mul-le-mul_left s e in
        let y : s * q ≤ u * q = mul-le-mul_right q l in
        let z : s * (p * 2) ≡ s * p * 2 = sym (mul_assoc s p 2) in
        omega arith

reach_of : (s u i : ℕ) → 1 ≤ s → s ≤ u → u < slot_end → i < 8 → bit (reach s) i ≡ 1 → bit (reach u) i ≡ 1
reach_of s u i h l k q e =
    let a = (slot s h (omega arith)).short in
    let b = (slot u (omega arith) k).short in
    let c = spare_le s u h l k in
    let f = high_bit (spare s) i a q in
    most (spare s) i
    (λ w _. high_bit (spare u) i b q ∙ rw (le-leb (spare u) i (omega arith)))
    (λ w d. absurd (let n : bit (reach s) i ≡ 0 = rw d at f in omega arith))

-- ---- one longest gives the two properties

-- a digit that is exclusive or with another stays only where that is 0
alone : (a b : ℕ) → a < 2 → b < 2 → a ≡ differ a b → b ≡ 0
alone zero b h l q = sym q
alone (suc a) zero h l q = refl
alone (suc zero) (suc b) h l q = absurd (omega arith)
alone (suc (suc a)) (suc b) h l q = absurd (omega arith)

differ_twice : (a b : ℕ) → a < 2 → b < 2 → differ a (differ a b) ≡ b
differ_twice zero b h l = refl
differ_twice (suc zero) zero h l = refl
differ_twice (suc zero) (suc zero) h l = refl
differ_twice (suc zero) (suc (suc b)) h l = absurd (omega arith)
differ_twice (suc (suc a)) b h l = absurd (omega arith)

-- the bits of a that b has not
unmet : (a b : ℕ) → a < 2 → b < 2 → (differ a (min b a) ≤ a) × (min b (differ a (min b a)) ≡ 0)
unmet zero b h l = (omega arith, omega arith)
unmet (suc zero) zero h l = (omega arith, refl)
unmet (suc zero) (suc zero) h l = (omega arith, refl)
unmet (suc zero) (suc (suc b)) h l = absurd (omega arith)
unmet (suc (suc a)) b h l = absurd (omega arith)

differ_le : (a b : ℕ) → a < 2 → b ≤ a → differ a b ≤ a
differ_le zero b h l = l
differ_le (suc zero) zero h l = omega arith
differ_le (suc zero) (suc zero) h l = omega arith
differ_le (suc zero) (suc (suc b)) h l = absurd (omega arith)
differ_le (suc (suc a)) b h l = absurd (omega arith)

differ_none : (a : ℕ) → differ a 0 ≡ a
differ_none zero = refl
differ_none (suc a) = refl

value_lt : (s : ℕ) → s < slot_end → 1 ≤ s → value s < 256
value_lt s h l = omega (arith, (slot s l h).high)

-- a prefix has its own bits
own-has : (s : ℕ) → has (value s) s ≡ true
own-has s = (has_on (value s) s).from (record { each = λ i l q. refl })

module _ (held : ℕ → Bool) (m : ℕ) (fit : m < 256) (one : One held m) (from_one : (s : ℕ) → held s ≡ true → 1 ≤ s)
    (s t : ℕ) (hs : s < slot_end) (ht : t < slot_end) (ps : held s ≡ true) (pt : held t ≡ true) where
  -- the longest prefix of a byte that has the prefix r
  found : (y r : ℕ) → r < slot_end → held r ≡ true → has y r ≡ true
      → (r ≤ longest held y) × (has y (longest held y) ≡ true) × (longest held y < slot_end)
  unfolding longest
  found y r h p q =
      let f = and_from (held r) (has y r) p q in
      let u = top_is (λ s. held s && has y s) slot_end r h f in (
        top_ge (λ s. held s && has y s) slot_end r h f,
        (and_to (held (longest held y)) (has y (longest held y)) u.0).1,
        u.1,
      )

  -- bytes y and z of one index, y with the prefix s and z with t, agree on the bits of s
  agree : (y z : ℕ) → y < 256 → z < 256 → bit_and m y ≡ bit_and m z → has y s ≡ true → has z t ≡ true → On (reach s) y z
  agree y z hy hz e a b =
      let f = found y s hs ps a in
      let g = found z t ht pt b in
      let k = from_one s ps in
      let l = from_one t pt in
      let q : longest held y ≡ longest held z =
      one.longest_one y z hy hz (index_from 8 m y z e) (λ n. omega arith) (λ n. omega arith) in
      let u = longest held y in
      let o = (has_on y u).to f.1 in
      let p = (has_on z u).to (rw (← q) at g.1) in
      record {
        each = λ i h r.
            let w = reach_of s u i k f.0 f.2 h r in
            sym (o.each i h w) ∙ p.each i h w;
      }

  -- bits of s that the mask has not, and with which the prefix's own byte has t: there are none
  none_missing : (d : ℕ) → d < 256 → bit_and m d ≡ 0 → ((i : ℕ) → i < 8 → bit d i ≤ bit (reach s) i)
      → has (bit_xor (value s) d) t ≡ true → d ≡ 0
  none_missing d h e inside b =
      let y = value s in
      let z = bit_xor y d in
      let hy : y < 256 = value_lt s hs (from_one s ps) in
      let o = agree y z hy (xor_lt 8 y d hy h) (unasked y) (own-has s) b in
      no_bits 8 d h (λ i l. same (bit (reach s) i) 1
      (λ r _. alone (bit y i) (bit d i) (bit_lt y i) (bit_lt d i) (o.each i l r ∙ xor_bit y d i))
      (λ r _. let q = inside i l in omega (arith, bit_lt (reach s) i)))
    where
      unasked : (y : ℕ) → bit_and m y ≡ bit_and m (bit_xor y d)
      unasked y =
          same_bits 8 (bit_and m y) (bit_and m (bit_xor y d)) (omega (arith, and_le_l m y))
          (omega (arith, and_le_l m (bit_xor y d)))
          (λ i l.
          let n : min (bit m i) (bit d i) ≡ 0 = sym (and_bit m d i) ∙ ap (λ (x : ℕ). bit x i) e ∙ zero_bit i in
          and_bit m y i ∙ same (bit m i) 0
          (λ q _. rw q (omega arith))
          (λ q _. let z : bit d i ≡ 0 = omega arith in rw (xor_bit y d i, z, differ_none (bit y i)))
          ∙ sym (and_bit m (bit_xor y d) i))

  -- of two prefixes the longer, or one of two as long
  module _ (high : t < s) where
    low_t : 1 ≤ t
    low_t = from_one t pt

    -- a bit of t is one of s
    within : (i : ℕ) → i < 8 → bit (reach t) i ≤ bit (reach s) i
    within i l = same (bit (reach t) i) 1
        (λ q _. let r = reach_of t s i low_t (omega arith) hs l q in omega arith)
        (λ q _. omega (arith, bit_lt (reach t) i))

    -- a bit that both have
    both : (i : ℕ) → i < 8 → bit (reach t) i ≡ 1 → bit (parted s t) i ≡ differ (bit (value s) i) (bit (value t) i)
    both i l q =
        let x = bit_xor (value s) (value t) in
        let r : bit (reach s) i ≡ 1 = omega (arith, within i l, bit_lt (reach s) i) in
        let w : bit (bit_and (reach s) (reach t)) i ≡ 1 = and_bit (reach s) (reach t) i ∙ rw (q, r) in
        and_bit x (bit_and (reach s) (reach t)) i ∙ rw w (omega (arith, bit_lt x i)) ∙ xor_bit (value s) (value t) i

    -- where they differ in bits that both have, the mask has one of them
    differing : parted s t ≢ 0 → bit_and m (parted s t) ≢ 0
    differing n e =
        let d = parted s t in
        let x = bit_xor (value s) (value t) in
        n (none_missing d (parted_lt s t) e
        (λ i l. omega (arith, and_bit x (bit_and (reach s) (reach t)) i, and_bit (reach s) (reach t) i))
        ((has_on (bit_xor (value s) d) t).from (record {
          each = λ i l q. sym (xor_bit (value s) d i ∙ rw (both i l q)
              (differ_twice (bit (value s) i) (bit (value t) i) (bit_lt (value s) i) (bit_lt (value t) i)));
        })))

    -- where they differ in none, the mask has all that the longer adds
    adding : parted s t ≡ 0 → bit_and m (added s t) ≡ added s t
    adding e = inside_from 8 m a (added_lt s t) (λ i l.
        let z : differ (bit a i) (min (bit m i) (bit a i)) ≡ 0 = sym (d_bit i) ∙ ap (λ (n : ℕ). bit n i) d_none ∙ zero_bit i in
        let q = differ_to (bit a i) (min (bit m i) (bit a i)) z in omega arith)
      where
        a : ℕ
        a = added s t

        -- what the longer adds and the mask has not
        d : ℕ
        d = bit_xor a (bit_and m a)

        d_bit : (i : ℕ) → bit d i ≡ differ (bit a i) (min (bit m i) (bit a i))
        d_bit i = xor_bit a (bit_and m a) i ∙ ap (differ (bit a i)) (and_bit m a i)

        a_bit : (i : ℕ) → bit a i ≡ differ (bit (reach s) i) (bit (reach t) i)
        a_bit i = xor_bit (reach s) (reach t) i

        d_none : d ≡ 0
        d_none =
            none_missing d (xor_lt 8 a (bit_and m a) (added_lt s t) (omega (arith, and_le_r m a, added_lt s t)))
            (no_bits 8 (bit_and m d) (omega (arith, and_le_l m d)) (λ i l.
            and_bit m d i ∙ rw (d_bit i) (unmet (bit a i) (bit m i) (bit_lt a i) (bit_lt m i)).1))
            (λ i l. d_in i l) ((has_on (bit_xor (value s) d) t).from (record { each = λ i l q. still i l q }))
          where
            d_le : (i : ℕ) → bit d i ≤ bit a i
            d_le i = rw (d_bit i) (unmet (bit a i) (bit m i) (bit_lt a i) (bit_lt m i)).0

            d_in : (i : ℕ) → i < 8 → bit d i ≤ bit (reach s) i
            d_in i l =
                let w = within i l in
                let r = differ_le (bit (reach s) i) (bit (reach t) i) (bit_lt (reach s) i) w in
                omega (arith, d_le i, a_bit i)

            -- no bit of t is changed
            still : (i : ℕ) → i < 8 → bit (reach t) i ≡ 1 → bit (value t) i ≡ bit (bit_xor (value s) d) i
            still i l q =
                let r : bit (reach s) i ≡ 1 = omega (arith, within i l, bit_lt (reach s) i) in
                let n : bit a i ≡ 0 = a_bit i ∙ rw (r, q) in
                let z : bit d i ≡ 0 = omega (arith, d_le i) in
                let o : differ (bit (value s) i) (bit (value t) i) ≡ 0 =
                sym (both i l q) ∙ ap (λ (x : ℕ). bit x i) e ∙ zero_bit i in
                sym (xor_bit (value s) d i ∙ rw (z, differ_none (bit (value s) i))
                (differ_to (bit (value s) i) (bit (value t) i) o))

pub one_free : (held : ℕ → Bool) (m : ℕ) → m < 256 → ((s : ℕ) → held s ≡ true → 1 ≤ s) → One held m → Free held m
one_free held m fit from_one one = record {
  pair = λ s t h l p q.
      let k : t < slot_end = omega arith in
      same (parted s t) 0
      (λ z d. rw d (eq-eqb _ _ (adding held m fit one from_one s t h k p q l z)))
      (λ n d. rw (d, ne_eqb (bit_and m (parted s t)) 0 (differing held m fit one from_one s t h k p q l n)));
}
