-- The entry of an index: of the prefixes that a byte of the index may have, as far as the mask tells, the longest. Under a mask
-- without collision a test of that one prefix finds the longest match of a byte. Assumes nothing.
--
--     1110xxxx, 11101111   mask 00001111     index 1111: 11101111       any other: 1110xxxx
--     byte 11101111 ── index 1111 ──▶ 11101111, and has it          byte 01101111 ── index 1111 ──▶ 11101111, and has none
use Rattle.std.specs.Prelude.{◌≡◌, ◌≢◌, Bool, cond, ◌&&◌, ℕ, ◌≤◌, ◌<◌, min}
use Rattle.std.proofs.Common.{sym, ◌∙◌, true≢false, arith, eqb-true, eq-eqb}
use Rattle.std.proofs.Math.Path.{ap}
use Rattle.std.proofs.Math.Logic.{⊎_elim}
use Rattle.std.proofs.Math.Bool.{true}
use Rattle.std.proofs.lemmas.Bool.{false≢true}
use Rattle.std.specs.Int.Bits.{bit_and, bit_xor}
use Rattle.std.proofs.lemmas.Nat.{and_le_r}
use Rattle.logic.specs.Cases.{bool, same}
use Rattle.logic.specs.Bools.{and_to, and_from}
use Rattle.sizes.specs.Sizes.{slot_end}
use Rattle.masks.specs.Bits.{bit, bit_lt, and_bit, xor_bit, differ_same, no_bits, inside_to}
use Rattle.masks.specs.Prefix.{value, reach, parted, added, apart, has, parted_lt, reach_lt}
use Rattle.masks.specs.Mask.{Free}
use Rattle.masks.specs.Index.{index, gather_lt, index_to, scatter, gather-scatter}
use Rattle.masks.specs.On.{On, masked, on_reflects, fits, both-set, asked, asks, has_on, fits_on, has-fits}
use Rattle.masks.specs.Top.{top, top_ge, top_case, top_is, top_none, top_bound, top_one, top_same}

-- the longest prefix of a byte: of two that it has, the longer has the higher slot
unfoldable pub longest : (ℕ → Bool) → ℕ → ℕ
longest held y = top (λ s. held s && has y s) slot_end

-- a prefix that the bytes of y's index may have
abbrev pub mapped : (ℕ → Bool) → ℕ → ℕ → ℕ → Bool
mapped held m y s = held s && fits m y s

unfoldable pub entry : (ℕ → Bool) → ℕ → ℕ → ℕ
entry held m y = top (mapped held m y) slot_end

-- that of index v
abbrev pub entry_at : (ℕ → Bool) → ℕ → ℕ → ℕ
entry_at held m v = entry held m (scatter 8 m v)

-- ---- two prefixes apart under m: a byte that has t, and may have s as far as m tells, has s

module _ (m y s t : ℕ) (may : fits m y s ≡ true) (own : has y t ≡ true) where
  on_s : On (bit_and m (reach s)) (value s) y
  on_s = (fits_on m y s).to may

  on_t : On (reach t) (value t) y
  on_t = (has_on y t).to own

  -- a bit that both have
  alike : parted s t ≡ 0 → (i : ℕ) → i < 8 → bit (reach s) i ≡ 1 → bit (reach t) i ≡ 1 → bit (value s) i ≡ bit y i
  alike q i l w x =
      let r = bit_and (reach s) (reach t) in
      let o = on_reflects r (value s) (value t) (omega (arith, and_le_r (reach s) (reach t), reach_lt t)) in
      (o.to (eq-eqb (parted s t) 0 q)).each i l (and_bit (reach s) (reach t) i ∙ rw (w, x)) ∙ on_t.each i l x

  -- a bit that only s has
  mine : bit_and m (added s t) ≡ added s t → (i : ℕ) → i < 8 → bit (reach s) i ≡ 1 → bit (reach t) i ≢ 1
      → bit (value s) i ≡ bit y i
  mine q i l w x =
      let z : bit (reach t) i ≡ 0 = omega (arith, bit_lt (reach t) i) in
      let a : bit (added s t) i ≡ 1 = xor_bit (reach s) (reach t) i ∙ rw (w, z) in
      on_s.each i l (asks m s i (omega (arith, inside_to m (added s t) i q, bit_lt m i)) w)

  -- no bit of m is one in which they differ
  unparted : (i : ℕ) → i < 8 → bit m i ≡ 1 → bit (parted s t) i ≡ 0
  unparted i l p =
      let x = bit_xor (value s) (value t) in
      let r = bit_and (reach s) (reach t) in
      and_bit x r i ∙ masked (bit x i) (bit r i) (bit_lt r i) (λ q.
      let w = both-set (bit (reach s) i) (bit (reach t) i) (bit_lt (reach s) i) (bit_lt (reach t) i)
      (sym (and_bit (reach s) (reach t) i) ∙ q) in
      xor_bit (value s) (value t) i ∙ rw (on_s.each i l (asks m s i p w.0), on_t.each i l w.1) (differ_same (bit y i)))

  shared : bit_and m (parted s t) ≡ 0
  shared =
      no_bits 8 (bit_and m (parted s t)) (omega (arith, and_le_r m (parted s t), parted_lt s t)) (λ i l.
      and_bit m (parted s t) i ∙ same (bit m i) 1
      (λ p _. let z = unparted i l p in omega arith)
      (λ p _. omega (arith, bit_lt m i)))

  pub two : apart m s t ≡ true → has y s ≡ true
  two e =
      same (parted s t) 0
      (λ q d. (has_on y s).from (record {
        each = λ i l w. same (bit (reach t) i) 1
            (λ x _. alike q i l w x)
            (λ x _. mine (eqb-true (bit_and m (added s t)) (added s t) (rw d at e)) i l w x);
      }))
      (λ n d. absurd (false≢true (rw (d, shared) at e)))

-- ---- the law

module _ (held : ℕ → Bool) (m y : ℕ) (free : Free held m) where
  may : ℕ → Bool
  may s = held s && fits m y s

  matched : ℕ → Bool
  matched s = held s && has y s

  -- the entry
  abbrev e : ℕ
  e = top may slot_end

  -- the byte has a prefix: then it has the entry, which is no shorter
  met : (s : ℕ) → s < slot_end → matched s ≡ true → (s ≤ e) × (has y e ≡ true)
  unfolding may matched
  met s h q =
      let a = and_to (held s) (has y s) q in
      let f : may s ≡ true = and_from (held s) (fits m y s) a.0 (has-fits m y s a.1) in
      let r = top_is may slot_end s h f in
      let l = top_ge may slot_end s h f in
      let b = and_to (held e) (fits m y e) r.0 in (
        l,
        same s e
            (λ z _. ap (has y) (sym z) ∙ a.1)
            (λ n _. two m y e s b.1 a.1 (free.pair e s r.1 (omega arith) b.0 a.0)),
      )

  found : has y e ≡ true → top matched slot_end ≡ e
  unfolding may matched
  found q = ⊎_elim
      (λ (w : (may e ≡ true) × (e < slot_end)).
      top_one matched slot_end e w.1 (and_from (held e) (has y e) (and_to (held e) (fits m y e) w.0).0 q)
      (λ j l v. (met j l v).0))
      (λ (w : e ≡ 0). let b = top_bound matched slot_end e (λ j l v. (met j l v).0) in omega arith)
      (top_case may slot_end)

  by_entry : top matched slot_end ≡ cond (has y e) e 0
  by_entry = bool (has y e)
      (λ q. rw q (found q))
      (λ q. rw q (top_none matched slot_end (λ k l.
      bool (matched k) (λ w. absurd (true≢false (sym (met k l w).1 ∙ q))) (λ w. w))))

-- the entry's prefix, if the byte has it, is the longest that it has; if it has not, there is none
pub longest_by_entry : (held : ℕ → Bool) (m y : ℕ) → Free held m
    → longest held y ≡ cond (has y (entry held m y)) (entry held m y) 0
unfolding longest entry may matched
longest_by_entry held m y free = by_entry held m y free

-- ---- the entry is told by the index

module _ (held : ℕ → Bool) (m : ℕ) where
  fits_swap : (y z : ℕ) → bit_and m y ≡ bit_and m z → (s : ℕ) → fits m y s ≡ true → fits m z s ≡ true
  fits_swap y z q s f =
      let o = (fits_on m y s).to f in
      (fits_on m z s).from (record {
        each = λ i l w.
            let d : min (bit m i) (bit y i) ≡ min (bit m i) (bit z i) =
            sym (and_bit m y i) ∙ ap (λ (n : ℕ). bit n i) q ∙ and_bit m z i in
            let c : bit y i ≡ bit z i = omega (arith, bit_lt y i, bit_lt z i, (asked m s i w).0) in
            o.each i l w ∙ c;
      })

  fits_same : (y z : ℕ) → bit_and m y ≡ bit_and m z → (s : ℕ) → fits m y s ≡ fits m z s
  fits_same y z q s =
      bool (fits m y s)
      (λ f. f ∙ sym (fits_swap y z q s f))
      (λ f. bool (fits m z s) (λ g. absurd (true≢false (sym (fits_swap z y (sym q) s g) ∙ f))) (λ g. f ∙ sym g))

  pub entry_same : (y z : ℕ) → bit_and m y ≡ bit_and m z → entry held m y ≡ entry held m z
  unfolding entry
  entry_same y z q =
      top_same (mapped held m y) (mapped held m z) slot_end (λ s _. ap (λ (b : Bool). held s && b) (fits_same y z q s))

  -- a byte finds its own at its index
  pub found_at : (y : ℕ) → m < 256 → entry_at held m (index m y) ≡ entry held m y
  found_at y h =
      entry_same (scatter 8 m (index m y)) y
      (index_to 8 m (scatter 8 m (index m y)) y h (gather-scatter 8 m (index m y) h (gather_lt 8 m y h)))

  -- an entry is a slot, and where it is not 0 a prefix of the array
  pub entry_lt : (y : ℕ) → entry held m y < slot_end
  unfolding entry
  entry_lt y = ⊎_elim
      (λ (w : (mapped held m y (top (mapped held m y) slot_end) ≡ true) × (top (mapped held m y) slot_end < slot_end)). w.1)
      (λ (w : top (mapped held m y) slot_end ≡ 0). omega arith)
      (top_case (mapped held m y) slot_end)

  pub entry-held : (y : ℕ) → entry held m y ≢ 0 → held (entry held m y) ≡ true
  unfolding entry
  entry-held y n =
      let t = top (mapped held m y) slot_end in
      ⊎_elim
      (λ (w : (mapped held m y t ≡ true) × (t < slot_end)). (and_to (held t) (fits m y t) w.0).0)
      (λ (w : t ≡ 0). absurd (n w))
      (top_case (mapped held m y) slot_end)
