-- The slot of a prefix in a table: its winning hop is the prefix's, one prefix stands in it, and where its halves have no slots
-- nothing is held below it, nor where its total is 0. Assumes nothing.
use Rattle.std.specs.Prelude.{◌≡◌, refl, List, [], ◌∷◌, ◌++◌, ℕ, zero, suc, ◌+◌, ◌-◌, ◌*◌, ◌^◌, ◌≤◌, ◌<◌, length}
use Rattle.std.proofs.Common.{sym, ap, ap₂, ◌∙◌, arith, length-append, pow_mono}
use Rattle.sizes.specs.Sizes.{slot_words, slot_end}
use Rattle.routes.specs.Collect.{own, collect}
use Rattle.slots.specs.Word.{hop_in, each-feed}
use Rattle.slots.specs.Winner.{lower, won_hop, winner_same}
use Rattle.tree.specs.Arrays.{held}
use Rattle.tree.proofs.Tree.{node_inj}
use Rattle.tree.specs.SlotSet as slots
use Rattle.gather.specs.Gather.{meant, listed, of_feeds, of_slot, gather}
use Rattle.gather.specs.Views.{word_held}
use Rattle.gather.proofs.Views.{held_won}
use Rattle.words.specs.Words.{feeds_of, arrays_of, array_count}
use Rattle.words.specs.TableBut.{Table}
use Rattle.words.specs.Half.{half_of}
use Rattle.words.specs.Empty.{total_in}
use Rattle.writing.specs.Halves.{InSlot, slot_words_fact, slot_bare, slot_half, half_bare}
use Rattle.sweep.specs.Walk.{won_at}

-- ---- no candidates, no hop

list_none : {A : Type 0} (xs : List A) → length xs ≡ 0 → xs ≡ []
list_none [] e = refl
list_none (x ∷ xs) e = absurd (omega arith)

both_none : {A : Type 0} (xs ys : List A) → xs ++ ys ≡ [] → (xs ≡ []) × (ys ≡ [])
both_none xs ys e =
    let n : length xs + length ys ≡ 0 = sym (length-append xs ys) ∙ ap length e in
    (list_none xs (omega arith), list_none ys (omega arith))

word_none : (d v l f w : ℕ) → listed (meant d v l f w) ≡ [] → w ≡ 0
word_none d v l f zero e = refl
word_none d v l f (suc w) e = absurd (let z : ◌≡◌ {A = ℕ} 1 0 = ap length e in omega arith)

slot_none : (g : ℕ → ℕ) (d v l : ℕ) → of_slot g d v l ≡ [] → won_hop g ≡ 0
unfolding of_feeds lower
slot_none g d v l e =
    let a = both_none (listed (meant d v l 1 (g 1))) (of_feeds g d v l 2 3) e in
    let b = both_none (listed (meant d v l 2 (g 2))) (of_feeds g d v l 3 2) a.1 in
    let c = both_none (listed (meant d v l 3 (g 3))) (of_feeds g d v l 4 1) b.1 in
    let i = both_none (listed (meant d v l 4 (g 4))) [] c.1 in
    ap hop_in (winner_same g (λ f. 0) (each-feed (λ f. g f ≡ 0)
    (word_none d v l 1 (g 1) a.0) (word_none d v l 2 (g 2) b.0)
    (word_none d v l 3 (g 3) c.0) (word_none d v l 4 (g 4) i.0)))

collect_none : (f : ℕ → ℕ → ℕ) (g : ℕ → ℕ → ℕ → ℕ) → ((v l : ℕ) → f v l ≡ won_hop (g v l))
    → (d v l : ℕ) → gather g d v l ≡ [] → collect f d v l ≡ []
unfolding gather collect
collect_none f g h zero v l e = rw (h v l ∙ slot_none (g v l) zero v l e)
collect_none f g h (suc d) v l e =
    let a = both_none (of_slot (g v l) (suc d) v l) (gather g d (2 * v) (suc l) ++ gather g d (2 * v + 1) (suc l)) e in
    let b = both_none (gather g d (2 * v) (suc l)) (gather g d (2 * v + 1) (suc l)) a.1 in
    rw (
      h v l ∙ slot_none (g v l) (suc d) v l a.0,
      collect_none f g h d (2 * v) (suc l) b.0,
      collect_none f g h d (2 * v + 1) (suc l) b.1,
    )

-- nothing collected: nothing at the prefix, and nothing in its halves
pub collect-own : (f : ℕ → ℕ → ℕ) (d v l : ℕ) → collect f d v l ≡ [] → own d v l (f v l) ≡ []
unfolding collect
collect-own f zero v l e = e
collect-own f (suc d) v l e =
    (both_none (own (suc d) v l (f v l)) (collect f d (2 * v) (suc l) ++ collect f d (2 * v + 1) (suc l)) e).0

pub collect-halves : (f : ℕ → ℕ → ℕ) (d v l : ℕ) → collect f (suc d) v l ≡ []
    → (collect f d (2 * v) (suc l) ≡ []) × (collect f d (2 * v + 1) (suc l) ≡ [])
unfolding collect
collect-halves f d v l e =
    let x = collect f d (2 * v) (suc l) in
    let y = collect f d (2 * v + 1) (suc l) in
    both_none x y (both_none (own (suc d) v l (f v l)) (x ++ y) e).1

-- ---- one prefix stands in a slot

module _ (ws : List ℕ) (tb : Table 4 ws) where
  -- the prefix v of length l stands in slot p
  abbrev pub At : ℕ → ℕ → ℕ → Type 0
  At p v l = InSlot (array_count ws) 4 (arrays_of ws) p v l

  pub slot_one : (p v l w m : ℕ) → At p v l → At p w m → (v ≡ w) × (l ≡ m)
  slot_one p v l w m s u =
      let x : 2 ^ s.d + s.x < slot_end = omega (arith, s.place.small, pow_mono {i = s.d} {j = 8} s.place.deep) in
      let y : 2 ^ u.d + u.x < slot_end = omega (arith, u.place.small, pow_mono {i = u.d} {j = 8} u.place.deep) in
      let a : s.a ≡ u.a = omega (arith, s.spot, u.spot) in
      let o = slots.slot_one s.d u.d s.x u.x s.place.small u.place.small (omega (arith, s.spot, u.spot)) in
      let i = node_inj (array_count ws) 4 (arrays_of ws) tb.shape s.k u.k s.q u.q
      (rw s.place.leads s.place.array) (s.place.leads ∙ a ∙ sym u.place.leads)
      s.place.head u.place.head in (
        s.prefix ∙ ap₂ ◌+◌ (ap₂ (λ (y z : ℕ). y * 2 ^ z) i.1 o.0) o.1 ∙ sym u.prefix,
        s.bits ∙ ap₂ (λ (y z : ℕ). 8 * y + z) i.0 o.0 ∙ sym u.bits,
      )

  module _ (p v l : ℕ) (s : At p v l) where
    -- the hop
    pub slot_hop : held (arrays_of ws) v l ≡ won_at ws p
    slot_hop = held_won (feeds_of ws) v l ∙ ap won_hop (slot_words_fact 4 ws tb p v l s)

    -- the halves
    pub slot_lower : 1 ≤ half_of ws p → At (half_of ws p) (2 * v) (suc l)
    slot_lower n =
        let z : 2 * v + 0 ≡ 2 * v = omega arith in
        let y : half_of ws p + 0 ≡ half_of ws p = omega arith in
        rw (z, y) at (slot_half 4 ws tb p v l s n 0 (omega arith))

    pub slot_upper : 1 ≤ half_of ws p → At (half_of ws p + slot_words) (2 * v + 1) (suc l)
    slot_upper n = slot_half 4 ws tb p v l s n 1 (omega arith)

    -- nothing below
    bare : (d y : ℕ) → half_of ws p ≡ 0 → l + suc d ≡ 32 → y ≤ 1 → collect (held (arrays_of ws)) d (2 * v + y) (suc l) ≡ []
    bare d y z e b =
        collect_none (held (arrays_of ws)) (word_held (feeds_of ws)) (held_won (feeds_of ws)) d (2 * v + y) (suc l)
        (half_bare 4 ws tb p v l s z d y (omega arith) b)

    pub bare-lower : (d : ℕ) → half_of ws p ≡ 0 → l + suc d ≡ 32 → collect (held (arrays_of ws)) d (2 * v) (suc l) ≡ []
    bare-lower d z e = let o : 2 * v + 0 ≡ 2 * v = omega arith in rw o at (bare d 0 z e (omega arith))

    pub bare_upper : (d : ℕ) → half_of ws p ≡ 0 → l + suc d ≡ 32 → collect (held (arrays_of ws)) d (2 * v + 1) (suc l) ≡ []
    bare_upper d z e = bare d 1 z e (omega arith)

    -- its total is 0: nothing there, and so nothing below
    module _ (z : total_in ws p ≡ 0) where
      pub empty_all : (d : ℕ) → l + d ≡ 32 → collect (held (arrays_of ws)) d v l ≡ []
      empty_all d e = let o : 32 - l ≡ d = omega arith in rw o at (slot_bare 4 ws tb p v l s (omega arith) z)

      pub empty_below : (d : ℕ) → l + suc d ≡ 32
          → (collect (held (arrays_of ws)) d (2 * v) (suc l) ≡ []) × (collect (held (arrays_of ws)) d (2 * v + 1) (suc l) ≡ [])
      empty_below d e = collect-halves (held (arrays_of ws)) d v l (empty_all (suc d) e)
