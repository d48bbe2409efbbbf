-- What an entry keeps of an array with hops f in its slots and links below its cells: the longest cover of its prefix and, where
-- it has 8 bits, the link. By it a byte gets the best and the link of its cell. Assumes nothing.
--
--     1110xxxx via 4 and a link at 11101111: the link's entry keeps via 4, length 4, too, as its bytes reach no other entry
use Rattle.std.specs.Prelude.{◌≡◌, refl, Bool, false, cond, ◌&&◌, ℕ, zero, suc, ◌+◌, ◌-◌, ◌/◌, ◌^◌, ◌≤◌, ◌<◌, leb, eqb}
use Rattle.std.proofs.Math.Path.{sym, ap}
use Rattle.std.proofs.Common.{◌∙◌, ⊎_elim, true≢false, div-lt_iff_lt-mul, pow_pos, pow_mono, shr-shr, ne_eqb, le-leb}
use Rattle.std.proofs.Math.Bool.{true}
use native.Mathlib.Omega.{arith}
use Rattle.std.proofs.lemmas.Nat.{shr_le}
use Rattle.logic.specs.Cases.{bool, less, most}
use Rattle.logic.specs.Bools.{and_to, and_from}
use Rattle.sizes.specs.Sizes.{slot_end, cell_slots, cell_count}
use Rattle.array.specs.Page.{best_of}
use Rattle.masks.specs.Prefix.{spare, has, slot}
use Rattle.masks.specs.Mask.{Free}
use Rattle.masks.specs.Top.{top, top_ge, top_case}
use Rattle.masks.specs.Entry.{longest, entry, longest_by_entry}
use Rattle.packed.specs.Over.{up, has-up}

-- of slot s; nothing where s is 0
abbrev pub cover_of : (ℕ → ℕ) → ℕ → ℕ
cover_of f s = cond (eqb s 0) 0 (best_of f s (8 - spare s))

abbrev pub below_of : (ℕ → ℕ) → ℕ → ℕ
below_of link s = cond (leb cell_slots s) (link (s - cell_slots)) 0

-- the hops and links of an array are among its prefixes
pub record Holds (held : ℕ → Bool) (f link : ℕ → ℕ) : Type 0 where
  pub from_one : (s : ℕ) → held s ≡ true → 1 ≤ s
  pub hop : (s : ℕ) → 1 ≤ s → s < slot_end → held s ≡ false → f s ≡ 0
  pub linked : (i : ℕ) → i < cell_count → held (cell_slots + i) ≡ false → link i ≡ 0

-- ---- climbing

half : (s e : ℕ) → s / 2 / 2 ^ e ≡ s / 2 ^ suc e
half s e = let q : suc e ≡ 1 + e = omega arith in rw q (shr-shr s 1 e)

-- slots without a hop are passed
climb : (f : ℕ → ℕ) (k d s : ℕ) → ((j : ℕ) → j < k → f (s / 2 ^ j) ≡ 0) → best_of f s (k + d) ≡ best_of f (s / 2 ^ k) d
unfolding best_of
climb f zero d s z = let e : s / 1 ≡ s = omega arith in let q : 0 + d ≡ d = omega arith in rw (q, e)
climb f (suc k) d s z =
    let e : s / 1 ≡ s = omega arith in
    let o : f s ≡ 0 = rw e at (z 0 (omega arith)) in
    let q : suc k + d ≡ suc (k + d) = omega arith in
    rw (q, o, ← half s k) (climb f k d (s / 2) (λ j l. rw (half s j) (z (suc j) (omega arith))))

-- a slot further up is lower
over : (a s k j : ℕ) → 1 ≤ s → j < k → a / 2 ^ k ≡ s → s < a / 2 ^ j
over a s k j t q e =
    let n = k - j - 1 in
    let b = a / 2 ^ j in
    let o : j + suc n ≡ k = omega arith in
    let w : b / 2 ^ suc n ≡ s = shr-shr a j (suc n) ∙ ap (λ (n : ℕ). a / 2 ^ n) o ∙ e in
    let v : b / 2 / 2 ^ n ≤ b / 2 = shr_le (b / 2) n in
    let u : b / 2 / 2 ^ n ≡ s = half b n ∙ w in
    omega arith

module _ (held : ℕ → Bool) (f link : ℕ → ℕ) (hold : Holds held f link) (y : ℕ) (h : y < cell_count) where
  p : ℕ → Bool
  p s = held s && has y s

  -- the slot j levels over the byte, and the longest prefix of the byte
  abbrev at : ℕ → ℕ
  at j = (cell_slots + y) / 2 ^ j

  abbrev t : ℕ
  t = top p slot_end

  at_lt : (j : ℕ) → at j < slot_end
  at_lt j = omega (arith, shr_le (cell_slots + y) j)

  at_low : (j : ℕ) → j ≤ 8 → 1 ≤ at j
  at_low j l =
      less (at j) 1
      (λ q _. absurd (omega (arith, (div-lt_iff_lt-mul (pow_pos j)).0 q, pow_mono {i = j} {j = 8} l)))
      (λ q _. q)

  -- a slot over the byte that is higher than the longest isn't held
  free_over : (j : ℕ) → j ≤ 8 → t < at j → held (at j) ≡ false
  unfolding p
  free_over j l g =
      bool (held (at j))
      (λ e. absurd (omega (arith, top_ge p slot_end (at j) (at_lt j) (and_from (held (at j)) (has y (at j)) e (up j y l h).1))))
      (λ e. e)

  no_hop : (j : ℕ) → j ≤ 8 → t < at j → f (at j) ≡ 0
  no_hop j l g = hold.hop (at j) (at_low j l) (at_lt j) (free_over j l g)

  -- where it stands, if there is one
  record Stands (s : ℕ) : Type 0 where
    low : 1 ≤ s
    is : held s ≡ true
    short : spare s ≤ 8
    over_byte : at (spare s) ≡ s

  stands : p t ≡ true → t < slot_end → Stands t
  unfolding p
  stands e l =
      let a = and_to (held t) (has y t) e in
      let low = hold.from_one t a.0 in
      record { low = low; is = a.0; short = (slot t low l).short; over_byte = has-up y t h low l a.1 }

  none_best : t ≡ 0 → 0 ≡ best_of f (cell_slots + y) 8
  unfolding best_of
  none_best w =
      let c : best_of f (cell_slots + y) (8 + 0) ≡ best_of f (at 8) 0 =
      climb f 8 0 (cell_slots + y) (λ j l. let b = at_low j (omega arith) in no_hop j (omega arith) (omega arith)) in
      let z : f (at 8) ≡ 0 = let b = at_low 8 (omega arith) in no_hop 8 (omega arith) (omega arith) in
      sym z ∙ sym c

  some_best : Stands t → best_of f t (8 - spare t) ≡ best_of f (cell_slots + y) 8
  some_best r =
      let k = spare t in
      let o : k + (8 - k) ≡ 8 = omega (arith, r.short) in
      let c : best_of f (cell_slots + y) (k + (8 - k)) ≡ best_of f (at k) (8 - k) = climb f k (8 - k) (cell_slots + y)
      (λ j q. let g = over (cell_slots + y) t k j r.low q r.over_byte in no_hop j (omega (arith, r.short)) g) in
      ap (λ (n : ℕ). best_of f n (8 - k)) (sym r.over_byte) ∙ sym c ∙ ap (best_of f (cell_slots + y)) o

  best-longest : cover_of f t ≡ best_of f (cell_slots + y) 8
  best-longest = ⊎_elim
      (λ (w : (p t ≡ true) × (t < slot_end)).
      let r = stands w.0 w.1 in
      let low = r.low in
      rw (ne_eqb t 0 (λ n. omega arith)) (some_best r))
      (λ (w : t ≡ 0). rw w (none_best w))
      (top_case p slot_end)

  -- a held slot of 8 bits over the byte is its own
  own_slot : (s k : ℕ) → cell_slots ≤ s → at k ≡ s → s ≡ cell_slots + y
  own_slot s zero q e = omega arith
  own_slot s (suc k) q e =
      let u = shr_le ((cell_slots + y) / 2) k in
      let v = half (cell_slots + y) k in
      absurd (omega arith)

  held-own : held (cell_slots + y) ≡ true → cell_slots + y ≤ t
  unfolding p
  held-own e =
      let q : at 0 ≡ cell_slots + y = omega arith in
      let g : has y (cell_slots + y) ≡ true = rw q at (up 0 y (omega arith) h).1 in
      top_ge p slot_end (cell_slots + y) (omega arith) (and_from (held (cell_slots + y)) (has y (cell_slots + y)) e g)

  below-own : t ≡ cell_slots + y → below_of link t ≡ link y
  below-own o = let q : cell_slots + y - cell_slots ≡ y = omega arith in
      rw (o, le-leb cell_slots (cell_slots + y) (omega arith), q)

  link_longest : below_of link t ≡ link y
  link_longest = bool (held (cell_slots + y))
      (λ e. let b = held-own e in ⊎_elim
      (λ (w : (p t ≡ true) × (t < slot_end)). below-own (own_slot t (spare t) (omega arith) (stands w.0 w.1).over_byte))
      (λ (w : t ≡ 0). absurd (omega arith))
      (top_case p slot_end))
      (λ e. most cell_slots t
      (λ q d. ⊎_elim
      (λ (w : (p t ≡ true) × (t < slot_end)).
      let r = stands w.0 w.1 in
      absurd (true≢false (sym r.is ∙ ap held (own_slot t (spare t) q r.over_byte) ∙ e)))
      (λ (w : t ≡ 0). absurd (omega arith))
      (top_case p slot_end))
      (λ q d. rw d (sym (hold.linked y h e))))

  -- ---- the cell of the byte, by its entry

  cover_of_fact : (b : Bool) (s : ℕ) → cond b (cover_of f s) 0 ≡ cover_of f (cond b s 0)
  cover_of_fact true s = refl
  cover_of_fact false s = refl

  below_of_lem : (b : Bool) (s : ℕ) → cond b (below_of link s) 0 ≡ below_of link (cond b s 0)
  below_of_lem true s = refl
  below_of_lem false s = refl

  module _ (m : ℕ) (free : Free held m) where
    abbrev e : ℕ
    e = entry held m y

    pub best_by_entry : cond (has y e) (cover_of f e) 0 ≡ best_of f (cell_slots + y) 8
    unfolding longest p
    best_by_entry = cover_of_fact (has y e) e ∙ ap (cover_of f) (sym (longest_by_entry held m y free)) ∙ best-longest

    pub link_by_entry : cond (has y e) (below_of link e) 0 ≡ link y
    unfolding longest p
    link_by_entry = below_of_lem (has y e) e ∙ ap (below_of link) (sym (longest_by_entry held m y free)) ∙ link_longest
