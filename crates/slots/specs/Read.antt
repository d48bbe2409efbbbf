-- The winning hops of a page's slots, read into a list, and whether the slots are right. Assumes nothing.
use Rattle.std.specs.Prelude.{◌≡◌, refl, ◌≢◌, Bool, true, false, cond, ◌&&◌, List, ℕ, zero, suc, ◌+◌, ◌-◌, ◌*◌, ◌≤◌, ◌<◌, eqb}
use Rattle.std.specs.Prelude.{Option, Some, None, length, get_or, set}
use Rattle.std.proofs.Common.{sym, ◌∙◌, arith, add-one, length-set, eqb-true, eq-eqb, ne_eqb, get_or-set_same, get_or-set_other}
use Rattle.std.specs.Int.Bits.{bit_or}
use Rattle.logic.specs.Cases.{same, less}
use Rattle.logic.specs.Every.{all_b}
use Rattle.logic.specs.Ors.{or_none}
use Rattle.logic.specs.Reflects.{all_to_lem}
use Rattle.sizes.specs.Sizes.{slot_words, slot_at, last_slot, slot_end}
use Rattle.slots.specs.Zeros.{zero_at}
use Rattle.slots.specs.Word.{right_none}
use Rattle.slots.specs.Winner.{won_hop}
use Rattle.slots.specs.Slot.{FreeSlot, right_slot_b, right_slot_reflects, free_won}
use Rattle.slots.specs.Page.{words_at}
use Rattle.slots.specs.Count.{candidates_to}
use Rattle.slots.specs.Check.{right_slots_b}

-- c holds the winning hop of each slot of the page
pub record Won (ws c : List ℕ) : Type 0 where
  pub size : length c ≡ slot_end
  pub hop : (s : ℕ) → 1 ≤ s → s < slot_end → get_or c s 0 ≡ won_hop (words_at ws (slot_at s))

-- slot s + 1 is right
abbrev pub slot_test : List ℕ → ℕ → Bool
slot_test ws s = right_slot_b (words_at ws (slot_at (s + 1)))

-- c holds the winning hops of the slots 1 .. n and 0 past them, and m is 0 where these slots are right
pub record Read (ws c : List ℕ) (m n : ℕ) : Type 0 where
  pub size : length c ≡ slot_end
  pub hop : (s : ℕ) → s < n → get_or c (s + 1) 0 ≡ won_hop (words_at ws (slot_at (s + 1)))
  pub rest : (s : ℕ) → n ≤ s → get_or c (s + 1) 0 ≡ 0
  pub right : eqb m 0 ≡ all_b (slot_test ws) n

-- none yet
pub read_none : (ws c : List ℕ) → length c ≡ slot_end → ((s : ℕ) → get_or c s 0 ≡ 0) → Read ws c 0 0
unfolding all_b
read_none ws c l z = record { size = l; hop = λ s h. absurd (omega arith); rest = λ s h. z (s + 1); right = refl }

-- one slot more
pub read_more : (ws c : List ℕ) (m n v h : ℕ) → n < last_slot → eqb v 0 ≡ slot_test ws n
    → h ≡ won_hop (words_at ws (slot_at (n + 1)))
    → Read ws c m n → Read ws (set c (n + 1) h) (bit_or m v) (n + 1)
unfolding all_b
read_more ws c m n v h b e d r = record {
  size = length-set c (n + 1) h ∙ r.size;
  hop = λ s w. same s n
      (λ q _. rw (q, get_or-set_same c (n + 1) h 0 (omega (arith, r.size))) d)
      (λ q _. get_or-set_other c (n + 1) (s + 1) h 0 (λ z. q (omega arith)) ∙ r.hop s (omega arith));
  rest = λ s w. get_or-set_other c (n + 1) (s + 1) h 0 (λ z. omega arith) ∙ r.rest s (omega arith);
  right = rw (add-one n, or_none m v, r.right, e);
}

-- a slot whose words are 0
free_in : (ws : List ℕ) (from n s : ℕ) → all_b (zero_at ws (slot_at (from + 1))) (slot_words * n) ≡ true → from ≤ s → s < from + n
    → FreeSlot (words_at ws (slot_at (s + 1)))
free_in ws from n s z l h f i =
    let e : slot_at (from + 1) + (slot_words * (s - from) + (f - 1)) ≡ slot_at (s + 1) + f - 1 = omega (arith, i.low) in
    rw e at (eqb-true (get_or ws (slot_at (from + 1) + (slot_words * (s - from) + (f - 1))) 0) 0
    (all_to_lem (zero_at ws (slot_at (from + 1))) (slot_words * n) z (slot_words * (s - from) + (f - 1))
    (omega (arith, i.low, i.high))))

and_true : (b : Bool) → b ≡ (b && true)
and_true true = refl
and_true false = refl

grown : (p : ℕ → Bool) (n j : ℕ) → ((s : ℕ) → n ≤ s → s < n + j → p s ≡ true) → all_b p n ≡ all_b p (n + j)
unfolding all_b
grown p n zero t = let e : n + 0 ≡ n = omega arith in rw e
grown p n (suc j) t =
    let e : n + suc j ≡ suc (n + j) = omega arith in
    grown p n j (λ s l h. t s l (omega arith)) ∙ rw (e, t (n + j) (omega arith) (omega arith)) (and_true (all_b p (n + j)))

-- slots whose words are 0 are passed
pub read_free : (ws c : List ℕ) (m n k : ℕ) → all_b (zero_at ws (slot_at (n + 1))) (slot_words * k) ≡ true
    → Read ws c m n → Read ws c m (n + k)
read_free ws c m n k z r = record {
  size = r.size;
  hop = λ s h. less s n (λ w _. r.hop s w) (λ w _. r.rest s w ∙ sym (free_won _ (free_in ws n k s z w h)));
  rest = λ s h. r.rest s (omega arith);
  right = r.right ∙ grown (slot_test ws) n k
      (λ s l h. (right_slot_reflects _).from (λ f i. rw (free_in ws n k s z l h f i) right_none));
}

-- all of them
pub read_won : (ws c : List ℕ) (m : ℕ) → Read ws c m last_slot → Won ws c
read_won ws c m r = record {
  size = r.size;
  hop = λ s l h. (let e : s - 1 + 1 ≡ s = omega arith in rw e at (r.hop (s - 1) (omega arith)));
}

pub read_right : (ws c : List ℕ) (m : ℕ) → Read ws c m last_slot → eqb m 0 ≡ right_slots_b ws
unfolding right_slots_b
read_right ws c m r = r.right

-- ---- with the number of candidates

-- no number of candidates
abbrev pub uncounted : Option ℕ
uncounted = None

-- a number of candidates where a test is passed
abbrev pub counted : Bool → ℕ → Option ℕ
counted b n = cond b (Some n) uncounted

-- what reading a page leaves and answers
pub record HasRead (ws c : List ℕ) (r : Option ℕ) : Type 0 where
  pub won : Won ws c
  pub count : r ≡ counted (right_slots_b ws) (candidates_to ws last_slot)

pub read_count : (ws c : List ℕ) (m n : ℕ) → Read ws c m last_slot → n ≡ candidates_to ws last_slot → m ≡ 0
    → HasRead ws c (Some n)
read_count ws c m n r e z =
    record { won = read_won ws c m r; count = rw (← (read_right ws c m r), eq-eqb m 0 z, e) }

pub read_uncounted : (ws c : List ℕ) (m : ℕ) → Read ws c m last_slot → m ≢ 0 → HasRead ws c uncounted
read_uncounted ws c m r z =
    record { won = read_won ws c m r; count = rw (← (read_right ws c m r), ne_eqb m 0 z) }
