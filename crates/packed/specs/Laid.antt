-- When words are arrays laid out by masks: the arrays in use one after the other in the order of their numbers, each with its
-- entries in the order of their indices. So the words from the header's end to the need are a function of the arrays.
-- Assumes nothing.
--
--     array      1            2          3 (free)      4
--     mask       255          00001100                 0
--     entries    256          4                        1
--     begins     1024         2048                     2064          needed: 2068 words
use Rattle.std.specs.Prelude.{◌≡◌, ◌≢◌, Bool, true, false, cond, not, ◌&&◌, ◌||◌, List, length, get_or, leb, eqb}
use Rattle.std.proofs.Math.Path.{refl}
use Rattle.std.proofs.Common.{sym, ◌∙◌, true≢false}
use Prim.Native.Nat.{ℕ, zero, suc, ◌+◌, ◌-◌, ◌*◌, ◌/◌, ◌%◌, ◌^◌, ◌≤◌, ◌<◌}
use native.Mathlib.Omega.{arith}
use Rattle.std.specs.Int.Count.{ones}
use borrow.Author.Tests.{ne_eqb, le-leb, leb-true}
use Rattle.logic.specs.Cases.{same, less}
use Rattle.logic.specs.Bools.{and_to}
use Rattle.sizes.specs.Sizes.{cell_slots}
use Rattle.masks.specs.Mask.{Free, Chosen, mask_of, chosen, full_free}
use Rattle.masks.specs.Entry.{entry_at}
use Rattle.tree.specs.Arrays.{Arrays}
use Rattle.packed.specs.Byte.{cover_of, below_of, Holds}
use Rattle.packed.specs.Layout.{header_words, entry_words, full_mask}

-- ---- the prefixes of an array, by their slots: its routes, and its links as prefixes of 8 bits

abbrev pub held_by : (ℕ → ℕ) → (ℕ → ℕ) → ℕ → Bool
held_by f link s = leb 1 s && (not (eqb (f s) 0) || (leb cell_slots s && not (eqb (link (s - cell_slots)) 0)))

abbrev pub held_of : Arrays → ℕ → ℕ → Bool
held_of t a = held_by (t.slot a) (t.link a)

-- ---- masks and places

-- the first array is not compressed
unfoldable pub mask_at : Arrays → ℕ → ℕ
mask_at t a = cond (eqb a 1) full_mask (mask_of (held_of t a))

-- the entries of array a, if it is used, and of the arrays 1 .. n
abbrev pub entries_in : Arrays → ℕ → ℕ
entries_in t a = cond (eqb (t.tag a) 0) 0 (2 ^ ones (mask_at t a))

unfoldable pub entries_to : Arrays → ℕ → ℕ
entries_to t zero = 0
entries_to t (suc n) = entries_to t n + entries_in t (suc n)

abbrev pub place_of : Arrays → ℕ → ℕ
place_of t a = header_words + entry_words * entries_to t (a - 1)

-- the words that A arrays need
abbrev pub needed_for : Arrays → ℕ → ℕ
needed_for t A = header_words + entry_words * entries_to t A

-- ---- the words

-- of the array b below an entry, 0 for none
abbrev pub place_below : Arrays → ℕ → ℕ
place_below t b = cond (eqb b 0) 0 (place_of t b)

abbrev pub mask_below : Arrays → ℕ → ℕ
mask_below t b = cond (eqb b 0) 0 (mask_at t b)

-- the entry at word w is that of slot s of array a
pub record IsEntry (t : Arrays) (ws : List ℕ) (w a s : ℕ) : Type 0 where
  pub slot : get_or ws w 0 ≡ s
  pub best : get_or ws (w + 1) 0 ≡ cover_of (t.slot a) s
  pub place : get_or ws (w + 2) 0 ≡ place_below t (below_of (t.link a) s)
  pub mask : get_or ws (w + 3) 0 ≡ mask_below t (below_of (t.link a) s)

-- the arrays 1 .. A are laid out
pub record Laid (t : Arrays) (A : ℕ) (ws : List ℕ) : Type 0 where
  pub room : needed_for t A ≤ length ws
  pub entries : (a v : ℕ) → 1 ≤ a → a ≤ A → 1 ≤ t.tag a → v < 2 ^ ones (mask_at t a)
      → IsEntry t ws (place_of t a + entry_words * v) a (entry_at (held_of t a) (mask_at t a) v)

-- ---- its laws

pub held_by_holds : (f link : ℕ → ℕ) → Holds (held_by f link) f link
held_by_holds f link = record {
  from_one = λ s e. leb-true 1 s (and_to (leb 1 s) _ e).0;
  hop = λ s h l e. same (f s) 0 (λ q _. q) (λ n d. absurd (true≢false (rw (le-leb 1 s h, d) at e)));
  linked = λ i h e. same (link i) 0 (λ q _. q) (λ n d. absurd (true≢false (some i d e)));
}
  where
    or_so : (b : Bool) → (b || true) ≡ true
    or_so true = refl
    or_so false = refl

    some : (i : ℕ) → eqb (link i) 0 ≡ false → held_by f link (cell_slots + i) ≡ false → true ≡ false
    some i d e =
        let k : cell_slots + i - cell_slots ≡ i = omega arith in
        sym (or_so (not (eqb (f (cell_slots + i)) 0)))
        ∙ (rw (le-leb 1 (cell_slots + i) (omega arith), le-leb cell_slots (cell_slots + i) (omega arith), k, d) at e)

module _ (t : Arrays) where
  pub mask_first : mask_at t 1 ≡ full_mask
  unfolding mask_at
  mask_first = refl

  pub mask_fit : (a : ℕ) → mask_at t a < 256
  unfolding mask_at
  mask_fit a = same a 1 (λ q e. rw e (omega arith)) (λ n e. rw e (chosen (held_of t a)).fit)

  pub mask_free : (a : ℕ) → Free (held_of t a) (mask_at t a)
  unfolding mask_at
  mask_free a = same a 1 (λ q e. rw e (full_free (held_of t a))) (λ n e. rw e (chosen (held_of t a)).free)

  -- of those without collision the one of fewest set bits, then of the lowest number
  pub mask_chosen : (a : ℕ) → a ≢ 1 → Chosen (held_of t a) (mask_at t a)
  unfolding mask_at
  mask_chosen a n = rw (ne_eqb a 1 n) (chosen (held_of t a))

  entries_more : (n k : ℕ) → entries_to t n ≤ entries_to t (n + k)
  unfolding entries_to
  entries_more n zero = let e : n + 0 ≡ n = omega arith in rw e (omega arith)
  entries_more n (suc k) = let e : n + suc k ≡ suc (n + k) = omega arith in rw e (omega (arith, entries_more n k))

  pub entries_le : (n m : ℕ) → n ≤ m → entries_to t n ≤ entries_to t m
  entries_le n m h = let e : n + (m - n) ≡ m = omega arith in rw e at (entries_more n (m - n))

  -- a used array ends where the next begins
  pub entries_end : (a : ℕ) → 1 ≤ a → 1 ≤ t.tag a → entries_to t (a - 1) + 2 ^ ones (mask_at t a) ≡ entries_to t a
  unfolding entries_to
  entries_end zero h u = absurd (omega arith)
  entries_end (suc n) h u =
      let e : suc n - 1 ≡ n = omega arith in
      rw (e, ne_eqb (t.tag (suc n)) 0 (λ z. omega arith))

  -- it stands inside what is needed
  pub inside : (A a v : ℕ) → 1 ≤ a → a ≤ A → 1 ≤ t.tag a → v < 2 ^ ones (mask_at t a)
      → place_of t a + entry_words * v + entry_words ≤ needed_for t A
  inside A a v h l u b = omega (arith, entries_end a h u, entries_le a A l)

-- ---- what it hangs on

-- the four words of an entry
pub entry_kept : (t : Arrays) (us vs : List ℕ) (w a s : ℕ)
    → ((i : ℕ) → w ≤ i → i < w + entry_words → get_or vs i 0 ≡ get_or us i 0)
    → IsEntry t us w a s → IsEntry t vs w a s
entry_kept t us vs w a s e q = record {
  slot = e w (omega arith) (omega arith) ∙ q.slot;
  best = e (w + 1) (omega arith) (omega arith) ∙ q.best;
  place = e (w + 2) (omega arith) (omega arith) ∙ q.place;
  mask = e (w + 3) (omega arith) (omega arith) ∙ q.mask;
}

-- the words that are needed, whatever stands past them
pub laid_front : (t : Arrays) (A : ℕ) (us vs : List ℕ) → needed_for t A ≤ length vs
    → ((i : ℕ) → i < needed_for t A → get_or vs i 0 ≡ get_or us i 0) → Laid t A us → Laid t A vs
laid_front t A us vs h e l = record {
  room = h;
  entries = λ a v x y u b.
      entry_kept t us vs (place_of t a + entry_words * v) a _ (λ i p q. e i (omega (arith, inside t A a v x y u b)))
      (l.entries a v x y u b);
}

-- ---- there is one layout only

-- an entry is four words, given by its array and slot
entry_one : (t : Arrays) (us vs : List ℕ) (w a s : ℕ) → IsEntry t us w a s → IsEntry t vs w a s → (d : ℕ) → d < entry_words
    → get_or us (w + d) 0 ≡ get_or vs (w + d) 0
entry_one t us vs w a s p q zero h = let e : w + 0 ≡ w = omega arith in rw e (p.slot ∙ sym q.slot)
entry_one t us vs w a s p q (suc zero) h = p.best ∙ sym q.best
entry_one t us vs w a s p q (suc (suc zero)) h = p.place ∙ sym q.place
entry_one t us vs w a s p q (suc (suc (suc zero))) h = p.mask ∙ sym q.mask
entry_one t us vs w a s p q (suc (suc (suc (suc d)))) h = absurd (omega arith)

module _ (t : Arrays) (A : ℕ) (us vs : List ℕ) (p : Laid t A us) (q : Laid t A vs) where
  -- entry e of all, in the array that it stands in
  entries_one : (n : ℕ) → n ≤ A → (e : ℕ) → e < entries_to t n → (d : ℕ) → d < entry_words
      → get_or us (header_words + entry_words * e + d) 0 ≡ get_or vs (header_words + entry_words * e + d) 0
  unfolding entries_to
  entries_one zero h e l d k = absurd (omega arith)
  entries_one (suc n) h e l d k =
      less e (entries_to t n)
      (λ b _. entries_one n (omega arith) e b d k)
      (λ b _. same (t.tag (suc n)) 0
      (λ z g. absurd (let m = rw g at l in omega arith))
      (λ z g.
      let v = e - entries_to t n in
      let o : suc n - 1 ≡ n = omega arith in
      let m = rw g at l in
      let w : header_words + entry_words * entries_to t n + entry_words * v ≡ header_words + entry_words * e = omega arith in
      let f : place_of t (suc n) + entry_words * v ≡ header_words + entry_words * e = rw o w in
      let b : v < 2 ^ ones (mask_at t (suc n)) = omega arith in
      rw (← f) (entry_one t us vs _ (suc n) _ (p.entries (suc n) v (omega arith) h (omega arith) b)
      (q.entries (suc n) v (omega arith) h (omega arith) b) d k)))

  -- two lists of words that one table's arrays are laid out in agree, from the header's end to the need
  pub laid_one : (i : ℕ) → header_words ≤ i → i < needed_for t A → get_or us i 0 ≡ get_or vs i 0
  laid_one i h l =
      let e = (i - header_words) / entry_words in
      let d = (i - header_words) % entry_words in
      let w : header_words + entry_words * e + d ≡ i = omega arith in
      rw w at (entries_one A (omega arith) e (omega arith) d (omega arith))
