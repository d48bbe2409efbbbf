-- On a table laid out by masks the walk gives the longest match over the table's list. Assumes nothing.
--
--     the table's walk      cell of the byte ── best, link ──▶ array below
--                           ‖      ‖      ‖
--     the masks' walk       entry of the byte's index ── best, place ──▶ array below          level by level the same
use Rattle.std.specs.Prelude.{◌≡◌, refl, true, false, cond, List, get_or, ltb, eqb}
use Rattle.std.proofs.Common.{sym, ap, ◌∙◌, true≢false, arith}
use Rattle.std.proofs.Math.Logic.{⊎_elim}
use Rattle.std.proofs.lemmas.Bool.{false≢true}
use Prim.Native.Nat.{ℕ, zero, suc, ◌+◌, ◌-◌, ◌*◌, ◌/◌, ◌^◌, ◌≤◌, ◌<◌}
use Rattle.std.proofs.Math.ListN.{length}
use Rattle.std.specs.Int.Count.{ones}
use borrow.Author.Tests.{le-ltb}
use Rattle.logic.specs.Cases.{bool, same}
use Rattle.sizes.specs.Sizes.{slot_end, last_slot, hop_bound}
use Rattle.numbers.specs.Front.{byte_of}
use Rattle.routes.specs.Match.{Match, none, found, longest}
use Rattle.routes.specs.Block.{block}
use Rattle.routes.specs.Answers.{Reply, refused, is_refused, matched}
use Rattle.routes.specs.Answers as answers
use Rattle.routes.specs.Seen.{Answer, gives}
use Rattle.candidates.specs.Winners.{winners}
use Rattle.masks.specs.Prefix.{has}
use Rattle.masks.specs.Index.{index, gather_lt}
use Rattle.masks.specs.Entry.{entry, found_at, entry_lt}
use Rattle.tree.specs.Arrays.{Arrays}
use Rattle.tree.specs.Shape.{Child}
use Rattle.words.specs.Words.{arrays_of, array_count, bests_of, blocks_of}
use Rattle.words.specs.Table.{list_of}
use Rattle.words.specs.TableBut.{Table}
use Rattle.words.specs.View.{table_fits, fits_no_misfit, seen_table}
use Rattle.lookup.specs.Walk.{deeper}
use Rattle.lookup.specs.Walk as table
use Rattle.lookup.specs.Longest.{walked-seen}
use Rattle.packed.specs.Byte.{cover_of, below_of, Holds, best_by_entry, link_by_entry}
use Rattle.packed.specs.Layout.{entry_words, full_mask, gets, turn, walk_from, walk}
use Rattle.packed.specs.Laid.{held_of, mask_at, place_of, IsEntry, Laid, held_by_holds, mask_first, mask_fit, mask_free, inside}
use Rattle.packed.specs.Laid.{place_below, mask_below, entries_to}

-- ---- a reply that is a match

not_matched : (r : Match) (q n : ℕ) → refused n ≡ matched r q → ⊥
not_matched none q n e = true≢false (ap is_refused e)
not_matched (found h l) q n e = true≢false (ap is_refused e)

abbrev match_of : Reply → Match
match_of (answers.done h c) = none
match_of (answers.found h l q) = found h l
match_of (answers.none q) = none
match_of (answers.refused n) = none

match_of_lem : (r : Match) (q : ℕ) → match_of (matched r q) ≡ r
match_of_lem none q = refl
match_of_lem (found h l) q = refl

match_one : (r s : Match) (p q : ℕ) → matched r p ≡ matched s q → r ≡ s
match_one r s p q e = sym (match_of_lem r p) ∙ ap match_of e ∙ match_of_lem s q

-- where a turn of the table's walk gives a match: it ended there, or went on and gives it
record Turned (b c base : ℕ) (f r : Match) (q : ℕ) (on : ℕ → Match → Reply) : Type 0 where
  fits : ltb 8 (b / hop_bound) ≡ false
  ends : c ≡ 0 → deeper base f b ≡ r
  goes : 1 ≤ c → on c (deeper base f b) ≡ matched r q

turned : (A base b p c q : ℕ) (f r : Match) (on : ℕ → Match → Reply) → table.turn A base b p c f on ≡ matched r q
    → Turned b c base f r q on
turned A base b p c q f r on e =
    bool (ltb 8 (b / hop_bound)) (λ d. absurd (not_matched r q 2 (rw d at e))) (λ d.
    same c 0
    (λ z g. bool (ltb 8 p) (λ h. absurd (not_matched r q 2 (rw (d, g, h) at e))) (λ h. record {
      fits = d;
      ends = λ _. match_one (deeper base f b) r (base + p) q (rw (d, g, h) at e);
      goes = λ l. absurd (omega arith);
    }))
    (λ n g. bool (ltb A c) (λ h. absurd (not_matched r q 2 (rw (d, g, h) at e))) (λ h. record {
      fits = d;
      ends = λ z. absurd (n z);
      goes = λ _. rw (d, g, h) at e;
    })))

-- ---- one entry, by what the byte gets of it

module _ (base y s b c : ℕ) (f r : Match) (on : Match → Answer Match) (small : s < slot_end) where
  -- the byte gets it, and with it best b and place c
  turn-gets : gets y s ≡ true → ltb 8 (b / hop_bound) ≡ false → (c ≡ 0 → deeper base f b ≡ r)
      → (1 ≤ c → on (deeper base f b) ≡ gives r) → turn base y s b c f on ≡ gives r
  turn-gets g d z o =
      rw (le-ltb last_slot s (omega arith), g, d)
      (same c 0 (λ q e. rw e (ap gives (z q))) (λ n e. rw e (o (omega arith))))

  turn_not : gets y s ≡ false → f ≡ r → turn base y s b c f on ≡ gives r
  turn_not g e = rw (le-ltb last_slot s (omega arith), g) (ap gives e)

-- ---- level by level

module _ (L : ℕ) (ts : List ℕ) (o : Table L ts) (ws : List ℕ) (laid : Laid (arrays_of ts) (array_count ts) ws) (x : ℕ) where
  abbrev t : Arrays
  t = arrays_of ts

  abbrev A : ℕ
  A = array_count ts

  -- array a, with n levels below it, and the byte there
  module _ (n a : ℕ) (some : 1 ≤ a) (within : a ≤ A) (used : 1 ≤ t.tag a) where
    abbrev y : ℕ
    y = byte_of L x (L - suc n)

    abbrev m : ℕ
    m = mask_at t a

    abbrev s : ℕ
    s = entry (held_of t a) m y

    abbrev w : ℕ
    w = place_of t a + entry_words * index m y

    index_in : index m y < 2 ^ ones m
    index_in = gather_lt 8 m y (mask_fit t a)

    is_entry_fact : IsEntry t ws w a s
    is_entry_fact = rw (found_at (held_of t a) m y (mask_fit t a)) at (laid.entries a (index m y) some within used index_in)

    holds : Holds (held_of t a) (t.slot a) (t.link a)
    holds = held_by_holds (t.slot a) (t.link a)

    best_same : cond (has y s) (cover_of (t.slot a) s) 0 ≡ bests_of ts a y
    best_same =
        best_by_entry (held_of t a) (t.slot a) (t.link a) holds y (omega arith) m (mask_free t a)
        ∙ sym ((o.right a some within used).sound.best y (omega arith))

    link_same : cond (has y s) (below_of (t.link a) s) 0 ≡ t.link a y
    link_same =
        link_by_entry (held_of t a) (t.slot a) (t.link a) holds y (omega arith) m (mask_free t a)

    -- the entry's words are the cell's best, and the place of the array below
    module _ (g : gets y s ≡ true) where
      has_it : has y s ≡ true
      has_it = bool (eqb s 0) (λ e. absurd (false≢true (rw e at g))) (λ e. rw e at g)

      best_is : get_or ws (w + 1) 0 ≡ bests_of ts a y
      best_is = is_entry_fact.best ∙ rw has_it at best_same

      below_is : below_of (t.link a) s ≡ t.link a y
      below_is = rw has_it at link_same

      place_is : get_or ws (w + 2) 0 ≡ place_below t (t.link a y)
      place_is = is_entry_fact.place ∙ ap (place_below t) below_is

      mask_is : get_or ws (w + 3) 0 ≡ mask_below t (t.link a y)
      mask_is = is_entry_fact.mask ∙ ap (mask_below t) below_is

    -- a byte that has no prefix of the array has no best and no link there
    module _ (g : gets y s ≡ false) where
      none_of : (f : ℕ → ℕ) → f 0 ≡ 0 → cond (has y s) (f s) 0 ≡ 0
      none_of f z = same s 0
          (λ q e. rw q (bool (has y 0) (λ d. rw d z) (λ d. rw d)))
          (λ q e. let d : has y s ≡ false = rw e at g in rw d)

      no_best : bests_of ts a y ≡ 0
      no_best = sym best_same ∙ none_of (cover_of (t.slot a)) refl

      no_link : t.link a y ≡ 0
      no_link = sym link_same ∙ none_of (below_of (t.link a)) refl

    -- one turn
    turns : (f r : Match) (q : ℕ) → table.walk_from L ts x (suc n) a f ≡ matched r q
        → (1 ≤ t.link a y → (h : Match) → table.walk_from L ts x n (t.link a y) h ≡ matched r q
        → walk_from L ws x n (place_of t (t.link a y)) (mask_at t (t.link a y)) h ≡ gives r)
        → walk_from L ws x (suc n) (place_of t a) m f ≡ gives r
    unfolding walk_from table.walk_from
    turns f r q e on =
        let base = 8 * (L - suc n) in
        let c = t.link a y in
        let u = turned A base (bests_of ts a y) (blocks_of ts a y) c q f r (table.walk_from L ts x n) e in
        let room : w + entry_words ≤ length ws = omega (arith, inside t A a (index m y) some within used index_in, laid.room) in
        rw (le-ltb full_mask m (omega (arith, mask_fit t a)), le-ltb (length ws) (w + entry_words) room, is_entry_fact.slot)
        (bool (gets y s)
        (λ g. rw (best_is g, place_is g, mask_is g)
        (turn-gets base y s (bests_of ts a y) (place_below t c) f r (walk_from L ws x n (place_below t c) (mask_below t c))
        (entry_lt (held_of t a) m y) g u.fits
        (λ z. u.ends (none_below c z))
        (λ h. some_below c h (λ b p. walk_from L ws x n p b (deeper base f (bests_of ts a y)) ≡ gives r)
        (λ l. on l (deeper base f (bests_of ts a y)) (u.goes l)))))
        (λ g. turn_not base y s (get_or ws (w + 1) 0) (get_or ws (w + 2) 0) f r
        (walk_from L ws x n (get_or ws (w + 2) 0) (get_or ws (w + 3) 0)) (entry_lt (held_of t a) m y) g
        (rw (no_best g) at (u.ends (no_link g)))))
      where
        none_below : (c : ℕ) → place_below t c ≡ 0 → c ≡ 0
        none_below c z = same c 0 (λ q _. q) (λ n d. absurd (let k = rw d at z in omega arith))

        some_below : (c : ℕ) → 1 ≤ place_below t c → (P : ℕ → ℕ → Type 0) → (1 ≤ c → P (mask_at t c) (place_of t c))
            → P (mask_below t c) (place_below t c)
        some_below c h P p = same c 0 (λ q d. absurd (let k = rw d at h in omega arith)) (λ n d. rw d (p (omega arith)))

  same_walk : (n a : ℕ) → 1 ≤ a → a ≤ A → 1 ≤ t.tag a → (f r : Match) (q : ℕ) → table.walk_from L ts x n a f ≡ matched r q
      → walk_from L ws x n (place_of t a) (mask_at t a) f ≡ gives r
  unfolding table.walk_from
  same_walk zero a some within used f r q e = absurd (not_matched r q 2 e)
  same_walk (suc n) a some within used f r q e = turns n a some within used f r q e (λ l h p. ⊎_elim
      (λ (z : t.link a (byte_of L x (L - suc n)) ≡ 0). absurd (omega arith))
      (λ (k : Child A L t a (byte_of L x (L - suc n)) (t.link a (byte_of L x (L - suc n)))).
      same_walk n (t.link a (byte_of L x (L - suc n))) l k.within (rw k.named (omega arith)) h r q p)
      (o.shape.links a (byte_of L x (L - suc n)) some within (omega arith)))

  -- from the root
  pub walk-longest : x < 2 ^ (8 * L) → walk L ws x ≡ gives (longest (8 * L) x (winners (list_of L ts)))
  unfolding entries_to
  walk-longest small =
      let fits = fits_no_misfit (length ts) (table_fits L ts o) in
      let e = walked-seen L ts x o.shape.some_level o.shape.levels small in
      let rs = winners (list_of L ts) in
      let r = longest (8 * L) x rs in
      let q = block (8 * L) rs x in
      let g : table.walk L ts x ≡ matched r q = rw (fits, seen_table L ts o) at e in
      rw (mask_first t) at (same_walk L 1 (omega arith) o.shape.many (rw o.shape.root (omega arith)) none r q g)
