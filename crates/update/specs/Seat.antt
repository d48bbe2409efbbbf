-- A slot of one array of the words, as the floor of one page has it: what that floor asks, and what its promise says of the
-- words. Assumes nothing.
use Rattle.std.specs.Prelude.{◌≡◌, ◌⊎◌, ◌≢◌, cond, List, eqb, length, get_or}
use Rattle.std.proofs.Math.Path.{refl}
use Rattle.std.proofs.Common.{sym, ap, ◌∙◌, inl, inr, ⊎_elim, mul-le-mul_right, arith, pow-add, pow_mono}
use Prim.Native.Nat.{ℕ, zero, suc, ◌+◌, ◌-◌, ◌*◌, ◌/◌, ◌^◌, ◌≤◌, ◌<◌}
use Rattle.logic.specs.Cases.{same, less}
use Rattle.sizes.specs.Sizes.{array_words, slot_at, slot_end, cell_count, cell_slots, cells_at, total_at, array_at, word_at}
use Rattle.sizes.specs.Sizes.{cell_at}
use Rattle.calm.specs.Calm.{Settled}
use Rattle.calm.specs.Same.{settled_ext}
use Rattle.slots.specs.Word.{IsFeed, hop_in}
use Rattle.slots.specs.Winner.{won_hop, winner_same}
use Rattle.slots.specs.Slot.{with_word}
use Rattle.slots.specs.Page.{words_at}
use Rattle.settle.specs.Settled.{SettledPage}
use Rattle.settle.specs.Reset.{Resets}
use Rattle.array.specs.Tag.{level_in}
use Rattle.array.specs.Cell.{best_in, link_in, block_in}
use Rattle.array.specs.Page.{slots, bests, links, blocks}
use Rattle.array.specs.Right.{Right, right_ext}
use Rattle.array.specs.Put.{any_up, exposed, SlotAt, won_with, PageWordSet, PageSlotSet}
use Rattle.array.specs.Reslot.{rewritten}
use Rattle.array.specs.declared.change.Changed.{Changed}
use Rattle.array.specs.Frame.{page_of, with_page, page_word, page_length, with_length, with_in, with_other}
use Rattle.tree.specs.Arrays.{lev}
use Rattle.words.specs.Words.{arrays_of, array_count, words_of, slots_of, bests_of, blocks_of, totals_of}
use Rattle.words.specs.TableBut.{TableBut}
use Rattle.tree.specs.Tree.{node-level}
use Rattle.tree.specs.SlotSet.{Place}
use Rattle.words.specs.SlotSet.{SlotSet}
use Rattle.paths.specs.Alike.{Alike}
use Rattle.words.specs.Lent.{lent_word, lent_slot, lent_best, lent_link, page_settled}

-- array a, of level k, is right, and has a slot of length d and value x
pub record Seat (ws : List ℕ) (a k d x : ℕ) : Type 0 where
  pub some : 1 ≤ a
  pub inside : array_at (a + 1) ≤ length ws
  pub level : lev (arrays_of ws) a ≡ k + 1
  pub deep : d ≤ 8
  pub small : x < 2 ^ d
  pub own : (1 ≤ d) ⊎ (k ≡ 0)
  pub right : Right (k + 1) (slots_of ws a) (bests_of ws a)
  pub settled : Settled (slots_of ws a) ((arrays_of ws).link a) (blocks_of ws a)

-- of a table but for one array
pub seat_at : (L e : ℕ) (ws : List ℕ) (a q k d x : ℕ) → TableBut L e ws → Place (array_count ws) L (arrays_of ws) a q k d x
    → Seat ws a k d x
seat_at L e ws a q k d x ok p =
    let lv = rw p.leads at (node-level (array_count ws) L (arrays_of ws) ok.shape q k (rw p.leads p.array)) in
    record {
      some = p.array;
      inside = omega (arith, ok.whole, ok.low, lv.within);
      level = lv.level;
      deep = p.deep;
      small = p.small;
      own = p.own;
      right = rw lv.level at (ok.right a p.array lv.within (omega (arith, lv.level)));
      settled = ok.settled a p.array lv.within (omega (arith, lv.level));
    }

-- ---- slots alike below slot_end cover alike

module _ (f g : ℕ → ℕ) (e : (s : ℕ) → s < slot_end → f s ≡ g s) where
  any_ext : (n s : ℕ) → s < slot_end → any_up f s n ≡ any_up g s n
  unfolding any_up
  any_ext zero s h = refl
  any_ext (suc n) s h = rw (e s h, any_ext n (s / 2) (omega arith))

  exposed_ext : (d i n : ℕ) → i + n ≤ cell_count → exposed f d i n ≡ exposed g d i n
  unfolding exposed
  exposed_ext d i zero h = refl
  exposed_ext d i (suc n) h = rw (any_ext (8 - d) (cell_slots + (i + n)) (omega arith), exposed_ext d i n (omega arith))

-- the cells that are rewritten once feed f's word in the slot of length d and value x of array a is w: those that no longer slot
-- covers, where another hop wins
abbrev pub reseated : List ℕ → ℕ → ℕ → ℕ → ℕ → ℕ → ℕ
reseated ws a d x f w =
    cond (eqb (slots_of ws a (2 ^ d + x)) (won_hop (with_word (words_of ws a (2 ^ d + x)) f w))) 0
    (exposed (slots_of ws a) d (x * 2 ^ (8 - d)) (2 ^ (8 - d)))

-- ---- what the floor of one page asks and gives

module _ (ws : List ℕ) (a k d x : ℕ) (s : Seat ws a k d x) where
  page_slot : (r : ℕ) → r < slot_end → slots (page_of ws a) r ≡ slots_of ws a r
  page_slot = lent_slot ws a

  pub seat_spot : SlotAt (page_of ws a) d x
  seat_spot = record {
    page = page_length ws a s.inside;
    depth = s.deep;
    value = s.small;
    sound = (right_ext (k + 1) (slots_of ws a) (bests_of ws a) (slots (page_of ws a)) (bests (page_of ws a))
        (λ r l h. page_slot r h) (lent_best ws a) s.right).sound;
  }

  pub seat_settled : SettledPage (page_of ws a)
  seat_settled = page_settled ws a s.settled

  slot_lt : 2 ^ d + x < slot_end
  slot_lt = omega (arith, s.small, pow_mono {i = d} {j = 8} s.deep)

  seat_exposed : exposed (slots (page_of ws a)) d (x * 2 ^ (8 - d)) (2 ^ (8 - d))
      ≡ exposed (slots_of ws a) d (x * 2 ^ (8 - d)) (2 ^ (8 - d))
  seat_exposed =
      let e : d + (8 - d) ≡ 8 = omega (arith, s.deep) in
      let p : 2 ^ d * 2 ^ (8 - d) ≡ 256 = sym (pow-add 2 d (8 - d)) ∙ ap (λ (n : ℕ). 2 ^ n) e in
      let fits : x * 2 ^ (8 - d) + 2 ^ (8 - d) ≤ cell_count = omega (arith, mul-le-mul_right (2 ^ (8 - d)) s.small) in
      exposed_ext (slots (page_of ws a)) (slots_of ws a) page_slot d (x * 2 ^ (8 - d)) (2 ^ (8 - d)) fits

  -- feed f's word set to w: the hop that wins then, and the cells that are rewritten
  module _ (f w : ℕ) where
    seat_won : won_with (page_of ws a) (2 ^ d + x) f w ≡ won_hop (with_word (words_of ws a (2 ^ d + x)) f w)
    seat_won =
        ap hop_in (winner_same
        (with_word (words_at (page_of ws a) (slot_at (2 ^ d + x))) f w) (with_word (words_of ws a (2 ^ d + x)) f w)
        (λ j y. same j f (λ _ t. rw t) (λ _ t. rw t (lent_word ws a (2 ^ d + x) j slot_lt y))))

    seat_rewritten : rewritten (page_of ws a) d x f w ≡ reseated ws a d x f w
    seat_rewritten = rw (page_slot (2 ^ d + x) slot_lt, seat_won, seat_exposed)

  -- the page m has come back
  module _ (m : List ℕ) (f w h : ℕ) (o : PageWordSet (page_of ws a) m (2 ^ d + x) f w)
      (g : PageSlotSet (page_of ws a) m (2 ^ d + x) h) (b : SettledPage m) where
    abbrev vs : List ℕ
    vs = with_page ws a m

    whole : length m ≡ array_words
    whole = g.size ∙ page_length ws a s.inside

    word : (i : ℕ) → i < array_words → get_or vs (word_at a i) 0 ≡ get_or m i 0
    word = with_in ws a m s.inside whole

    tag : get_or vs (array_at a) 0 ≡ get_or ws (array_at a) 0
    tag =
        let e : word_at a 0 ≡ array_at a = omega arith in
        rw e at (word 0 (omega arith) ∙ g.tag ∙ page_word ws a 0 (omega arith))

    slot_word_fact : (r j : ℕ) → r < slot_end → IsFeed j → words_of vs a r j ≡ words_at m (slot_at r) j
    slot_word_fact r j z y = word (slot_at r + j - 1) (omega (arith, y.high))

    slot : (r : ℕ) → r < slot_end → slots_of vs a r ≡ slots m r
    slot r z = ap hop_in (winner_same (words_of vs a r) (words_at m (slot_at r)) (λ j y. slot_word_fact r j z y))

    here : (j : ℕ) → IsFeed j → words_of vs a (2 ^ d + x) j ≡ with_word (words_of ws a (2 ^ d + x)) f w j
    here j y =
        slot_word_fact (2 ^ d + x) j slot_lt y ∙ same j f
        (λ e t. rw (t, e) o.here)
        (λ n t. rw t (o.feeds j y n ∙ lent_word ws a (2 ^ d + x) j slot_lt y))

    cell : (i : ℕ) → i < cell_count → get_or vs (cell_at a i) 0 ≡ get_or m (cells_at + i) 0
    cell i w = let e : cell_at a i ≡ word_at a (cells_at + i) = omega arith in rw e (word (cells_at + i) (omega arith))

    -- length 0 is the root's still: no other array has a place for it
    not_first : 2 ≤ k + 1 → 1 ≡ 2 ^ d + x → ⊥
    not_first z e =
        ⊎_elim (λ (w : 1 ≤ d). omega (arith, pow_mono {i = 1} {j = d} w)) (λ (w : k ≡ 0). omega arith) s.own

    right : Right (k + 1) (slots m) (bests m)
    right = record {
      sound = g.sound;
      first = λ z. g.same_slots 1 (omega arith) (omega arith) (not_first z) ∙ page_slot 1 (omega arith) ∙ s.right.first z;
    }

    -- a word of another array
    elsewhere : (c i : ℕ) → c ≢ a → i < array_words → get_or vs (word_at c i) 0 ≡ get_or ws (word_at c i) 0
    elsewhere c i n b =
        with_other ws a m s.inside whole (word_at c i) (less c a (λ l _. inl (omega arith)) (λ l _. inr (omega arith)))

    -- totals stay
    total : (c q : ℕ) → q < slot_end → totals_of vs c q ≡ totals_of ws c q
    total c q b =
        same c a
        (λ e _. rw e (word (total_at q) (omega arith) ∙ g.high (total_at q) (omega arith)
        ∙ page_word ws a (total_at q) (omega arith)))
        (λ n _. elsewhere c (total_at q) n (omega arith))

    seat_reslot : SlotSet ws (with_page ws a m) a (2 ^ d + x) f w
    seat_reslot =
        let lv : lev (arrays_of vs) a ≡ k + 1 = ap level_in tag ∙ s.level in
        record {
          size = with_length ws a m s.inside whole;
          header = λ i l. with_other ws a m s.inside whole i (inl (omega (arith, s.some)));
          others = λ c i l n b. elsewhere c i n (omega arith);
          tag = tag;
          links = λ i w. ap link_in (cell i w) ∙ g.same_links i w ∙ lent_link ws a i w;
          here = here;
          slots = λ r l z n j y. slot_word_fact r j z y ∙ o.slots r l z n j y ∙ lent_word ws a r j z y;
          right = rw lv (right_ext (k + 1) (slots m) (bests m) (slots_of vs a) (bests_of vs a)
              (λ r l w. slot r w) (λ i w. ap best_in (cell i w)) right);
          settled = settled_ext (slots m) (links m) (blocks m) (slots_of vs a) ((arrays_of vs).link a) (blocks_of vs a)
              (λ r l w. slot r w) (λ i w. ap link_in (cell i w)) (λ i w _. ap block_in (cell i w)) b;
        }

-- ---- feed f's word in a seat set to w, or to 0 for none: vs is ws but for that word and the array's best cells and blocks; r
-- tells the hops that won there before and after, and how many cells took another best

pub record Seated (ws vs : List ℕ) (a d x f w : ℕ) (r : Changed) : Type 0 where
  pub slot : SlotSet ws vs a (2 ^ d + x) f w
  pub before : r.before ≡ slots_of ws a (2 ^ d + x)
  pub after : r.after ≡ slots_of vs a (2 ^ d + x)
  pub count : r.cells ≡ reseated ws a d x f w
  pub totals : (c q : ℕ) → q < slot_end → totals_of vs c q ≡ totals_of ws c q
  pub others : (c : ℕ) → c ≢ a → Alike ws vs c

-- with the words as the code has them
pub seated : (ws vs m : List ℕ) (a k d x f w : ℕ) (r : Changed) → Seat ws a k d x → Resets (page_of ws a) m d x f w r
    → vs ≡ with_page ws a m → Seated ws vs a d x f w r
seated ws vs m a k d x f w r s g e =
    rw e (record {
      slot = seat_reslot ws a k d x s m f w _ g.word g.slot g.settled;
      before = g.before ∙ page_slot ws a k d x s (2 ^ d + x) (slot_lt ws a k d x s);
      after = g.after ∙ sym g.slot.here
          ∙ sym (slot ws a k d x s m f w _ g.word g.slot g.settled (2 ^ d + x) (slot_lt ws a k d x s));
      count = g.cells ∙ seat_rewritten ws a k d x s f w;
      totals = total ws a k d x s m f w _ g.word g.slot g.settled;
      others = λ c n i b. elsewhere ws a k d x s m f w _ g.word g.slot g.settled c i n b;
    })
