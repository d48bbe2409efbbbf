-- A feed's word in a seat of a table set, and then the totals on the path of its array: what is asked, and the words afterwards.
-- Assumes nothing.
use Rattle.std.specs.Prelude.{◌≡◌, ◌≢◌, List, ℕ, ◌+◌, ◌-◌, ◌*◌, ◌/◌, ◌^◌, ◌≤◌, ◌<◌, get_or}
use Rattle.std.proofs.Common.{sym, ap, ◌∙◌, arith, pow_pos, pow_mono}
use Rattle.sizes.specs.Sizes.{slot_end, word_at}
use Rattle.array.specs.Tag.{level_in}
use Rattle.array.specs.declared.change.Changed.{Changed}
use Rattle.tree.specs.Arrays.{node, lev}
use Rattle.tree.specs.Tree.{path, reach}
use Rattle.tree.specs.SlotSet.{Place, same_node}
use Rattle.tree.specs.Tree.{node-level}
use Rattle.gather.specs.WordSet.{TreeWordSet}
use Rattle.totals.specs.Sums.{some, Sums}
use Rattle.words.specs.Words.{feeds_of, arrays_of, array_count, slots_of, totals_of}
use Rattle.words.specs.TableBut.{TableBut}
use Rattle.words.specs.SlotSet.{SlotSet, slot_set_tree}
use Rattle.words.specs.Added.{own_bits}
use Rattle.words.specs.Retotalled.{step, retotalled, WordSet, end_slots, end_slot_set, end_sums, end_still, end_off}
use Rattle.paths.specs.Alike.{Alike}
use Rattle.update.specs.Seat.{Seat, Seated, reseated, seat_at}

-- a table but for array e, and a seat of length d and value x in its array a of level k
pub record Sits (L : ℕ) (ws : List ℕ) (a k d x : ℕ) : Type 0 where
  pub e : ℕ
  pub ok : TableBut L e ws
  pub within : a ≤ array_count ws
  pub seat : Seat ws a k d x

pub sits_at : (L e : ℕ) (ws : List ℕ) (a q k d x : ℕ) → TableBut L e ws → Place (array_count ws) L (arrays_of ws) a q k d x
    → Sits L ws a k d x
sits_at L e ws a q k d x ok p =
    let lv = rw p.leads at (node-level (array_count ws) L (arrays_of ws) ok.shape q k (rw p.leads p.array)) in
    record { e = e; ok = ok; within = lv.within; seat = seat_at L e ws a q k d x ok p }

-- us is ws but for feed f's word in the slot, which is w, the array's best cells and blocks, and totals, which are right; the
-- arrays off the path stay, and all but the array itself where the slot is taken before and after, or free
pub record Reseated (ws us : List ℕ) (a k d x f w cells : ℕ) : Type 0 where
  pub slot : SlotSet ws us a (2 ^ d + x) f w
  pub sums : Sums (array_count ws) (arrays_of us) (totals_of us)
  pub count : cells ≡ reseated ws a d x f w
  pub off : (v : ℕ) → node (arrays_of ws) v k ≡ a → (c : ℕ)
      → ((i : ℕ) → i ≤ k → node (arrays_of ws) (v / 2 ^ (8 * (k - i))) i ≢ c)
      → Alike ws us c
  pub still : some (slots_of us a (2 ^ d + x)) ≡ some (slots_of ws a (2 ^ d + x)) → (c : ℕ) → c ≢ a → Alike ws us c

module _ {L : ℕ} {ws vs : List ℕ} {a k d x f w : ℕ} {r : Changed} (s : Sits L ws a k d x) (g : Seated ws vs a d x f w r) where
  abbrev slot : ℕ
  slot = 2 ^ d + x

  low : 1 ≤ slot
  low = omega (arith, pow_pos d)

  high : slot < slot_end
  high = omega (arith, s.seat.small, pow_mono {i = d} {j = 8} s.seat.deep)

  tree : TreeWordSet (feeds_of ws) (feeds_of vs) a slot f w
  tree = slot_set_tree L s.e ws vs a slot f w s.seat.some g.slot

  set : (v : ℕ) → node (arrays_of ws) v k ≡ a → WordSet L s.e ws vs v k a slot f w
  set v e = record {
    ok = s.ok;
    leads = e;
    there = s.seat.some;
    low = low;
    high = high;
    slot = g.slot;
    totals = λ c q h l b. g.totals c q b;
  }

  -- a path that leads to the array
  here : WordSet L s.e ws vs (path (arrays_of ws) k a) k a slot f w
  here =
      let e : lev (arrays_of ws) a ≡ k + 1 = s.seat.level in
      set (path (arrays_of ws) k a)
      (reach (array_count ws) L (arrays_of ws) s.ok.shape k a s.seat.some s.within (omega arith)).leads

  abbrev end : List ℕ
  end = retotalled k vs a slot (step (slots_of ws a slot) (slots_of vs a slot))

  made : Reseated ws end a k d x f w r.cells
  made = record {
    slot = end_slot_set here;
    sums = end_sums here;
    count = g.count;
    off = λ v e c n i b. (let same : (u j : ℕ) → node (arrays_of vs) u j ≡ node (arrays_of ws) u j =
        same_node (arrays_of ws) (arrays_of vs) tree.tags tree.links in
        end_off (set v e) c i b (λ j h q. n j h (sym (same _ j) ∙ q)) ∙ g.others c (apart v e c n) i b);
    still = λ e c n i b. ap (λ (us : List ℕ). get_or us (word_at c i) 0) (end_still here (sym same_slot ∙ e)) ∙ g.others c n i b;
  }
    where
      -- the array itself is on the path
      apart : (v : ℕ) → node (arrays_of ws) v k ≡ a → (c : ℕ)
          → ((i : ℕ) → i ≤ k → node (arrays_of ws) (v / 2 ^ (8 * (k - i))) i ≢ c) → c ≢ a
      apart v e c n q =
          let z : v / 2 ^ (8 * (k - k)) ≡ v = own_bits v k in
          n k (omega arith) (ap (λ (u : ℕ). node (arrays_of ws) u k) z ∙ e ∙ sym q)

      -- totals are no slots
      same_slot : some (slots_of end a slot) ≡ some (slots_of vs a slot)
      same_slot = ap some (end_slots here a slot s.seat.some high)

  -- with the words as the code has them
  pub reseats : (us : List ℕ) → us ≡ retotalled (lev (arrays_of vs) a - 1) vs a (2 ^ d + x) (step r.before r.after)
      → Reseated ws us a k d x f w r.cells
  reseats us e =
      let l : lev (arrays_of vs) a - 1 ≡ k = omega (arith, ap level_in g.slot.tag, s.seat.level) in
      rw (e, l, g.before, g.after) made
