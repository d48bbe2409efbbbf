-- The prefixes of a page as flags, a word for each slot. Assumes nothing.
use Rattle.std.specs.Prelude.{◌≡◌, Bool, true, false, cond, not, ◌&&◌, List, ℕ, ◌+◌, ◌-◌, ◌≤◌, ◌<◌, leb, eqb, length, get_or, set}
use Rattle.std.proofs.Common.{sym, ap, ◌∙◌, arith, length-set, get_or-set_same, get_or-set_other, le-leb}
use Rattle.logic.specs.Cases.{bool, same}
use Rattle.sizes.specs.Sizes.{slot_end, cell_slots, total_at}
use Rattle.masks.specs.Mask.{mask_of}
use Rattle.masks.proofs.Mask.{mask_same}
use Rattle.masks.specs.Top.{top_same}
use Rattle.masks.specs.Entry.{mapped, entry}
use Rattle.masks.specs.On.{fits}
use Rattle.masks.specs.Sieve.{held_in}
use Rattle.array.specs.Page.{slots, links}
use Rattle.array.specs.Frame.{page_of, page_word}
use Rattle.words.specs.Words.{arrays_of, array_count}
use Rattle.words.specs.TableBut.{Table}
use Rattle.words.specs.Empty.{total_free}
use Rattle.words.specs.Lent.{lent_slot, lent_link}
use Rattle.packed.specs.Laid.{held_by, held_of}

-- the slots of a page that are held
abbrev pub held_on : List ℕ → ℕ → Bool
held_on page = held_by (slots page) (links page)

abbrev pub flag_of : List ℕ → ℕ → ℕ
flag_of page s = cond (held_on page s) 1 0

-- the totals of a page tell its free slots
abbrev pub Tells : List ℕ → Type 0
Tells page = (s : ℕ) → 1 ≤ s → s < slot_end → get_or page (total_at s) 0 ≡ 0 → slots page s ≡ 0

-- as they do in a table
pub table_tells : (ts : List ℕ) → Table 4 ts → (a : ℕ) → 1 ≤ a → a ≤ array_count ts → Tells (page_of ts a)
table_tells ts tb a h w s l b z =
    lent_slot ts a s b ∙ total_free tb a s h w l b (sym (page_word ts a (total_at s) (omega arith)) ∙ z)

-- the flags of the slots below n are right
pub record Flagged (page fs : List ℕ) (n : ℕ) : Type 0 where
  pub size : length fs ≡ slot_end
  pub each : (s : ℕ) → s < n → held_in fs s ≡ held_on page s

-- ---- in a loop

pub flagged_none : (page fs : List ℕ) → length fs ≡ slot_end → Flagged page fs 1
unfolding held_in
flagged_none page fs e = record { size = e; each = λ s h. let z : s ≡ 0 = omega arith in rw z }

flag_tells : (b : Bool) (r : ℕ) → r ≡ cond b 1 0 → not (eqb r 0) ≡ b
flag_tells true r e = rw e
flag_tells false r e = rw e

held_flag : (fs : List ℕ) (s : ℕ) → 1 ≤ s → held_in fs s ≡ not (eqb (get_or fs s 0) 0)
unfolding held_in
held_flag fs s h = rw (le-leb 1 s h)

pub flagged_more : (page fs : List ℕ) (s r : ℕ) → 1 ≤ s → s < slot_end → r ≡ flag_of page s → Flagged page fs s
    → Flagged page (set fs s r) (s + 1)
unfolding held_in
flagged_more page fs s r l h e p =
    let here = get_or-set_same fs s r 0 (omega (arith, p.size)) in
    record {
      size = length-set fs s r ∙ p.size;
      each = λ j k. same j s
          (λ q _. rw q (held_flag (set fs s r) s l ∙ ap (λ (x : ℕ). not (eqb x 0)) here ∙ flag_tells (held_on page s) r e))
          (λ n _. rw (get_or-set_other fs s j r 0 n) (p.each j (omega arith)));
    }

-- ---- what they tell

pub entry_ext : (f g : ℕ → Bool) → ((s : ℕ) → s < slot_end → f s ≡ g s) → (m y : ℕ) → entry f m y ≡ entry g m y
unfolding entry
entry_ext f g e m y =
    top_same (mapped f m y) (mapped g m y) slot_end (λ s h. ap (λ (b : Bool). b && fits m y s) (e s h))

-- the page of array a holds what the array does
pub held_page : (ts : List ℕ) (a s : ℕ) → s < slot_end → held_on (page_of ts a) s ≡ held_of (arrays_of ts) a s
held_page ts a s h =
    bool (leb cell_slots s)
    (λ d. rw (lent_slot ts a s h, lent_link ts a (s - cell_slots) (omega arith)))
    (λ d. rw (lent_slot ts a s h, d))

module _ (ts fs : List ℕ) (a : ℕ) (p : Flagged (page_of ts a) fs slot_end) where
  flags_held : (s : ℕ) → s < slot_end → held_in fs s ≡ held_of (arrays_of ts) a s
  flags_held s h = p.each s h ∙ held_page ts a s h

  pub flags_mask : mask_of (held_in fs) ≡ mask_of (held_of (arrays_of ts) a)
  flags_mask = mask_same (held_in fs) (held_of (arrays_of ts) a) flags_held
