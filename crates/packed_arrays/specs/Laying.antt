-- All arrays laid out, one after the other: what the pages and the map give are the entries of the table's arrays.
-- Assumes nothing.
use Rattle.std.specs.Prelude.{◌≡◌, refl, ◌⊎◌, ◌≢◌, true, not, ◌&&◌, ◌||◌, List, ℕ, zero, suc, ◌+◌, ◌-◌, ◌*◌, ◌^◌, ◌≤◌, ◌<◌}
use Rattle.std.specs.Prelude.{leb, eqb, length, get_or}
use Rattle.std.proofs.Common.{sym, ap, ◌∙◌, inl, inr, ⊎_elim, mul-le-mul_right, arith, pow_pos, eq-eqb}
use Rattle.std.proofs.lemmas.Bool.{false≢true, lt-leb}
use Rattle.std.proofs.Math.Nat.{pow-succ'}
use Rattle.std.specs.Int.Count.{ones}
use Rattle.logic.specs.Cases.{same, less, most}
use Rattle.logic.specs.Bools.{and_to}
use Rattle.sizes.specs.Sizes.{slot_end, cell_slots}
use Rattle.masks.specs.Prefix.{spare, slot}
use Rattle.masks.specs.Index.{scatter}
use Rattle.masks.specs.Entry.{entry_at, entry_lt, entry-held}
use Rattle.array.specs.Page.{links}
use Rattle.array.specs.Frame.{page_of}
use Rattle.array.specs.Best.{best_some}
use Rattle.tree.specs.Arrays.{Arrays}
use Rattle.tree.specs.Shape.{Child}
use Rattle.words.specs.Words.{arrays_of, array_count}
use Rattle.words.specs.TableBut.{Table}
use Rattle.words.specs.Lent.{lent_slot, lent_link, lent_best}
use Rattle.packed.specs.Layout.{header_words, entry_words}
use Rattle.packed.specs.Byte.{cover_of, below_of}
use Rattle.packed.specs.Laid.{held_of, mask_at, place_of, needed_for, IsEntry, Laid, inside, entries_end}
use Rattle.packed.specs.Laid.{entry_kept}
use Rattle.packed_arrays.specs.Flags.{held_on, entry_ext, held_page}
use Rattle.packed_arrays.specs.Mapped.{Mapped, entries_free, place_in, mask_in, mapped-place, mapped_mask}
use Rattle.packed_arrays.specs.Filled.{own_of, Filled, slot_for}

-- a slot of 8 bits has none to spare
whole : (s k : ℕ) → cell_slots ≤ s → s * 2 ^ k < 512 → k ≡ 0
whole s zero q h = refl
whole s (suc k) q h =
    let p = mul-le-mul_right (2 ^ suc k) q in
    absurd (omega (arith, pow_pos k, pow-succ' 2 k))

module _ (L : ℕ) (ts : List ℕ) (o : Table L ts) (a : ℕ) (some : 1 ≤ a) (within : a ≤ array_count ts)
    (used : 1 ≤ (arrays_of ts).tag a) where
  abbrev t : Arrays
  t = arrays_of ts

  abbrev page : List ℕ
  page = page_of ts a

  -- a held slot of fewer than 8 bits has a hop
  short_hop : (s : ℕ) → s < cell_slots → held_of t a s ≡ true → t.slot a s ≢ 0
  short_hop s h e z =
      let w = (and_to (leb 1 s) (not (eqb (t.slot a s) 0) || (leb cell_slots s && not (eqb (t.link a (s - cell_slots)) 0))) e).1
      in
      false≢true (rw (eq-eqb (t.slot a s) 0 z, lt-leb cell_slots s h) at w)

  -- the cover by the page is the cover in the array
  own_cover : (s : ℕ) → s < slot_end → (s ≢ 0 → held_of t a s ≡ true) → own_of page s ≡ cover_of (t.slot a) s
  own_cover s h e =
      same s 0 (λ q d. rw d) (λ n d. rw d (less s cell_slots
      (λ l g. rw (g, lent_slot ts a s h) (sym (best_some (t.slot a) s (8 - spare s) (short_hop s l (e n)))))
      (λ l g.
      let z : spare s ≡ 0 = whole s (spare s) l (slot s (omega arith) h).high in
      let i : cell_slots + (s - cell_slots) ≡ s = omega arith in
      let b = (o.right a some within used).sound.best (s - cell_slots) (omega arith) in
      rw (g, z) (lent_best ts a (s - cell_slots) (omega arith) ∙ (rw i at b)))))

  below_page : (s : ℕ) → s < slot_end → below_of (links page) s ≡ below_of (t.link a) s
  below_page s h = most cell_slots s
      (λ q d. rw (d, lent_link ts a (s - cell_slots) (omega arith)))
      (λ q d. rw d)

  -- an array below is one of the table's
  below_is : (s : ℕ) → s < slot_end
      → (below_of (t.link a) s ≤ array_count ts) × (1 ≤ below_of (t.link a) s → 1 ≤ t.tag (below_of (t.link a) s))
  below_is s h = most cell_slots s
      (λ q d. rw d (⊎_elim
      (λ (z : t.link a (s - cell_slots) ≡ 0). (omega arith, λ l. absurd (omega arith)))
      (λ (k : Child (array_count ts) L t a (s - cell_slots) (t.link a (s - cell_slots))).
      (k.within, λ l. rw k.named (omega arith)))
      (o.shape.links a (s - cell_slots) some within (omega arith))))
      (λ q d. rw d (omega arith, λ l. absurd (omega arith)))

  module _ (map ws us : List ℕ) (mapped : Mapped t map (array_count ts)) where
    abbrev m : ℕ
    m = mask_at t a

    pub entry_is : (p : ℕ) → Filled page map ws us p m (2 ^ ones m) → (v : ℕ) → v < 2 ^ ones m
        → IsEntry t us (p + entry_words * v) a (entry_at (held_of t a) m v)
    entry_is p f v h =
        let s = slot_for page map m v in
        let e : s ≡ entry_at (held_of t a) m v = entry_ext (held_on page) (held_of t a) (held_page ts a) m (scatter 8 m v) in
        let l = entry_lt (held_of t a) m (scatter 8 m v) in
        let r = f.rows v h in
        let s' = entry_at (held_of t a) m v in
        let b = below_page s' l in
        let k = below_is s' l in
        record {
          slot = r.slot_is ∙ e;
          best = r.best_is ∙ ap (own_of page) e ∙ own_cover s' l (λ n. entry-held (held_of t a) m (scatter 8 m v) n);
          place = r.place_is ∙ ap (λ (s : ℕ). place_in map (below_of (links page) s)) e ∙ ap (place_in map) b
              ∙ mapped-place t map (array_count ts) mapped (below_of (t.link a) s') k.0 k.1;
          mask = r.mask_is ∙ ap (λ (s : ℕ). mask_in map (below_of (links page) s)) e ∙ ap (mask_in map) b
              ∙ mapped_mask t map (array_count ts) mapped (below_of (t.link a) s') k.0 k.1;
        }

-- ---- the arrays 1 .. n

pub record LaidTo (t : Arrays) (ws us : List ℕ) (n : ℕ) : Type 0 where
  pub size : length us ≡ length ws
  pub entries : (a v : ℕ) → 1 ≤ a → a ≤ n → 1 ≤ t.tag a → v < 2 ^ ones (mask_at t a)
      → IsEntry t us (place_of t a + entry_words * v) a (entry_at (held_of t a) (mask_at t a) v)
  pub rest : (i : ℕ) → (i < header_words) ⊎ (needed_for t n ≤ i) → get_or us i 0 ≡ get_or ws i 0

pub laid_none : (t : Arrays) (ws : List ℕ) → LaidTo t ws ws 0
laid_none t ws = record { size = refl; entries = λ a v h l. absurd (omega arith); rest = λ i c. refl }

module _ (t : Arrays) (ws us : List ℕ) (a : ℕ) (low : 1 ≤ a) (p : LaidTo t ws us (a - 1)) where
  pub laid_free : t.tag a ≡ 0 → LaidTo t ws us a
  laid_free z =
      let f = entries_free t a low z in
      record {
        size = p.size;
        entries = λ b v h l u g. same b a
            (λ q _. absurd (omega (arith, ap t.tag q)))
            (λ n _. p.entries b v h (omega arith) u g);
        rest = λ i c. p.rest i (⊎_elim (λ (x : i < header_words). inl x) (λ (x : needed_for t a ≤ i). inr (omega arith)) c);
      }

  pub laid_used : (vs : List ℕ) → 1 ≤ t.tag a → length vs ≡ length us
      → ((v : ℕ) → v < 2 ^ ones (mask_at t a)
      → IsEntry t vs (place_of t a + entry_words * v) a (entry_at (held_of t a) (mask_at t a) v))
      → ((i : ℕ) → (i < place_of t a) ⊎ (place_of t a + entry_words * 2 ^ ones (mask_at t a) ≤ i) → get_or vs i 0 ≡ get_or us i 0)
      → LaidTo t ws vs a
  laid_used vs u size new keep =
      let end = entries_end t a low u in
      record {
        size = size ∙ p.size;
        entries = λ b v h l x g. same b a
            (λ q _. new_at b v q g)
            (λ n _. entry_kept t us vs (place_of t b + entry_words * v) b _
            (λ i y z. keep i (inl (omega (arith, inside t (a - 1) b v h (omega arith) x g))))
            (p.entries b v h (omega arith) x g));
        rest = λ i c.
            keep i (⊎_elim (λ (x : i < header_words). inl (omega arith)) (λ (x : needed_for t a ≤ i). inr (omega arith)) c)
            ∙ p.rest i (⊎_elim (λ (x : i < header_words). inl x) (λ (x : needed_for t a ≤ i). inr (omega arith)) c);
      }
    where
      new_at : (b v : ℕ) → b ≡ a → v < 2 ^ ones (mask_at t b)
          → IsEntry t vs (place_of t b + entry_words * v) b (entry_at (held_of t b) (mask_at t b) v)
      new_at b v q g = rw q (new v (rw q at g))

pub laid_all : (t : Arrays) (A : ℕ) (ws us : List ℕ) → needed_for t A ≤ length ws → LaidTo t ws us A → Laid t A us
laid_all t A ws us h p = record { room = omega (arith, p.size); entries = p.entries }
