-- One array laid out: what its entries are by its page and the map, word by word. Assumes nothing.
--
--     page ── flags ── entry of each index ──▶ slot | its cover by the page | place and mask of the array below by the map
use Rattle.std.specs.Prelude.{◌≡◌, refl, ◌⊎◌, ◌≢◌, cond, List, ℕ, ◌+◌, ◌-◌, ◌*◌, ◌≤◌, ◌<◌, ltb, eqb, length, get_or, set}
use Rattle.std.proofs.Common.{◌∙◌, inl, inr, arith}
use Rattle.std.proofs.Math.Logic.{⊎_elim}
use Rattle.std.proofs.Math.ListN.{length-set}
use Rattle.std.proofs.Math.Seq.{get_or-set_same, get_or-set_other}
use Rattle.logic.specs.Cases.{same}
use Rattle.sizes.specs.Sizes.{cell_slots, hop_bound}
use Rattle.masks.specs.Prefix.{spare}
use Rattle.masks.specs.Entry.{entry_at}
use Rattle.array.specs.Page.{slots, bests, links}
use Rattle.packed.specs.Layout.{entry_words}
use Rattle.packed.specs.Byte.{below_of}
use Rattle.packed_arrays.specs.Flags.{held_on}
use Rattle.packed_arrays.specs.Mapped.{place_in, mask_in}

-- the cover of a slot that is held: a shorter one has its own hop, one of 8 bits the best of its cell
abbrev pub own_of : List ℕ → ℕ → ℕ
own_of page s =
    cond (eqb s 0) 0 (cond (ltb s cell_slots) ((8 - spare s) * hop_bound + slots page s) (bests page (s - cell_slots)))

-- ---- four words

pub record Four (us : List ℕ) (w s best place mask : ℕ) : Type 0 where
  pub slot_is : get_or us w 0 ≡ s
  pub best_is : get_or us (w + 1) 0 ≡ best
  pub place_is : get_or us (w + 2) 0 ≡ place
  pub mask_is : get_or us (w + 3) 0 ≡ mask

unfoldable pub put_to : List ℕ → ℕ → ℕ → ℕ → ℕ → ℕ → List ℕ
put_to ws w s best place mask = set (set (set (set ws w s) (w + 1) best) (w + 2) place) (w + 3) mask

module _ (ws : List ℕ) (w s best place mask : ℕ) where
  abbrev one : List ℕ
  one = set ws w s

  abbrev two : List ℕ
  two = set one (w + 1) best

  abbrev three : List ℕ
  three = set two (w + 2) place

  pub put-size : length (put_to ws w s best place mask) ≡ length ws
  unfolding put_to
  put-size = simp length-set

  pub put_four : w + entry_words ≤ length ws → Four (put_to ws w s best place mask) w s best place mask
  unfolding put_to
  put_four h = record {
    slot_is =
        get_or-set_other three (w + 3) w mask 0 (λ e. omega arith) ∙ get_or-set_other two (w + 2) w place 0 (λ e. omega arith)
        ∙ get_or-set_other one (w + 1) w best 0 (λ e. omega arith) ∙ get_or-set_same ws w s 0 (omega arith);
    best_is =
        get_or-set_other three (w + 3) (w + 1) mask 0 (λ e. omega arith)
        ∙ get_or-set_other two (w + 2) (w + 1) place 0 (λ e. omega arith)
        ∙ get_or-set_same one (w + 1) best 0 (simp length-set (omega arith));
    place_is =
        get_or-set_other three (w + 3) (w + 2) mask 0 (λ e. omega arith)
        ∙ get_or-set_same two (w + 2) place 0 (simp length-set (omega arith));
    mask_is = get_or-set_same three (w + 3) mask 0 (simp length-set (omega arith));
  }

  pub put_rest : (i : ℕ) → (i < w) ⊎ (w + entry_words ≤ i) → get_or (put_to ws w s best place mask) i 0 ≡ get_or ws i 0
  unfolding put_to
  put_rest i c =
      let far : (d : ℕ) → d < 4 → i ≢ w + d =
      λ d q e. ⊎_elim (λ (x : i < w). omega arith) (λ (x : w + entry_words ≤ i). omega arith) c in
      get_or-set_other three (w + 3) i mask 0 (far 3 (omega arith)) ∙ get_or-set_other two (w + 2) i place 0 (far 2 (omega arith))
      ∙ get_or-set_other one (w + 1) i best 0 (far 1 (omega arith))
      ∙ get_or-set_other ws w i s 0 (λ e. far 0 (omega arith) (omega arith))

-- ---- the entry of a slot

-- the slot, its cover, and the place and the mask of the array below it
abbrev pub put_held : List ℕ → List ℕ → List ℕ → ℕ → ℕ → List ℕ
put_held page map ws w s =
    put_to ws w s (own_of page s) (place_in map (below_of (links page) s)) (mask_in map (below_of (links page) s))

-- ---- the entries of indices below k, from word o on

module _ (page map : List ℕ) (m : ℕ) where
  abbrev pub slot_for : ℕ → ℕ
  slot_for v = entry_at (held_on page) m v

  abbrev pub Holds : List ℕ → ℕ → ℕ → Type 0
  Holds us w s = Four us w s (own_of page s) (place_in map (below_of (links page) s)) (mask_in map (below_of (links page) s))

pub record Filled (page map ws us : List ℕ) (o m k : ℕ) : Type 0 where
  pub size : length us ≡ length ws
  pub rows : (v : ℕ) → v < k → Holds page map m us (o + entry_words * v) (slot_for page map m v)
  pub rest : (i : ℕ) → (i < o) ⊎ (o + entry_words * k ≤ i) → get_or us i 0 ≡ get_or ws i 0

pub filled_none : (page map ws : List ℕ) (o m : ℕ) → Filled page map ws ws o m 0
filled_none page map ws o m = record { size = refl; rows = λ v h. absurd (omega arith); rest = λ i c. refl }

four-kept : (us vs : List ℕ) (w s b p m : ℕ) → ((i : ℕ) → w ≤ i → i < w + entry_words → get_or vs i 0 ≡ get_or us i 0)
    → Four us w s b p m → Four vs w s b p m
four-kept us vs w s b p m e q = record {
  slot_is = e w (omega arith) (omega arith) ∙ q.slot_is;
  best_is = e (w + 1) (omega arith) (omega arith) ∙ q.best_is;
  place_is = e (w + 2) (omega arith) (omega arith) ∙ q.place_is;
  mask_is = e (w + 3) (omega arith) (omega arith) ∙ q.mask_is;
}

module _ (page map ws us : List ℕ) (o m k : ℕ) (p : Filled page map ws us o m k) where
  abbrev w : ℕ
  w = o + entry_words * k

  pub filled_more : (s best b place mask : ℕ) → o + entry_words * (k + 1) ≤ length ws → s ≡ slot_for page map m k
      → best ≡ own_of page s → b ≡ below_of (links page) s → place ≡ place_in map b → mask ≡ mask_in map b
      → Filled page map ws (put_to us w s best place mask) o m (k + 1)
  filled_more s best b place mask room e f g h l =
      let vs = put_to us w s best place mask in
      let four = put_four us w s best place mask (omega (arith, p.size)) in
      let keep = put_rest us w s best place mask in
      record {
        size = put-size us w s best place mask ∙ p.size;
        rows = λ v z. same v k
            (λ q _. rw (q, ← e, ← f, ← g, ← h, ← l) four)
            (λ n _. four-kept us vs (o + entry_words * v) _ _ _ _ (λ i a c. keep i (inl (omega arith))) (p.rows v (omega arith)));
        rest = λ i c.
            keep i (⊎_elim (λ (x : i < o). inl (omega arith)) (λ (x : o + entry_words * (k + 1) ≤ i). inr (omega arith)) c)
            ∙ p.rest i (⊎_elim (λ (x : i < o). inl x) (λ (x : o + entry_words * (k + 1) ≤ i). inr (omega arith)) c);
      }
