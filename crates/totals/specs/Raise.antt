-- A slot taken and the totals raised by its marks, or a slot freed and the totals lowered: the conditions stay. Assumes nothing.
use Rattle.std.specs.Prelude.{◌≡◌, ℕ, ◌+◌, ◌*◌, ◌<◌, ◌≤◌, ◌≢◌, ◌⊎◌}
use Rattle.std.proofs.Common.{sym, inl, inr, ⊎_elim, arith}
use Rattle.logic.specs.Cases.{same}
use Rattle.sizes.specs.Sizes.{cell_count, cell_slots, slot_end}
use Rattle.tree.specs.Arrays.{Arrays, node}
use Rattle.tree.specs.Shape.{Child, Shape}
use Rattle.tree.specs.SlotSet.{TreeSlotSet}
use Rattle.totals.specs.Sums.{some, some_none, some_one, sum, sum_none, sum_some}
use Rattle.totals.specs.Cover.{is_same, is_other}
use Rattle.totals.specs.Marks.{mark, spot}

-- u is t but for slot r of array b, that is free in t and holds a hop in u
pub record Takes (t u : Arrays) (b r : ℕ) : Type 0 where
  pub links : (c i : ℕ) → 1 ≤ c → i < cell_count → u.link c i ≡ t.link c i
  pub free : t.slot b r ≡ 0
  pub taken : 1 ≤ u.slot b r
  pub slots : (c s : ℕ) → 1 ≤ c → 1 ≤ s → s < slot_end → (c ≢ b) ⊎ (s ≢ r) → u.slot c s ≡ t.slot c s

pub set_takes : (t u : Arrays) (b s h : ℕ) → TreeSlotSet t u b s h → t.slot b s ≡ 0 → 1 ≤ h → Takes t u b s
set_takes t u b s h g z p = record { links = g.links; free = z; taken = rw g.here p; slots = g.slots }

pub set_frees : (t u : Arrays) (b s : ℕ) → TreeSlotSet t u b s 0 → 1 ≤ t.slot b s → Takes u t b s
set_frees t u b s g p =
    record {
      links = λ c i h w. sym (g.links c i h w);
      free = g.here;
      taken = p;
      slots = λ c r h l w n. sym (g.slots c r h l w n);
    }

pub takes_some : (t u : Arrays) (b r : ℕ) → Takes t u b r → (a s : ℕ) → 1 ≤ a → 1 ≤ s → s < slot_end
    → some (u.slot a s) ≡ some (t.slot a s) + spot b r a s
unfolding spot
takes_some t u b r g a s h l w =
    let none = some_none (t.slot b r) g.free in
    let one = some_one (u.slot b r) g.taken in
    same a b
    (λ q e. same s r
    (λ z _. rw (e, is_same r s (sym z), q, z, none, one))
    (λ n _. rw (e, is_other r s (λ z. n (sym z)), g.slots a s h l w (inr n)) (omega arith)))
    (λ n e. rw (e, g.slots a s h l w (inl n)) (omega arith))

-- U is T and what is added
pub record Raised (A : ℕ) (t : Arrays) (T U : ℕ → ℕ → ℕ) (v k r : ℕ) : Type 0 where
  pub at : (a s : ℕ) → 1 ≤ a → a ≤ A → 1 ≤ s → s < slot_end → U a s ≡ T a s + mark t v k r a s

module _ (A L : ℕ) (t u : Arrays) (T U : ℕ → ℕ → ℕ) (v k r : ℕ) (shape : Shape A L t) (there : 1 ≤ node t v k) (low : 1 ≤ r)
    (high : r < slot_end) (g : Takes t u (node t v k) r) (m : Raised A t T U v k r) where
  pub link_in : (a i : ℕ) → 1 ≤ a → a ≤ A → i < cell_count → t.link a i ≤ A
  link_in a i h w b =
      ⊎_elim
      (λ (z : t.link a i ≡ 0). omega arith)
      (λ (z : Child A L t a i (t.link a i)). z.within)
      (shape.links a i h w b)

  pub sum-up : (b : ℕ) → b ≤ A → sum U b 1 ≡ sum T b 1 + sum (mark t v k r) b 1
  sum-up b w =
      let d = mark t v k r in
      same b 0
      (λ e _. rw (sum_none U b 1 e, sum_none T b 1 e, sum_none d b 1 e))
      (λ n _. rw (sum_some U b 1 (omega arith), sum_some T b 1 (omega arith), sum_some d b 1 (omega arith))
      (m.at b 1 (omega arith) w (omega arith) (omega arith)))

  -- how the sides of each condition differ in t and u: by as much, so that it holds in both or in neither
  pub record Inner (a s : ℕ) : Type 0 where
    pub own : some (u.slot a s) ≡ some (t.slot a s) + spot (node t v k) r a s
    pub marks : mark t v k r a s ≡ spot (node t v k) r a s + (mark t v k r a (2 * s) + mark t v k r a (2 * s + 1))
    pub here : U a s ≡ T a s + mark t v k r a s
    pub one : U a (2 * s) ≡ T a (2 * s) + mark t v k r a (2 * s)
    pub other : U a (2 * s + 1) ≡ T a (2 * s + 1) + mark t v k r a (2 * s + 1)

  pub record Outer (a i : ℕ) : Type 0 where
    pub own : some (u.slot a (cell_slots + i)) ≡ some (t.slot a (cell_slots + i)) + spot (node t v k) r a (cell_slots + i)
    pub marks : mark t v k r a (cell_slots + i)
        ≡ spot (node t v k) r a (cell_slots + i) + sum (mark t v k r) (t.link a i) 1
    pub here : U a (cell_slots + i) ≡ T a (cell_slots + i) + mark t v k r a (cell_slots + i)
    pub below : sum U (t.link a i) 1 ≡ sum T (t.link a i) 1 + sum (mark t v k r) (t.link a i) 1
