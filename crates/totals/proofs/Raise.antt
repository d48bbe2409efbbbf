-- A slot taken and the totals raised by its marks, or a slot freed and the totals lowered: the conditions stay. Assumes nothing.
use Rattle.std.specs.Prelude.{ℕ, ◌+◌, ◌*◌, ◌<◌, ◌≤◌}
use Rattle.std.proofs.Common.{arith}
use Rattle.sizes.specs.Sizes.{cell_count, cell_slots, slot_end}
use Rattle.tree.specs.Arrays.{Arrays, node}
use Rattle.tree.specs.Shape.{Shape}
use Rattle.totals.specs.Sums.{Sums}
use Rattle.totals.proofs.Marks.{mark_inner, mark_outer}
use Rattle.totals.specs.Raise.{Takes, takes_some, Raised, link_in, sum-up, Inner, Outer}

module _ (A L : ℕ) (t u : Arrays) (T U : ℕ → ℕ → ℕ) (v k r : ℕ) (shape : Shape A L t) (there : 1 ≤ node t v k) (low : 1 ≤ r)
    (high : r < slot_end) (g : Takes t u (node t v k) r) (m : Raised A t T U v k r) where
  inner : (a s : ℕ) → 1 ≤ a → a ≤ A → 1 ≤ s → s < cell_slots → (Inner A L t u T U v k r shape there low high g m) a s
  inner a s h w l x =
      record {
        own = takes_some t u (node t v k) r g a s h l (omega arith);
        marks = mark_inner t k v r a s high l x;
        here = m.at a s h w l (omega arith);
        one = m.at a (2 * s) h w (omega arith) (omega arith);
        other = m.at a (2 * s + 1) h w (omega arith) (omega arith);
      }

  outer : (a i : ℕ) → 1 ≤ a → a ≤ A → i < cell_count → (Outer A L t u T U v k r shape there low high g m) a i
  outer a i h w b =
      record {
        own = takes_some t u (node t v k) r g a (cell_slots + i) h (omega arith) (omega arith);
        marks = mark_outer A L t shape k v r a i low high h w b there;
        here = m.at a (cell_slots + i) h w (omega arith) (omega arith);
        below = sum-up A L t u T U v k r shape there low high g m (t.link a i)
            (link_in A L t u T U v k r shape there low high g m a i h w b);
      }

  pub raise : Sums A t T → Sums A u U
  raise c = record {
    inner = λ a s h w l x. (let d = inner a s h w l x in
        omega (arith, c.inner a s h w l x, d.own, d.marks, d.here, d.one, d.other));
    outer = λ a i h w b. rw (g.links a i h b) (let d = outer a i h w b in
        omega (arith, c.outer a i h w b, d.own, d.marks, d.here, d.below));
  }

  -- and back
  pub lower : Sums A u U → Sums A t T
  lower c = record {
    inner = λ a s h w l x. (let d = inner a s h w l x in
        omega (arith, c.inner a s h w l x, d.own, d.marks, d.here, d.one, d.other));
    outer = λ a i h w b. (let d = outer a i h w b in
        omega (arith, rw (g.links a i h b) at (c.outer a i h w b), d.own, d.marks, d.here, d.below));
  }
