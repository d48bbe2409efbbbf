-- The links and the tag of one array as Booleans: what the check computes of its shape. Assumes nothing.
use Rattle.std.specs.Prelude.{◌≡◌, ◌⊎◌, Bool, ◌&&◌, ◌||◌, ℕ, ◌+◌, ◌≤◌, ◌<◌, ltb, leb, eqb}
use Rattle.std.proofs.Common.{inl, inr, ⊎_elim, arith}
use Rattle.logic.specs.Cases.{same}
use Rattle.sizes.specs.Sizes.{cell_count}
use Rattle.array.specs.Tag.{tag_of}
use Rattle.tree.specs.Arrays.{Arrays, par, cell, lev}
use Rattle.tree.specs.Shape.{Child, ParentLinks}
use Rattle.logic.specs.Reflects.{Reflects, reflects_eq, reflects_le, reflects_lt, reflects_and, reflects_or, reflects_as}
use Rattle.logic.specs.Reflects.{reflects_all}
use Rattle.logic.specs.Every.{all_b}
use Rattle.tree.specs.Check.{link_b, links_b, link_reflects}

pub links_reflects : (A L : ℕ) (t : Arrays) (a : ℕ)
    → Reflects (links_b A L t a) ((i : ℕ) → i < cell_count → (t.link a i ≡ 0) ⊎ Child A L t a i (t.link a i))
unfolding links_b
links_reflects A L t a =
    reflects_all (link_b A L t a) (λ i. (t.link a i ≡ 0) ⊎ Child A L t a i (t.link a i)) cell_count
    (λ i h. link_reflects A L t a i)
