-- The links and the tag of one array as Booleans: what the check computes of its shape. Assumes nothing.
use Rattle.std.specs.Prelude.{◌≡◌, ◌⊎◌, Bool, ◌&&◌, ◌||◌, ℕ, ◌+◌, ◌≤◌, ◌<◌, ltb, leb, eqb}
use Rattle.std.proofs.Common.{inl, inr, ⊎_elim, arith}
use Rattle.logic.specs.Cases.{same}
use Rattle.sizes.specs.Sizes.{cell_count}
use Rattle.array.specs.Tag.{tag_of}
use Rattle.tree.specs.Arrays.{Arrays, par, cell, lev}
use Rattle.tree.specs.Shape.{Child, ParentLinks}
use Rattle.logic.specs.Reflects.{Reflects, reflects_eq, reflects_le, reflects_lt, reflects_and, reflects_or, reflects_as}
use Rattle.logic.specs.Reflects.{reflects_all}
use Rattle.logic.specs.Every.{all_b}

abbrev child_b : ℕ → ℕ → Arrays → ℕ → ℕ → ℕ → Bool
child_b A L t a i b = (leb b A && (leb 1 (lev t a) && ltb (lev t a) L)) && eqb (t.tag b) (tag_of a i (lev t a + 1))

unfoldable pub link_b : ℕ → ℕ → Arrays → ℕ → ℕ → Bool
link_b A L t a i = eqb (t.link a i) 0 || child_b A L t a i (t.link a i)

unfoldable pub parent_links_b : ℕ → Arrays → ℕ → Bool
parent_links_b A t a = eqb (t.tag a) 0 || ((leb 1 (par t a) && leb (par t a) A) && eqb (t.link (par t a) (cell t a)) a)

unfoldable pub links_b : ℕ → ℕ → Arrays → ℕ → Bool
links_b A L t a = all_b (link_b A L t a) cell_count

-- the conditions as products
abbrev ChildP : ℕ → ℕ → Arrays → ℕ → ℕ → ℕ → Type 0
ChildP A L t a i b = ((b ≤ A) × ((1 ≤ lev t a) × (lev t a < L))) × (t.tag b ≡ tag_of a i (lev t a + 1))

abbrev HungP : ℕ → Arrays → ℕ → Type 0
HungP A t a = ((1 ≤ par t a) × (par t a ≤ A)) × (t.link (par t a) (cell t a) ≡ a)

pub link_reflects : (A L : ℕ) (t : Arrays) (a i : ℕ)
    → Reflects (link_b A L t a i) ((t.link a i ≡ 0) ⊎ Child A L t a i (t.link a i))
unfolding link_b
link_reflects A L t a i =
    reflects_as
    (λ z. same b 0 (λ q _. inl q) (λ n _. ⊎_elim (λ (x : b ≡ 0). inl x)
    (λ (x : ChildP A L t a i b). inr (record {
      some = omega arith;
      within = x.0.0;
      used = x.0.1.0;
      deep = x.0.1.1;
      named = x.1;
    })) z))
    (λ z. ⊎_elim (λ (x : b ≡ 0). inl x) (λ (x : Child A L t a i b). inr ((x.within, (x.used, x.deep)), x.named)) z)
    (reflects_or (reflects_eq b 0)
    (reflects_and (reflects_and (reflects_le b A) (reflects_and (reflects_le 1 (lev t a)) (reflects_lt (lev t a) L)))
    (reflects_eq (t.tag b) (tag_of a i (lev t a + 1)))))
  where
    b : ℕ
    b = t.link a i

pub parent_links_reflects : (A : ℕ) (t : Arrays) (a : ℕ) → Reflects (parent_links_b A t a) ((t.tag a ≡ 0) ⊎ ParentLinks A t a)
unfolding parent_links_b
parent_links_reflects A t a =
    reflects_as
    (λ z. ⊎_elim (λ (x : t.tag a ≡ 0). inl x)
    (λ (x : HungP A t a). inr (record { some = x.0.0; within = x.0.1; back = x.1 })) z)
    (λ z. ⊎_elim (λ (x : t.tag a ≡ 0). inl x) (λ (x : ParentLinks A t a). inr ((x.some, x.within), x.back)) z)
    (reflects_or (reflects_eq (t.tag a) 0) (reflects_and (reflects_and (reflects_le 1 (par t a)) (reflects_le (par t a) A))
    (reflects_eq (t.link (par t a) (cell t a)) a)))
