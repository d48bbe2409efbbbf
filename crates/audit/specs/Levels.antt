-- Which words are tables of two families: a table of some levels is one of any more, and one of fewer exactly where no array
-- stands deeper. So each IPv4 table is an IPv6 table, and an IPv6 table is one of IPv4 exactly where no array stands below the
-- fourth level, as in a cleared one. Assumes nothing.
use Rattle.std.specs.Prelude.{◌≡◌, List, ℕ, ◌+◌, ◌≤◌, ◌<◌}
use Rattle.std.proofs.Common.{ap, ◌∙◌, inl, inr, ⊎_elim, arith}
use Rattle.logic.specs.Cases.{same}
use Rattle.sizes.specs.Sizes.{level_bound}
use Rattle.array.specs.Tag.{tag_of, level_in}
use Rattle.tree.specs.Arrays.{Arrays, lev}
use Rattle.tree.specs.Shape.{Child}
use Rattle.tree.specs.Tree.{used-level}
use Rattle.words.specs.Words.{arrays_of, array_count}
use Rattle.words.specs.TableBut.{Table}

-- the level that a tag names
named-level : (a i k : ℕ) → k < level_bound → level_in (tag_of a i k) ≡ k
named-level a i k h = omega arith

module _ (ws : List ℕ) where
  abbrev t : Arrays
  t = arrays_of ws

  abbrev A : ℕ
  A = array_count ws

  -- no array stands below level L; the root's number is 1
  abbrev pub Shallow : ℕ → Type 0
  Shallow L = (a : ℕ) → 1 ≤ a → a ≤ A → lev t a ≤ L

  -- where the links are right for another number of levels, the words are a table of these
  relevel : (L M : ℕ) → 1 ≤ M → M < level_bound → Table L ws
      → ((a i : ℕ) → 1 ≤ a → Child A L t a i (t.link a i) → lev t a < M) → Table M ws
  relevel L M some few ok deep = record {
    whole = ok.whole;
    low = ok.low;
    high = ok.high;
    shape = record {
      many = ok.shape.many;
      some_level = some;
      levels = few;
      root = ok.shape.root;
      links = λ a i h k b. ⊎_elim
          (λ (z : t.link a i ≡ 0). inl z)
          (λ (c : Child A L t a i (t.link a i)). inr (record {
            some = c.some;
            within = c.within;
            used = c.used;
            deep = deep a i h c;
            named = c.named;
          }))
          (ok.shape.links a i h k b);
      tags = ok.shape.tags;
    };
    filled = ok.filled;
    blank = ok.blank;
    words = ok.words;
    right = ok.right;
    settled = ok.settled;
    sums = ok.sums;
    header = ok.header;
    rest = ok.rest;
  }

  pub table_more : (L M : ℕ) → L ≤ M → M < level_bound → Table L ws → Table M ws
  table_more L M h few ok =
      relevel L M (omega (arith, ok.shape.some_level)) few ok (λ a i _ c. omega (arith, c.deep))

  pub table_fewer : (L M : ℕ) → 1 ≤ L → L < level_bound → Table M ws → Shallow L → Table L ws
  table_fewer L M some few ok low =
      relevel M L some few ok (λ a i _ c.
      let b = t.link a i in
      let e : lev t b ≡ lev t a + 1 =
      ap level_in c.named ∙ named-level a i (lev t a + 1) (omega (arith, c.deep, ok.shape.levels)) in
      omega (arith, e, low b c.some c.within))

  pub table_shallow : (L : ℕ) → Table L ws → Shallow L
  table_shallow L ok a h k =
      same (t.tag a) 0
      (λ z _. omega (arith, ap level_in z))
      (λ n _. (used-level A L t ok.shape a h k (omega arith)).1)
