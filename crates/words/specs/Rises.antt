-- Tags that lead from an array up to the root, one level at a time, on any words: all that a walk upwards asks. Those of a table
-- do, from each used array. Assumes nothing.
--
--     root ◀── tag ── array of level 1 ◀── tag ── array of level 2         and each of these hangs where its tag says
use Rattle.std.specs.Prelude.{◌≡◌, ℕ, zero, suc, ◌+◌, ◌<◌, ◌≤◌, ◌≢◌, List, length, slice_index, refl}
use Rattle.std.proofs.Common.{ap, ◌∙◌, arith}
use Rattle.sizes.specs.Sizes.{cell_count, array_at, cell_at, best_bound}
use Rattle.array.specs.Tag.{parent_in, cell_in, level_in}
use Rattle.array.specs.Cell.{best_in, link_in}
use Rattle.tree.specs.Arrays.{Arrays, par, cell, lev}
use Rattle.words.specs.Words.{arrays_of, bests_of}

-- array b of level n + 1: its parent's cell, as its tag names them, links back, and has a best in its range
pub record Rung (ws : List ℕ) (n b : ℕ) : Type 0 where
  pub some : 1 ≤ b
  pub inside : array_at (b + 1) ≤ length ws
  pub level : lev (arrays_of ws) b ≡ n + 2
  pub back : (arrays_of ws).link (par (arrays_of ws) b) (cell (arrays_of ws) b) ≡ b
  pub small : bests_of ws (par (arrays_of ws) b) (cell (arrays_of ws) b) < best_bound

pub record Root (ws : List ℕ) (b : ℕ) : Type 0 where
  pub is : b ≡ 1
  pub inside : array_at 2 ≤ length ws
  pub level : lev (arrays_of ws) 1 ≡ 1

-- array b of level n, and those above it
unfoldable pub Rises : List ℕ → ℕ → ℕ → Type 0
Rises ws zero b = Root ws b
Rises ws (suc n) b = Rung ws n b × Rises ws n (par (arrays_of ws) b)

pub rises_some : (ws : List ℕ) (n b : ℕ) → Rises ws n b → 1 ≤ b
unfolding Rises
rises_some ws zero b r = omega (arith, r.is)
rises_some ws (suc n) b r = r.0.some

pub rises_inside : (ws : List ℕ) (n b : ℕ) → Rises ws n b → array_at (b + 1) ≤ length ws
unfolding Rises
rises_inside ws zero b r = omega (arith, r.is, r.inside)
rises_inside ws (suc n) b r = r.0.inside

pub rises_level : (ws : List ℕ) (n b : ℕ) → Rises ws n b → lev (arrays_of ws) b ≡ n + 1
unfolding Rises
rises_level ws zero b r = rw r.is r.level
rises_level ws (suc n) b r = omega (arith, r.0.level)

pub rises_base : (ws : List ℕ) (n b : ℕ) → Rises ws n b → lev (arrays_of ws) 1 ≡ 1
unfolding Rises
rises_base ws zero b r = r.level
rises_base ws (suc n) b r = rises_base ws n (par (arrays_of ws) b) r.1

-- the root alone has level 0
pub rises_top : (ws : List ℕ) (n b : ℕ) → Rises ws n b → b ≡ 1 → n ≡ 0
rises_top ws n b r e =
    omega (arith, rises_level ws n b r, rises_base ws n b r, ap (lev (arrays_of ws)) e)

-- one level up
pub record Above (ws : List ℕ) (n b : ℕ) : Type 0 where
  pub m : ℕ
  pub is : n ≡ suc m
  pub rung : Rung ws m b
  pub rest : Rises ws m (par (arrays_of ws) b)

pub rises_above : (ws : List ℕ) (n b : ℕ) → Rises ws n b → b ≢ 1 → Above ws n b
unfolding Rises
rises_above ws zero b r n = absurd (n r.is)
rises_above ws (suc m) b r n = record { m = m; is = refl; rung = r.0; rest = r.1 }

pub rises_more : (ws : List ℕ) (n b : ℕ) → Rung ws n b → Rises ws n (par (arrays_of ws) b) → Rises ws (suc n) b
unfolding Rises
rises_more ws n b x y = (x, y)

-- ---- other words with the same tags of levels up to n, and the same cells above those

pub record SameUp (ws vs : List ℕ) (n : ℕ) : Type 0 where
  pub size : length vs ≡ length ws
  pub tags : (c : ℕ) → 1 ≤ c → 1 ≤ lev (arrays_of ws) c → lev (arrays_of ws) c ≤ n + 1
      → (arrays_of vs).tag c ≡ (arrays_of ws).tag c
  pub cells : (c i : ℕ) → 1 ≤ c → 1 ≤ lev (arrays_of ws) c → lev (arrays_of ws) c ≤ n → i < cell_count
      → slice_index vs (cell_at c i) ≡ slice_index ws (cell_at c i)

less_up : {ws vs : List ℕ} {n : ℕ} → SameUp ws vs (suc n) → SameUp ws vs n
less_up s = record {
  size = s.size;
  tags = λ c h l u. s.tags c h l (omega arith);
  cells = λ c i h l u. s.cells c i h l (omega arith);
}

pub rises_same : (ws vs : List ℕ) (n b : ℕ) → SameUp ws vs n → Rises ws n b → Rises vs n b
unfolding Rises
rises_same ws vs zero b s r = record {
  is = r.is;
  inside = rw s.size r.inside;
  level = ap level_in (s.tags 1 (omega arith) (omega (arith, r.level)) (omega (arith, r.level))) ∙ r.level;
}
rises_same ws vs (suc n) b s r =
    let g = r.0 in
    let l = rises_level ws n (par (arrays_of ws) b) r.1 in
    let h = rises_some ws n (par (arrays_of ws) b) r.1 in
    let e = s.tags b g.some (omega (arith, g.level)) (omega (arith, g.level)) in
    let p : par (arrays_of vs) b ≡ par (arrays_of ws) b = ap parent_in e in
    let i : cell (arrays_of vs) b ≡ cell (arrays_of ws) b = ap cell_in e in
    let w = s.cells (par (arrays_of ws) b) (cell (arrays_of ws) b) h (omega arith) (omega arith) (omega arith) in
    rw p (
      record {
        some = g.some;
        inside = rw s.size g.inside;
        level = ap level_in e ∙ g.level;
        back = rw (p, i) (ap link_in w ∙ g.back);
        small = rw (p, i, ap best_in w) g.small;
      },
      rises_same ws vs n (par (arrays_of ws) b) (less_up s) r.1,
    )

-- ---- array c is not b, nor one of the n above it by the tags

unfoldable pub Off : Arrays → ℕ → ℕ → ℕ → Type 0
Off t zero b c = c ≢ b
Off t (suc n) b c = (c ≢ b) × Off t n (par t b) c

pub off_here : (t : Arrays) (n b c : ℕ) → Off t n b c → c ≢ b
unfolding Off
off_here t zero b c o = o
off_here t (suc n) b c o = o.0

pub off_above : (t : Arrays) (n b c : ℕ) → Off t (suc n) b c → Off t n (par t b) c
unfolding Off
off_above t n b c o = o.1

pub off_same : (ws vs : List ℕ) (n b c : ℕ) → SameUp ws vs n → Rises ws n b → Off (arrays_of ws) n b c → Off (arrays_of vs) n b c
unfolding Rises Off
off_same ws vs zero b c s r o = o
off_same ws vs (suc n) b c s r o =
    let g = r.0 in
    let e = s.tags b g.some (omega (arith, g.level)) (omega (arith, g.level)) in
    let p : par (arrays_of vs) b ≡ par (arrays_of ws) b = ap parent_in e in
    rw p (o.0, off_same ws vs n (par (arrays_of ws) b) c (less_up s) r.1 o.1)

-- ---- of a table but for one array
