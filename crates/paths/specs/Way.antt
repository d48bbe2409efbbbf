-- The path test: what an update asks of the words on the way down to its prefix, whatever the other words are. The root's tag is
-- 1, and each link followed leads to an array of the words whose tag names the cell and the level, from a cell whose best is in
-- its range. Then the tags lead up again; a table passes. Assumes nothing.
use Rattle.std.specs.Prelude.{◌≡◌, ◌≢◌, Bool, true, false, cond, ◌&&◌, List, eqb, leb, ltb, length, get_or}
use Rattle.std.proofs.Math.Path.{refl, sym}
use Rattle.std.proofs.Common.{◌∙◌}
use Prim.Native.Nat.{ℕ, zero, suc, ◌+◌, ◌-◌, ◌*◌, ◌/◌, ◌≤◌, ◌<◌}
use native.Mathlib.Omega.{arith}
use borrow.Author.Tests.{eq-eqb, ne_eqb, le-leb, lt-ltb, lt-leb, leb-true, eqb-true, ltb-true}
use Rattle.logic.specs.Bools.{and_to}
use Rattle.logic.specs.Cases.{same}
use Rattle.sizes.specs.Sizes.{least_words, cell_count, array_at, cell_at, best_bound, level_bound}
use Rattle.array.specs.Cell.{best_in, link_in}
use Rattle.array.specs.Tag.{tag_of, parent_in, cell_in, level_in}
use Rattle.array.specs.Right.{best-small}
use Rattle.tree.specs.Arrays.{node, lev}
use Rattle.tree.specs.Tree.{child, node-level}
use Rattle.words.specs.Words.{arrays_of, array_count, slots_of, bests_of}
use Rattle.words.specs.TableBut.{Table}
use Rattle.words.specs.Rises.{Rises, Off, rises_more}
use Rattle.numbers.specs.Front.{front, byte_of, byte_lt}
use Rattle.paths.specs.Stop.{On, Stops, on_root, next}

-- the link of cell y of array b, that has level j
abbrev pub rung_b : List ℕ → ℕ → ℕ → ℕ → Bool
rung_b ws b y j =
    leb ((arrays_of ws).link b y) (array_count ws)
    && (eqb ((arrays_of ws).tag ((arrays_of ws).link b y)) (tag_of b y (j + 2)) && ltb (bests_of ws b y) best_bound)

-- n levels down from array b of level j along the address a
unfoldable pub goes_b : ℕ → List ℕ → ℕ → ℕ → ℕ → ℕ → Bool
goes_b L ws a zero j b = true
goes_b L ws a (suc n) j b =
    cond (eqb ((arrays_of ws).link b (byte_of L a j)) 0) true
    (rung_b ws b (byte_of L a j) j && goes_b L ws a n (j + 1) ((arrays_of ws).link b (byte_of L a j)))

-- from the root down to level k
unfoldable pub way_b : ℕ → List ℕ → ℕ → ℕ → Bool
way_b L ws a k = eqb ((arrays_of ws).tag 1) 1 && goes_b L ws a k 0 1

-- an array that the links along the address lead to on no level up to j is none of b and those above it by the tags
abbrev pub Aside : ℕ → List ℕ → ℕ → ℕ → ℕ → Type 0
Aside L ws a j b = (c : ℕ) → ((i : ℕ) → i ≤ j → node (arrays_of ws) (front L a i) i ≢ c) → Off (arrays_of ws) j b c

-- it passes: the deepest array on the way is b, of level j, and the tags lead up from it
pub record Way (L : ℕ) (ws : List ℕ) (a k j b : ℕ) : Type 0 where
  pub passes : way_b L ws a k ≡ true
  pub stops : Stops L ws a k j b
  pub rises : Rises ws j b
  pub off : Aside L ws a j b

-- what a walk found: b is 0 where the test fails
pub record Walked (L : ℕ) (ws : List ℕ) (a k j b : ℕ) : Type 0 where
  pub low : j ≤ k
  pub inside : array_at (b + 1) ≤ length ws
  pub none : b ≡ 0 → way_b L ws a k ≡ false
  pub some : b ≢ 0 → Way L ws a k j b

-- ---- a step

pub tag_parts : (z p i l : ℕ) → z ≡ tag_of p i l → i < cell_count → l < level_bound
    → (parent_in z ≡ p) × (cell_in z ≡ i) × (level_in z ≡ l)
tag_parts z p i l e b h =
    let q : z / level_bound ≡ p * 256 + i = omega arith in (omega arith, rw q (omega arith), omega arith)

on_next : (L : ℕ) (ws : List ℕ) (a j b y : ℕ) → On L ws a j b → j < L → y ≡ byte_of L a j → (arrays_of ws).link b y ≢ 0
    → (arrays_of ws).link b y ≤ array_count ws → On L ws a (j + 1) ((arrays_of ws).link b y)
on_next L ws a j b y o h ey n w =
    let e : j + 1 ≡ suc j = omega arith in
    let d : node (arrays_of ws) (front L a (suc j)) (suc j) ≡ (arrays_of ws).link b y = rw ey (next L ws a j b o h) in
    rw e (record { leads = d; some = omega arith; within = w })

-- so far the walk is at array b of level j
pub record Going (L : ℕ) (ws : List ℕ) (a k j b : ℕ) : Type 0 where
  pub low : j ≤ k
  pub on : On L ws a j b
  pub rises : Rises ws j b
  pub off : Aside L ws a j b
  pub left : way_b L ws a k ≡ goes_b L ws a (k - j) j b

module _ (L : ℕ) (ws : List ℕ) (a k : ℕ) (least : least_words ≤ length ws) where
  pub way_root : (arrays_of ws).tag 1 ≢ 1 → Walked L ws a k 0 0
  unfolding way_b
  way_root n = record {
    low = omega arith;
    inside = omega arith;
    none = λ _. rw (ne_eqb ((arrays_of ws).tag 1) 1 n);
    some = λ z. absurd (z refl);
  }

  pub going_first : (arrays_of ws).tag 1 ≡ 1 → Going L ws a k 0 1
  unfolding way_b Rises Off node
  going_first e = record {
    low = omega arith;
    on = on_root L ws a (omega arith);
    rises = record { is = refl; inside = omega arith; level = omega (arith, e) };
    off = λ c n q. n 0 (omega arith) (sym q);
    left = (let z : k - 0 ≡ k = omega arith in rw (z, eq-eqb ((arrays_of ws).tag 1) 1 e));
  }

  module _ (j b : ℕ) (g : Going L ws a k j b) where
    going_inside : array_at (b + 1) ≤ length ws
    going_inside = omega (arith, g.on.within)

    -- the last level
    pub way_whole : k ≤ j → Walked L ws a k j b
    unfolding goes_b
    way_whole h =
        let z : k - j ≡ 0 = omega arith in
        record {
          low = g.low;
          inside = going_inside;
          none = λ e. absurd (omega (arith, g.on.some));
          some = λ _. record {
            passes = g.left ∙ rw z;
            stops = record { on = g.on; low = g.low; off = λ w. absurd (omega arith) };
            rises = g.rises;
            off = g.off;
          };
        }

    module _ (more : j < k) (y : ℕ) (ey : y ≡ byte_of L a j) where
      again : k - j ≡ suc (k - (j + 1))
      again = omega arith

      -- no link
      pub way_short : (arrays_of ws).link b y ≡ 0 → Walked L ws a k j b
      unfolding goes_b
      way_short o = record {
        low = g.low;
        inside = going_inside;
        none = λ e. absurd (omega (arith, g.on.some));
        some = λ _. record {
          passes = g.left ∙ rw (again, ← ey, eq-eqb ((arrays_of ws).link b y) 0 o);
          stops = record { on = g.on; low = g.low; off = λ _. rw (← ey) o };
          rises = g.rises;
          off = g.off;
        };
      }

      module _ (n : (arrays_of ws).link b y ≢ 0) where
        -- one that leads astray
        pub way_fails : rung_b ws b y j ≡ false → Walked L ws a k 0 0
        unfolding goes_b
        way_fails f = record {
          low = omega arith;
          inside = omega arith;
          none = λ _. g.left ∙ rw (again, ← ey, ne_eqb ((arrays_of ws).link b y) 0 n, f);
          some = λ z. absurd (z refl);
        }

        -- one that is followed
        pub going_more : k < L → L < level_bound → rung_b ws b y j ≡ true → Going L ws a k (j + 1) ((arrays_of ws).link b y)
        unfolding goes_b Off
        going_more top levels t =
            let c = (arrays_of ws).link b y in
            let x = and_to (leb c (array_count ws)) _ t in
            let z = and_to (eqb ((arrays_of ws).tag c) (tag_of b y (j + 2))) _ x.1 in
            let w : c ≤ array_count ws = leb-true c (array_count ws) x.0 in
            let s : bests_of ws b y < best_bound = ltb-true _ _ z.1 in
            let yb : y < cell_count = rw ey (byte_lt L a j) in
            let q = tag_parts ((arrays_of ws).tag c) b y (j + 2) (eqb-true _ _ z.0) yb (omega arith) in
            let e : j + 1 ≡ suc j = omega arith in
            let o = on_next L ws a j b y g.on (omega arith) ey n w in
            record {
              low = omega arith;
              on = o;
              off = rw e (λ d f. (
                λ u. f (suc j) (omega arith) ((rw e at o.leads) ∙ sym u),
                rw q.0 (g.off d (λ i h. f i (omega arith))),
              ));
              rises = rw e (rises_more ws j c (record {
                some = omega arith;
                inside = omega (arith, w);
                level = q.2;
                back = rw (q.0, q.1);
                small = rw (q.0, q.1) s;
              }) (rw q.0 g.rises));
              left = g.left ∙ rw (again, ← ey, ne_eqb c 0 n, t);
            }

-- ---- a table passes

module _ (L : ℕ) (ws : List ℕ) (a : ℕ) (ok : Table L ws) where
  pub rung_table : (j b y : ℕ) → On L ws a j b → y < cell_count → (arrays_of ws).link b y ≢ 0
      → (rung_b ws b y j ≡ true) × ((arrays_of ws).link b y ≤ array_count ws)
  rung_table j b y o yb n =
      let t = arrays_of ws in
      let A = array_count ws in
      let lv = rw o.leads at (node-level A L t ok.shape (front L a j) j (rw o.leads o.some)) in
      let c = child A L t ok.shape b y o.some o.within yb (omega arith) in
      let e : t.tag (t.link b y) ≡ tag_of b y (j + 2) = omega (arith, c.named, lv.level) in
      let s = best-small (lev t b) (slots_of ws b) (bests_of ws b)
      (ok.right b o.some o.within (omega (arith, lv.level))) y yb in
      (rw (le-leb (t.link b y) A c.within, eq-eqb _ _ e, lt-ltb _ _ s), c.within)

  goes_table : (n j b : ℕ) → n + j < L → On L ws a j b → goes_b L ws a n j b ≡ true
  unfolding goes_b
  goes_table zero j b h o = refl
  goes_table (suc n) j b h o =
      let y = byte_of L a j in
      same ((arrays_of ws).link b y) 0
      (λ z e. rw e)
      (λ z e. (let r = rung_table j b y o (byte_lt L a j) z in
      rw (e, r.0) (goes_table n (j + 1) ((arrays_of ws).link b y) (omega arith)
      (on_next L ws a j b y o (omega arith) refl z r.1))))

  pub way_table : (k : ℕ) → k < L → way_b L ws a k ≡ true
  unfolding way_b
  way_table k h =
      rw (eq-eqb ((arrays_of ws).tag 1) 1 ok.shape.root) (goes_table k 0 1 (omega arith) (on_root L ws a ok.shape.many))

-- ---- the test of one link, as the code makes it

module _ (ws : List ℕ) (b y j w c : ℕ) (we : w ≡ get_or ws (cell_at b y) 0) (ce : c ≡ link_in w) where
  pub rung_far : array_count ws < c → false ≡ rung_b ws b y j
  rung_far h = rw (← we, ← ce, lt-leb c (array_count ws) h)

  module _ (near : c ≤ array_count ws) (t z : ℕ) (te : t ≡ (arrays_of ws).tag c) (ze : z ≡ tag_of b y (j + 2)) where
    pub rung_other : t ≢ z → false ≡ rung_b ws b y j
    rung_other n = rw (← we, ← ce, le-leb c (array_count ws) near, ← te, ← ze, ne_eqb t z n)

    pub rung_last : t ≡ z → (q : ℕ) → q ≡ best_in w → ltb q best_bound ≡ rung_b ws b y j
    rung_last e q qe = rw (← we, ← ce, le-leb c (array_count ws) near, ← te, ← ze, eq-eqb t z e, qe)
