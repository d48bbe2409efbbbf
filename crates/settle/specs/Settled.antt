-- The blocks of an array are right: every cell without a link has its block. What that depends on, and blocks written so that it
-- is so again. Assumes nothing.
--
--     slots, links, blocks of cells without a link     all that SettledPage asks about
--     bests, blocks of cells with a link, the rest     whatever they are
use Rattle.std.specs.Prelude.{◌≡◌, refl, Bool, true, cond, List, ℕ, ◌+◌, ◌/◌, ◌^◌, ◌≤◌, ◌<◌, length, get_or}
use Rattle.std.proofs.Common.{sym, ap, ◌∙◌, arith}
use Rattle.logic.specs.Cases.{bool}
use Rattle.sizes.specs.Sizes.{slot_end, cell_count, cell_slots, cells_at, totals_at, block_bound}
use Rattle.calm.specs.Same.{settled_ext}
use Rattle.calm.specs.Calm.{Settled}
use Rattle.calm.specs.Slotted.{slot_range}
use Rattle.array.specs.Cell.{best_in, link_in, block_in}
use Rattle.array.specs.With.{with_block, block-set, block_link, block-best}
use Rattle.array.specs.Low.{low-slots}
use Rattle.array.specs.Page.{slots, word, bests, links, blocks}
use Rattle.settle.specs.Part.{Recelled}

-- every cell without a link has its block
abbrev pub SettledPage : List ℕ → Type 0
SettledPage l = Settled (slots l) (links l) (blocks l)

-- m is l but for blocks, and has them right
pub record Resettled (l m : List ℕ) : Type 0 where
  pub size : length m ≡ length l
  pub low : (r : ℕ) → r < cells_at → get_or m r 0 ≡ get_or l r 0
  pub high : (r : ℕ) → totals_at ≤ r → get_or m r 0 ≡ get_or l r 0
  pub same_bests : (j : ℕ) → j < cell_count → bests m j ≡ bests l j
  pub same_links : (j : ℕ) → j < cell_count → links m j ≡ links l j
  pub settled : SettledPage m

pub same_settled : (l : List ℕ) → SettledPage l → Resettled l l
same_settled l z =
    record { size = refl; low = λ r h. refl; high = λ r h. refl; same_bests = λ j h. refl; same_links = λ j h. refl; settled = z }

-- slots that are free in both or taken in both: which hop a slot holds tells nothing about blocks
module _ (l m : List ℕ) (sl : (j : ℕ) → j < cell_count → links m j ≡ links l j)
    (sb : (j : ℕ) → j < cell_count → links l j ≡ 0 → blocks m j ≡ blocks l j) where
  pub hop_settled : ((r : ℕ) → 1 ≤ r → r < slot_end → slots l r ≡ 0 → slots m r ≡ 0)
      → ((r : ℕ) → 1 ≤ r → r < slot_end → slots m r ≡ 0 → slots l r ≡ 0) → SettledPage l → SettledPage m
  hop_settled x y z j h e =
      let o : links l j ≡ 0 = sym (sl j h) ∙ e in
      let k = z j h o in
      rw (sb j h o) (record {
        fits = k.fits;
        calm = λ i b q. (let w = k.calm i b q in (
          sl i b ∙ w.0,
          λ c u.
              (let r = slot_range i c b (omega arith) in x ((cell_slots + i) / 2 ^ c) r.0 r.1 (w.1 c u)),
        ));
        least = λ c u w. k.least c u (λ i b q. (let v = w i b q in (
          sym (sl i b) ∙ v.0,
          λ n p.
              (let r = slot_range i n b (omega arith) in y ((cell_slots + i) / 2 ^ n) r.0 r.1 (v.1 n p)),
        )));
      })

-- ---- blocks written into cells without a link: t tells into which, v what

module _ (l m : List ℕ) (t : ℕ → Bool) (v : ℕ → ℕ) (x : Recelled l m (λ j w. cond (t j) (with_block w (v j)) w))
    (free : (j : ℕ) → j < cell_count → t j ≡ true → (links l j ≡ 0) × (v j < block_bound)) where
  pub put_link : (j : ℕ) → j < cell_count → links m j ≡ links l j
  put_link j h =
      ap link_in (x.cells j h) ∙ bool (t j)
      (λ y. rw y (let w = free j h y in block_link (word l j) (v j) w.1 w.0 ∙ sym w.0))
      (λ y. rw y)

  pub put-best : (j : ℕ) → j < cell_count → bests m j ≡ bests l j
  put-best j h =
      ap best_in (x.cells j h) ∙ bool (t j)
      (λ y. rw y (let w = free j h y in block-best (word l j) (v j) w.1 w.0))
      (λ y. rw y)

  pub put-block : (j : ℕ) → j < cell_count → blocks m j ≡ cond (t j) (v j) (blocks l j)
  put-block j h =
      ap block_in (x.cells j h) ∙ bool (t j)
      (λ y. rw y (block-set (word l j) (v j) (free j h y).1))
      (λ y. rw y)

  pub put-settled : (b : ℕ → ℕ) → ((j : ℕ) → j < cell_count → links l j ≡ 0 → cond (t j) (v j) (blocks l j) ≡ b j)
      → Settled (slots l) (links l) b → Resettled l m
  put-settled b e z = record {
    size = x.size;
    low = x.low;
    high = x.high;
    same_bests = put-best;
    same_links = put_link;
    settled = settled_ext (slots l) (links l) b (slots m) (links m) (blocks m) (λ r p q. low-slots l m x.low r q) put_link
        (λ j h o. put-block j h ∙ e j h o) z;
  }
