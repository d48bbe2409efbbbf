-- One table made: its numbers in the header, the clearing and the two passes together. Assumes nothing.
use mathlib.Core.Path.{◌≡◌, ap, ◌∙◌}
use mathlib.Core.Bool.{Bool, true, false}
use mathlib.Core.List.{List}
use Prim.Native.Nat.{ℕ, ◌+◌, ◌*◌, ◌≤◌, ◌<◌}
use native.Mathlib.Omega.{arith}
use lib.ListN.{get_or}
use Rattle.listing.specs.Listed.{records_in, candidate_at, list_of}
use Rattle.lengths.specs.Layout.{header_words}
use Rattle.lengths.specs.Laid.{table_same}
use Rattle.lengths_build.specs.Filling.{Standing, chosen, size_for, Filling, Filled}
use Rattle.lengths_build.specs.Fill.{standing-kept, standing_more, filling_skip, filling_start}
use Rattle.lengths_build.specs.Fill.{filling_turn, filling_end, standing_on}
use Rattle.listing.specs.Records.{candidate_of_fact}
use Rattle.lengths_build.specs.Build.{Cleared, Headed, Makes, Made}

-- ---- a pass

module _ (k : Bool) (bs : List ℕ) (m o n : ℕ) where
  pub fill_at : (ws : List ℕ) (i j : ℕ) → j + 1 ≡ i → Filling k bs ws i m o n → Filling k bs ws (j + 1) m o n
  fill_at ws i j e f = rw e f

  -- the lengths that a record's test asks for
  pub fill_asks : (ws : List ℕ) (i j l : ℕ) → j + 1 ≡ i → Filling k bs ws i m o n → l ≡ (candidate_at bs j).len
      → (1 ≤ m) × (m ≤ 32) × (l ≤ 32)
  fill_asks ws i j l e f q = (f.few, f.most, rw q (candidate_of_fact bs f.list j (omega (arith, f.upto))).route.wf.fits)

  pub fill_skip : (ws us : List ℕ) (i j : ℕ) → j + 1 ≡ i → Filled k bs ws us i m o n → (c : Bool)
      → c ≡ chosen k m (candidate_at bs j).len → c ≡ false → Filled k bs ws us j m o n
  fill_skip ws us i j e f c q z = record {
    filling = filling_skip k bs us j m o n (fill_at us i j e f.filling) c q z;
    kept = f.kept;
  }

-- ---- one table

module _ (bs ws : List ℕ) (m before count : ℕ) (f : Makes bs ws m before count) (size : ℕ) (e : size ≡ size_for count)
    (us : List ℕ) (h : Headed ws us m before size) where
  abbrev o : ℕ
  o = header_words + 8 * before

  below-kept : Standing (list_of bs) us o m
  below-kept = record {
    default = h.kept.below 0 (omega (arith, f.few)) ∙ f.built.default;
    tables = λ l x y. table_same (list_of bs) ws us o l (λ i a b. h.kept.below i (omega arith))
        (λ i a b. h.kept.above i (omega (arith, f.most))) (f.built.tables l x y);
  }

  -- the passes ask that the table's words are cleared, and what is made that no other is
  module _ (vs : List ℕ) (to : ℕ) (r : o + 8 * size ≤ to) (c : Cleared us vs o to) where
    pub make_first : Filling false bs vs (records_in bs) m o size
    make_first =
        filling_start bs vs m o size f.list f.few f.most (omega arith)
        (omega (arith, f.fits, h.kept.long, c.kept.long)) (omega arith) (e ∙ ap size_for f.counts)
        (standing-kept (list_of bs) us vs o m to (omega arith) (omega (arith, f.most)) c.kept below-kept)
        (λ i a b. c.zero i a (omega arith))

    module _ (xs : List ℕ) (g : Filled false bs vs xs 0 m o size) where
      pub make_second : Filling true bs xs (records_in bs) m o size
      make_second = filling_turn bs xs m o size g.filling

      pub make_made : to ≤ o + 8 * size → (ys : List ℕ) → Filled true bs xs ys 0 m o size → Made bs ws ys m before count
      make_made x ys t = record {
        built = standing_on (list_of bs) ys (o + 8 * size) (header_words + 8 * (before + count)) (m + 1) (omega arith)
            (standing_more (list_of bs) ys o (o + 8 * size) m (omega arith) t.filling.built
            (filling_end bs ys m o size (ap (λ (n : ℕ). header_words + 8 * n) bo) so t.filling));
        long = t.kept.long ∙ g.kept.long ∙ c.kept.long ∙ h.kept.long;
        begins = bo;
        sizes = so ∙ e;
        front = λ i a. same_at i (omega (arith, f.most)) ∙ h.kept.below i a;
        others = λ i a b. same_at i (omega arith) ∙ h.kept.above i a;
        past = λ i a. t.kept.above i (omega arith) ∙ g.kept.above i (omega arith) ∙ c.kept.above i (omega arith)
            ∙ h.kept.above i (omega (arith, f.most));
      }
        where
          same_at : (i : ℕ) → i < o → get_or ys i 0 ≡ get_or us i 0
          same_at i l = t.kept.below i l ∙ g.kept.below i l ∙ c.kept.below i l

          bo : get_or ys (2 * m) 0 ≡ before
          bo = same_at (2 * m) (omega (arith, f.most)) ∙ h.begins

          so : get_or ys (2 * m + 1) 0 ≡ size
          so = same_at (2 * m + 1) (omega (arith, f.most)) ∙ h.sizes
