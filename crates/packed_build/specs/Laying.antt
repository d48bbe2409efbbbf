-- What is asked before all arrays are laid out, and what the returns of the calls come to. Assumes nothing.
use Rattle.std.specs.Prelude.{◌≡◌, refl, true, false, List, ℕ, ◌+◌, ◌-◌, ◌*◌, ◌^◌, ◌≤◌, ◌<◌, length, get_or}
use Rattle.std.proofs.Common.{sym, ap, ◌∙◌, inl, inr, arith, lt-ltb, le-ltb, ne_eqb}
use Rattle.std.specs.Int.Count.{ones}
use Rattle.routes.specs.Route.{Route}
use Rattle.routes.specs.Seen.{misfits, gives, refuses}
use Rattle.laws.specs.Given.{given_refused}
use Rattle.candidates.specs.Winners.{winners}
use Rattle.array.specs.Frame.{page_of}
use Rattle.tree.specs.Arrays.{Arrays}
use Rattle.words.specs.Words.{arrays_of, array_count}
use Rattle.words.specs.Table.{table_b, seen, list_of}
use Rattle.words.specs.TableBut.{Table}
use Rattle.words.specs.CheckReflects.{table_reflects}
use Rattle.words.specs.View.{no_misfit_fits, seen_misfit, seen_foreign, seen_table}
use Rattle.words.specs.Stock.{table_need}
use Rattle.packed.specs.Layout.{entry_words}
use Rattle.packed.specs.Laid.{entries_to, entries_end, entries_le, mask_at, place_of, needed_for, Laid, laid_front}
use Rattle.packed.specs.Walked.{walk-longest}
use Rattle.packed_arrays.specs.Mapped.{Mapped, place_in, mask_in, mapped-place, mapped_mask}
use Rattle.packed_arrays.specs.Filled.{Filled}
use Rattle.packed_arrays.specs.Laying.{LaidTo, laid_all, laid_used, laid_free, entry_is}
use Rattle.packed_build.specs.Need.{words_for}
use Rattle.packed_build.specs.Listed.{table_words}
use Rattle.packed_build.specs.Answer.{need_on, build_on, Compressed, HasLaid}

-- the words that a table's arrays need
abbrev pub arrays_need : List ℕ → ℕ
arrays_need ts = needed_for (arrays_of ts) (array_count ts)

-- a table with a map that is right for its arrays, and the words that they need
pub record Mapping (ts map : List ℕ) (n : ℕ) : Type 0 where
  pub table : Table 4 ts
  pub mapped : Mapped (arrays_of ts) map (array_count ts)
  pub words : n ≡ arrays_need ts

-- the table's arrays are to be laid out by a map that is right, and there are words enough
pub record Lays (ts map ws : List ℕ) : Type 0 where
  pub table : Table 4 ts
  pub mapped : Mapped (arrays_of ts) map (array_count ts)
  pub room : arrays_need ts ≤ length ws

-- arrays laid out are a compressed table of the list
pub laid_compressed : (ts us : List ℕ) → Table 4 ts → Laid (arrays_of ts) (array_count ts) us
    → Compressed (winners (list_of 4 ts)) us
laid_compressed ts us o l vs c a h =
    let e = table_words 4 ts o in
    walk-longest 4 ts o vs
    (laid_front (arrays_of ts) (array_count ts) us vs (rw e c.long) (λ i k. c.same i (rw (← e) k)) l) a h

module _ (ts : List ℕ) where
  -- ---- refused with 1

  module _ (m : misfits (length ts) ≡ true) where
    pub need_misfit : refuses 1 ≡ need_on (seen 4 ts)
    need_misfit = rw (seen_misfit 4 ts m)

    pub build_misfit : (ws : List ℕ) → (refuses 1 ≡ build_on (seen 4 ts) (length ws)) × HasLaid ts ws ws
    build_misfit ws =
        let s = seen_misfit 4 ts m in
        (rw s, record { left = rw s; laid = λ c e. absurd (given_refused (rw s at (sym e))) })

  module _ (m : misfits (length ts) ≡ false) where
    -- ---- refused with 2

    module _ (b : table_b 4 ts ≡ false) where
      pub need_foreign : refuses 2 ≡ need_on (seen 4 ts)
      need_foreign = rw (seen_foreign 4 ts m b)

      pub build_foreign : (ws : List ℕ) → (refuses 2 ≡ build_on (seen 4 ts) (length ws)) × HasLaid ts ws ws
      build_foreign ws =
          let s = seen_foreign 4 ts m b in
          (rw s, record { left = rw s; laid = λ c e. absurd (given_refused (rw s at (sym e))) })

    -- ---- a table

    pub is_table : table_b 4 ts ≡ true → Table 4 ts
    is_table b = (table_reflects 4 ts (omega arith) (omega arith) (no_misfit_fits (length ts) m)).to b

  module _ (o : Table 4 ts) (n : ℕ) (e : n ≡ entries_to (arrays_of ts) (array_count ts)) where
    abbrev rs : List Route
    rs = winners (list_of 4 ts)

    words_are : 1024 + 4 * n ≡ words_for 32 rs
    words_are = rw e (table_words 4 ts o)

    pub need_table : gives (1024 + 4 * n) ≡ need_on (seen 4 ts)
    need_table = rw (seen_table 4 ts o) (ap gives words_are)

    module _ (ws : List ℕ) where
      pub build_short : length ws < 1024 + 4 * n → (refuses 9 ≡ build_on (seen 4 ts) (length ws)) × HasLaid ts ws ws
      build_short h =
          let l : length ws < words_for 32 rs = rw (← words_are) h in
          let s = seen_table 4 ts o in
          let d = lt-ltb (length ws) (words_for 32 rs) l in (
            rw (s, d),
            record {
              left = rw s (record {
                refused = λ _. refl;
                built = λ k. absurd (omega arith);
                long = refl;
                header = λ i k. refl;
                past = λ i k. refl;
              });
              laid = λ c e. absurd (given_refused (rw (s, d) at (sym e)));
            },
          )

      module _ (h : 1024 + 4 * n ≤ length ws) where
        enough : words_for 32 rs ≤ length ws
        enough = rw (← words_are) h

        pub lays : (map : List ℕ) → Mapped (arrays_of ts) map (array_count ts) → Lays ts map ws
        lays map p = record { table = o; mapped = p; room = rw e at h }

        pub build_answer_fact : gives (record { arrays = get_or ts 0 0; words = 1024 + 4 * n }) ≡ build_on (seen 4 ts) (length ws)
        build_answer_fact =
            rw (seen_table 4 ts o, le-ltb (length ws) (words_for 32 rs) enough, table_need 4 ts o, words_are)

        pub build_laid : (us : List ℕ) → LaidTo (arrays_of ts) ws us (array_count ts) → HasLaid ts ws us
        build_laid us p =
            let w = table_words 4 ts o in
            let l = laid_all (arrays_of ts) (array_count ts) ws us (rw w enough) p in
            record {
              left = rw (seen_table 4 ts o) (record {
                refused = λ k. absurd (omega (arith, enough));
                built = λ k. laid_compressed ts us o l;
                long = p.size;
                header = λ i k. p.rest i (inl k);
                past = λ i k. p.rest i (inr (rw w k));
              });
              laid = λ c e. l;
            }

-- ---- one array more

module _ (ts map ws : List ℕ) (y : Lays ts map ws) (a : ℕ) (some : 1 ≤ a) (within : a ≤ array_count ts)
    (used : 1 ≤ (arrays_of ts).tag a) where
  abbrev t : Arrays
  t = arrays_of ts

  map-place : place_in map a ≡ place_of t a
  map-place =
      mapped-place t map (array_count ts) y.mapped a within (λ _. used) ∙ rw (ne_eqb a 0 (λ z. omega arith))

  map_mask : mask_in map a ≡ mask_at t a
  map_mask =
      mapped_mask t map (array_count ts) y.mapped a within (λ _. used) ∙ rw (ne_eqb a 0 (λ z. omega arith))

  module _ (o m : ℕ) (p : o ≡ place_in map a) (q : m ≡ mask_in map a) where
    pub room_at : o + entry_words * 2 ^ ones m ≤ length ws
    room_at =
        let e : m ≡ mask_at t a = q ∙ map_mask in
        rw (p, map-place, e) (omega (arith, entries_end t a some used, entries_le t a (array_count ts) within, y.room))

    pub laid_more : (page us vs : List ℕ) → page ≡ page_of ts a → Filled page map us vs o m (2 ^ ones m)
        → LaidTo t ws us (a - 1) → LaidTo t ws vs (a + 1 - 1)
    laid_more page us vs g f l =
        let d : a + 1 - 1 ≡ a = omega arith in
        let e : m ≡ mask_at t a = q ∙ map_mask in
        let k : o ≡ place_of t a = p ∙ map-place in
        let f' : Filled (page_of ts a) map us vs (place_of t a) (mask_at t a) (2 ^ ones (mask_at t a)) = rw (g, e, k) at f in
        rw d (laid_used t ws us a some l vs used f'.size
        (entry_is 4 ts y.table a some within used map us vs y.mapped (place_of t a) f') f'.rest)

pub laid_same : (t : Arrays) (ws us : List ℕ) (a : ℕ) → 1 ≤ a → t.tag a ≡ 0 → LaidTo t ws us (a - 1) → LaidTo t ws us (a + 1 - 1)
laid_same t ws us a h z l = let d : a + 1 - 1 ≡ a = omega arith in rw d (laid_free t ws us a h l z)

-- what the test of the table and the need ask
pub ruleset need_laws = (need_misfit, need_foreign, need_table, is_table)
