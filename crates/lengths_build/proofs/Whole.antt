-- All tables made, one length after the other, and what the call leaves and answers. Assumes nothing.
use mathlib.Core.Path.{◌≡◌, refl, sym, ap, ◌∙◌}
use mathlib.Core.Logic.{◌≢◌}
use mathlib.Core.List.{List}
use Prim.Native.Nat.{ℕ, zero, suc, ◌+◌, ◌-◌, ◌*◌, ◌/◌, ◌^◌, ◌≤◌, ◌<◌}
use native.Mathlib.Omega.{arith}
use lib.ListN.{length, get_or, set, length-set}
use lib.Seq.{get_or-set_other}
use lib.Pow.{pow_mono}
use Rattle.routes.specs.Route.{Route}
use Rattle.routes.specs.Route as routes
use Rattle.routes.specs.Room.{distinct}
use Rattle.routes.specs.Match.{last}
use Rattle.lengths.specs.Marks.{entries, best_at, words_for}
use Rattle.lengths.specs.Entries.{entries_to}
use Rattle.lengths.specs.Few.{few_upto}
use Rattle.candidates.specs.Candidate.{IsList}
use Rattle.rivals.specs.Won.{winners_list}
use Rattle.listing.specs.Listed.{records_in, candidate_at, candidates_from, candidates_in, list_of}
use Rattle.listing.specs.Records.{head_fits}
use Rattle.listing.specs.Winning.{winning_at}
use Rattle.logic.specs.Cases.{same}
use Rattle.laws.specs.Longest.{wfs}
use Rattle.lengths_build.specs.Filling.{Standing, size_for}
use Rattle.lengths_build.specs.Fill.{standing_on}
use Rattle.lengths_build.specs.Best.{best-own, default_unheld}
use Rattle.lengths.specs.Layout.{header_words}
use Rattle.lengths_build.specs.Build.{Header, table_end, Leaves, Makes, Made, Starts, Ends}
use Rattle.lengths_build.specs.Sharp.{end_step, end_fits, upto-fits, used-needed}

-- ---- the loop over the lengths

to_step : (m : ℕ) (rs : List Route) → 1 ≤ m → entries_to m rs ≡ entries_to (m - 1) rs + distinct (entries m rs)
unfolding entries_to
to_step zero rs h = absurd (omega arith)
to_step (suc m) rs h = let e : suc m - 1 ≡ m = omega arith in rw e

-- the entries of the lengths below m are told by a word
before-low : (m : ℕ) (rs : List Route) → 1 ≤ m → m ≤ 32 → routes.IsList 32 rs → entries_to (m - 1) rs < 4294967296
before-low m rs h k l =
    let e : suc (m - 1) ≡ m = omega arith in
    let a : entries_to (m - 1) rs + 2 ≤ 2 ^ m = rw e at (few_upto (m - 1) rs (omega arith) (wfs 32 rs l.routes)) in
    let b : 2 ^ m ≤ 2 ^ 32 = pow_mono {i = m} {j = 32} k in
    omega arith

pub record Going (bs ws us : List ℕ) (m before : ℕ) : Type 0 where
  pub few : 1 ≤ m
  pub most : m ≤ 33
  pub at : before ≡ entries_to (m - 1) (list_of bs)
  pub built : Standing (list_of bs) us (header_words + 8 * before) m
  pub header : Header (list_of bs) ws us m
  pub long : length us ≡ length ws
  pub past : (i : ℕ) → table_end (m - 1) (list_of bs) ≤ i → get_or us i 0 ≡ get_or ws i 0

pub going_start : (bs ws : List ℕ) → Starts bs ws → Going bs ws ws 1 0
unfolding entries_to
going_start bs ws s = record {
  few = omega arith;
  most = omega arith;
  at = refl;
  built = record { default = s.default; tables = λ l x y. absurd (omega arith) };
  header = record {
    before = λ l x y. absurd (omega arith);
    sizes = λ l x y. absurd (omega arith);
    second = refl;
    others = λ i a b. refl;
  };
  long = refl;
  past = λ i h. refl;
}

module _ (bs ws : List ℕ) (s : Starts bs ws) (us : List ℕ) (m before : ℕ) (g : Going bs ws us m before) where
  won : routes.IsList 32 (list_of bs)
  won = winners_list 32 (candidates_in bs) s.list

  module _ (h : m ≤ 32) (count : ℕ) (e : count ≡ distinct (entries m (list_of bs))) where
    next : before + count ≡ entries_to m (list_of bs)
    next = omega (arith, g.at, to_step m (list_of bs) g.few)

    pub going_fits : header_words + 8 * (before + count) ≤ length us
    going_fits = omega (arith, next, upto-fits m (list_of bs) h won, s.room, g.long)

    pub going_makes : Makes bs us m before count
    going_makes = record {
      list = s.list;
      few = g.few;
      most = h;
      near = omega (arith, g.at, before-low m (list_of bs) g.few h won);
      fits = going_fits;
      counts = e;
      built = g.built;
    }

    -- where the table of length m ends
    ends : table_end m (list_of bs) ≡ header_words + 8 * (before + size_for count)
    ends = end_step m (list_of bs) g.few ∙ rw (g.at, e)

    pub going_more : (vs : List ℕ) → Made bs us vs m before count → Going bs ws vs (m + 1) (before + count)
    going_more vs t =
        let q : m + 1 - 1 ≡ m = omega arith in
        record {
          few = omega arith;
          most = omega arith;
          at = rw q next;
          built = t.built;
          header = record {
            before = λ l x y. same l m (λ z _. rw z (t.begins ∙ g.at))
                (λ z _. t.front (2 * l) (omega arith) ∙ g.header.before l x (omega arith));
            sizes = λ l x y. same l m (λ z _. rw z (t.sizes ∙ ap size_for e))
                (λ z _. t.front (2 * l + 1) (omega arith) ∙ g.header.sizes l x (omega arith));
            second = t.front 1 (omega (arith, g.few)) ∙ g.header.second;
            others = λ i a b. t.others i (omega arith) b ∙ g.header.others i (omega arith) b;
          };
          long = t.long ∙ g.long;
          past = λ i k. after vs t i (rw q at k);
        }
      where
        after : (vs : List ℕ) → Made bs us vs m before count → (i : ℕ) → table_end m (list_of bs) ≤ i
            → get_or vs i 0 ≡ get_or ws i 0
        after vs t i k = t.past i (omega (arith, ends)) ∙ g.past i (omega (arith, ends, g.at, end_fits (m - 1) (list_of bs)))

  pub going_end : 32 < m → Ends bs ws us
  going_end h =
      let q : m - 1 ≡ 32 = omega (arith, g.most) in
      let z : m ≡ 33 = omega (arith, g.most) in
      let a : before ≡ entries_to 32 (list_of bs) = g.at ∙ rw q in
      let b = standing_on (list_of bs) us (header_words + 8 * before) (words_for (list_of bs)) m
      (omega (arith, a, upto-fits 32 (list_of bs) (omega arith) won)) g.built in
      record {
        laid = record {
          long = omega (arith, s.room, g.long);
          default = b.default;
          tables = λ l x y. b.tables l x (omega arith);
        };
        header = rw z at g.header;
        long = g.long;
        spare = λ i k. g.past i (rw q k);
        past = λ i k. g.past i (rw q (omega (arith, used-needed (list_of bs) won)));
      }

-- ---- the default route

module _ (bs : List ℕ) (n : ℕ) (en : n ≡ records_in bs) where
  pub default_empty : n ≡ 0 → 0 ≡ best_at (list_of bs) 0 0
  unfolding candidates_from last
  default_empty e = rw (sym en ∙ e)

  module _ (s : IsList 32 (candidates_in bs)) (some : n ≢ 0) (l : ℕ) (e : l ≡ (candidate_at bs 0).len) where
    here : 0 < records_in bs
    here = omega arith

    pub default_none : l ≢ 0 → 0 ≡ best_at (list_of bs) 0 0
    unfolding last
    default_none d = rw (default_unheld bs s here (omega arith))

    pub default_held : (h : ℕ) → l ≡ 0 → h ≡ winning_at bs 0 → h * 256 ≡ best_at (list_of bs) 0 0
    default_held h z q =
        let a : 0 ≡ (candidate_at bs 0).addr / 2 ^ (32 - 0) = omega (arith, head_fits bs s 0 here 0 (omega arith)) in
        omega (arith, q, best-own bs s 0 here 0 0 (omega arith) (sym e ∙ z) a)

-- ---- the call

-- words enough for the list
module _ (bs ws : List ℕ) (n : ℕ) (e : n ≡ words_for (list_of bs)) (h : n ≤ length ws) where
  pub build_leaves : (d : ℕ) (us : List ℕ) → Ends bs (set ws 0 d) us → Leaves (list_of bs) ws us
  build_leaves d us t = record {
    refused = λ k. absurd (omega arith);
    laid = λ k. t.laid;
    header = λ k. record {
      before = t.header.before;
      sizes = t.header.sizes;
      second = t.header.second ∙ get_or-set_other ws 0 1 d 0 (λ z. omega arith);
      others = λ i a b. t.header.others i a b ∙ get_or-set_other ws 0 i d 0 (λ z. omega arith);
    };
    long = t.long ∙ length-set ws 0 d;
    spare = λ i k. t.spare i k ∙ get_or-set_other ws 0 i d 0 (λ z. omega (arith, end_step 32 (list_of bs) (omega arith)));
    past = λ i k. t.past i k ∙ get_or-set_other ws 0 i d 0 (λ z. omega arith);
  }
