-- Fresh arrays hung in a row on any words whose path test passes: the arrays that are none of the path, and none of those hung,
-- stay, and the tags lead up from the last. Assumes nothing.
use Rattle.std.specs.Prelude.{◌≡◌, refl, ◌≢◌, true, false, cond, List, ℕ, suc, ◌+◌, ◌-◌, ◌≤◌, ◌<◌, eqb, leb, ltb, length, get_or}
use Rattle.std.proofs.Common.{sym, ◌∙◌, inl, true≢false}
use Rattle.std.proofs.Math.Path.{ap}
use native.Mathlib.Omega.{arith}
use borrow.Author.Tests.{eq-eqb, ne_eqb, le-leb, lt-leb, lt-ltb, leb-true, ltb-true}
use Rattle.logic.specs.Bools.{and_to, and_from}
use Rattle.logic.specs.Cases.{same, tri}
use Rattle.sizes.specs.Sizes.{least_words, most_words, cell_count, cells_at, word_at, cell_at, best_bound, level_bound}
use Rattle.array.specs.Tag.{tag_of, parent_in, cell_in, level_in}
use Rattle.array.specs.Cell.{best-blank}
use Rattle.tree.specs.Arrays.{lev}
use Rattle.tree.specs.Free.{Found}
use Rattle.words.specs.Words.{arrays_of, array_count, slots_of, blocks_of, bests_of}
use Rattle.array.specs.Right.{best-small}
use Rattle.words.specs.TableBut.{Table}
use Rattle.words.specs.Gained.{gained_in, Ends, Gains, GainedAny}
use Rattle.words.specs.Rehung.{any_word, any_tags, any_cell}
use Rattle.words.specs.Rises.{Rises, SameUp, Off, off_here, off_same}
use Rattle.words.specs.Rises.{rises_some, rises_inside, rises_level, rises_same, rises_more, rises_base}
use Rattle.words.specs.Offers.{taken}
use Rattle.words.specs.Frees.{Fresh, Frees}
use Rattle.numbers.specs.Front.{front, byte_of, byte_lt}
use Rattle.paths.specs.Alike.{Alike}
use Rattle.paths.specs.Grown.{OpenCell, Grown, grown_none, Turn, turn_first, turn_room, turn_right, turn_more}
use Rattle.paths.specs.Stop.{Opened, opened_there, opened_full, opened_tip, opened_grown}
use Rattle.paths.specs.Way.{Way, tag_parts}
use Rattle.paths.specs.Opens.{fit_b, open_fault, last_hung, hung_in}

-- what is asked: below array b of level j the cell of the address is fit for a link, and the arrays fs are free
pub record Ready (L : ℕ) (ws : List ℕ) (a j k b : ℕ) (fs : List ℕ) : Type 0 where
  pub least : least_words ≤ length ws
  pub most : length ws ≤ most_words
  pub top : k < L
  pub levels : L < level_bound
  pub more : j < k
  pub long : length fs ≡ 32
  pub short : k - j ≤ 32
  pub rises : Rises ws j b
  pub block : blocks_of ws b (byte_of L a j) ≤ 8
  pub small : bests_of ws b (byte_of L a j) < best_bound
  pub fresh : (h : ℕ) → h < k - j → Fresh ws (get_or fs h 0)
  pub rising : (g h : ℕ) → g < h → h < k - j → get_or fs g 0 < get_or fs h 0
  pub which : (h : ℕ) → h < k - j → get_or fs h 0 ≡ taken ws h

-- of a table there is room too
pub record Roomy (L : ℕ) (ws : List ℕ) (a j k b : ℕ) : Type 0 where
  pub tip : OpenCell L ws (front L a j) j b (byte_of L a j)
  pub room : get_or ws 0 0 + (k - j) ≤ array_count ws

-- ---- the path is open down to array r of level k

pub record GrownAny (L : ℕ) (ws vs : List ℕ) (a j k b r : ℕ) : Type 0 where
  pub is : vs ≡ hung_in L ws a j b (k - j)
  pub last : r ≡ last_hung ws b (k - j)
  pub size : length vs ≡ length ws
  pub rises : Rises vs k r
  pub spared : (c : ℕ) → 1 ≤ c → Off (arrays_of ws) j b c → (arrays_of vs).tag c ≡ (arrays_of ws).tag c
      → Off (arrays_of vs) k r c × Alike ws vs c
  pub right : Roomy L ws a j k b → Grown L ws vs a j k r

-- down to array r of level i
pub record Hanging (L : ℕ) (ws vs : List ℕ) (a j k b : ℕ) (fs : List ℕ) (i r : ℕ) : Type 0 where
  pub low : j ≤ i
  pub high : i ≤ k
  pub is : vs ≡ hung_in L ws a j b (i - j)
  pub last : r ≡ last_hung ws b (i - j)
  pub size : length vs ≡ length ws
  pub rises : Rises vs i r
  pub block : i < k → blocks_of vs r (byte_of L a i) ≤ 8
  pub small : i < k → bests_of vs r (byte_of L a i) < best_bound
  pub free : (h : ℕ) → i - j ≤ h → h < k - j → (arrays_of vs).tag (get_or fs h 0) ≡ 0
  pub blank : (h : ℕ) → i - j ≤ h → h < k - j → (y : ℕ) → y < cell_count → get_or vs (cell_at (get_or fs h 0) y) 0 ≡ 0
  pub used : (h : ℕ) → h < i - j → 1 ≤ (arrays_of vs).tag (get_or fs h 0)
  pub spared : (c : ℕ) → 1 ≤ c → Off (arrays_of ws) j b c → ((h : ℕ) → h < k - j → get_or fs h 0 ≢ c)
      → Off (arrays_of vs) i r c × Alike ws vs c
  pub right : Roomy L ws a j k b → Turn L ws vs a j i r

module _ {L : ℕ} {ws : List ℕ} {a j k b : ℕ} {fs : List ℕ} (q : Ready L ws a j k b fs) where
  pub hanging_first : Hanging L ws ws a j k b fs j b
  unfolding hung_in
  hanging_first = record {
    low = omega arith;
    high = omega (arith, q.more);
    is = (let z : j - j ≡ 0 = omega arith in rw z);
    last = (let z : j - j ≡ 0 = omega arith in rw z);
    size = refl;
    rises = q.rises;
    block = λ _. q.block;
    small = λ _. q.small;
    free = λ h _ w. (q.fresh h w).free;
    blank = λ h _ w y l. (let e : cell_at (get_or fs h 0) y ≡ word_at (get_or fs h 0) (cells_at + y) = omega arith in
        rw e ((q.fresh h w).clean (cells_at + y) (omega arith) (omega arith)));
    used = λ h w. absurd (omega arith);
    spared = λ c h o n. (o, λ w l. refl);
    right = λ r. turn_first L ws a j b (omega (arith, q.more, q.top)) r.tip;
  }

  -- no fresh array is the root
  two : (h : ℕ) → h < k - j → 2 ≤ get_or fs h 0
  two h w =
      let f = q.fresh h w in
      same (get_or fs h 0) 1
      (λ e _. absurd (omega (arith, f.free, rises_base ws j b q.rises, ap (arrays_of ws).tag e)))
      (λ n _. omega (arith, f.low))

  module _ {vs : List ℕ} {i r : ℕ} (g : Hanging L ws vs a j k b fs i r) where
    pub hanging_done : k ≤ i → GrownAny L ws vs a j k b r
    hanging_done h =
        let e : i ≡ k = omega (arith, g.high) in
        record {
          is = rw (← e) g.is;
          last = rw (← e) g.last;
          size = g.size;
          rises = rw (← e) g.rises;
          spared = λ c lo o t. rw (← e) (g.spared c lo o (λ m w z.
              (let u = g.used m (omega arith) in
              let f = (q.fresh m w).free in
              omega (arith, rw z at u, rw z at f, t))));
          right = λ y. rw (← e) (g.right y).grown;
        }

    module _ (more : i < k) (y f : ℕ) (ey : y ≡ byte_of L a i) (ef : f ≡ get_or fs (i - j) 0) where
      place : i - j < k - j
      place = omega (arith, g.low)

      free : (arrays_of vs).tag f ≡ 0
      free = rw ef (g.free (i - j) (omega arith) place)

      yb : y < cell_count
      yb = rw ey (byte_lt L a i)

      level : lev (arrays_of vs) r ≡ i + 1
      level = rises_level vs i r g.rises

      apart : r ≢ f
      apart e = omega (arith, level, free, ap (arrays_of vs).tag e)

      own : Fresh ws f
      own = rw ef (q.fresh (i - j) place)

      ends : Ends vs r y f
      ends = record {
        size = rw g.size q.most;
        parent = rises_some vs i r g.rises;
        inside = rises_inside vs i r g.rises;
        cells = yb;
        some = rw ef (two (i - j) place);
        within = rw g.size (omega (arith, own.within, q.least));
        apart = apart;
        small = rw ey (g.small more);
      }

      pub hanging_gains : Gains vs r y f
      hanging_gains = record { ends = ends; block = rw ey (g.block more) }

      module _ (us : List ℕ) (re : GainedAny vs us r y f) where
        other : (h : ℕ) → h < k - j → h ≢ i - j → get_or fs h 0 ≢ f
        other h w n e =
            let x : (c d : ℕ) → c < d → d < k - j → get_or fs c 0 < get_or fs d 0 = q.rising in
            same h (i - j) (λ z _. n z)
            (λ _ _. less_or h (i - j) n
            (λ l. (let z = x h (i - j) l place in omega (arith, z, e, ef)))
            (λ l. (let z = x (i - j) h l w in omega (arith, z, e, ef))))
          where
            less_or : (c d : ℕ) → c ≢ d → {P : Type 0} → (c < d → P) → (d < c → P) → P
            less_or c d m u v = tri c d (λ l _. u l) (λ z _ _. absurd (m z)) (λ l _ _. v l)

        tag : (arrays_of us).tag f ≡ tag_of r y (i + 2)
        tag =
            let e : lev (arrays_of vs) r + 1 ≡ i + 2 = omega (arith, level) in
            re.any.tag ∙ ap (tag_of r y) e

        parts : (parent_in ((arrays_of us).tag f) ≡ r) × (cell_in ((arrays_of us).tag f) ≡ y) ×
            (level_in ((arrays_of us).tag f) ≡ i + 2)
        parts = tag_parts ((arrays_of us).tag f) r y (i + 2) tag yb (omega (arith, q.top, q.levels))

        same_up : SameUp vs us i
        same_up = record {
          size = re.any.size;
          tags = λ c h l w. any_tags ends re.any c h (λ e. omega (arith, free, ap (arrays_of vs).tag e));
          cells = λ c z h l w v. any_cell ends re.any c z h v (λ e. omega (arith, level, ap (lev (arrays_of vs)) e));
        }

        still : Rises us i r
        still = rises_same vs us i r same_up g.rises

        up : Rises us (suc i) f
        up = rises_more us i f (record {
          some = own.low;
          inside = rw re.any.size ends.within;
          level = parts.2;
          back = rw (parts.0, parts.1) re.here;
          small = rw (parts.0, parts.1, re.best) ends.small;
        }) (rw parts.0 still)

        -- its cells are those of an array without any
        void : (z : ℕ) → z < cell_count → get_or us (cell_at f z) 0 ≡ 0
        void z h =
            any_cell ends re.any f z own.low h (λ e. apart (sym e))
            ∙ rw ef (g.blank (i - j) (omega arith) place z h)

        aside : (c : ℕ) → Off (arrays_of vs) i r c → c ≢ f → Off (arrays_of us) (suc i) f c
        unfolding Off
        aside c o n = (n, rw parts.0 (off_same vs us i r c same_up g.rises o))

        one_more : i + 1 - j ≡ suc (i - j)
        one_more = omega (arith, g.low)

        is_taken : f ≡ taken ws (i - j)
        is_taken = ef ∙ q.which (i - j) place

        hung : us ≡ hung_in L ws a j b (suc (i - j))
        unfolding hung_in
        hung =
            let d : i ≡ j + (i - j) = omega (arith, g.low) in
            let ye : y ≡ byte_of L a (j + (i - j)) = ey ∙ ap (byte_of L a) d in
            re.is ∙ (λ m. gained_in (g.is m) (g.last m) (ye m) (is_taken m))

        pub hanging_more : Hanging L ws us a j k b fs (i + 1) f
        hanging_more =
            let e : i + 1 ≡ suc i = omega arith in
            record {
              low = omega (arith, g.low);
              high = omega arith;
              is = hung ∙ ap (hung_in L ws a j b) (sym one_more);
              last = is_taken ∙ ap (last_hung ws b) (sym one_more);
              size = re.any.size ∙ g.size;
              rises = rw e up;
              block = λ h. rw (void (byte_of L a (i + 1)) (byte_lt L a (i + 1))) (omega arith);
              small = λ h. rw (void (byte_of L a (i + 1)) (byte_lt L a (i + 1))) (omega (arith, best-blank 0 refl));
              free = λ h l w. any_tags ends re.any (get_or fs h 0) (q.fresh h w).low (other h w (λ z. omega (arith, g.low)))
                  ∙ g.free h (omega arith) w;
              blank = λ h l w z v. any_cell ends re.any (get_or fs h 0) z (q.fresh h w).low v
                  (λ d. (let t = g.free h (omega arith) w in omega (arith, level, rw d at t)))
                  ∙ g.blank h (omega arith) w z v;
              used = λ h l. same h (i - j)
                  (λ z _. rw (z, ← ef) (omega (arith, tag)))
                  (λ z _. (let w : h < k - j = omega (arith, g.low) in
                  rw (any_tags ends re.any (get_or fs h 0) (q.fresh h w).low (other h w z))
                  (g.used h (omega (arith, g.low)))));
              spared = λ c lo o n.
                  (let x = g.spared c lo o n in
                  let m : c ≢ f = λ z. n (i - j) place (sym ef ∙ sym z) in
                  rw e (
                    aside c x.0 m,
                    λ w v. any_word ends re.any c w lo v (off_here (arrays_of vs) i r c x.0) (inl m) ∙ x.1 w v,
                  ));
              right = λ y0.
                  (let t = g.right y0 in
                  let fo : Found (arrays_of vs) 1 (array_count vs) f =
                  record { low = own.low; high = rw g.size (omega (arith, own.within)); free = free } in
                  let room = turn_room t k more y0.room in
                  let deep : suc i < L = omega (arith, q.top) in
                  turn_more t deep room y f ey fo us (re.right (turn_right t deep room y f ey fo)));
            }

-- ---- opened, or not

abbrev pub astray : ℕ
astray = 4097

-- the number with which that is refused
abbrev pub fault_told : ℕ → ℕ
fault_told r = cond (eqb r 0) 8 (cond (eqb r 4097) 2 0)

pub record OpenedAny (L : ℕ) (ws vs : List ℕ) (a j k b r : ℕ) : Type 0 where
  pub fault : fault_told r ≡ open_fault L ws a j k b
  pub none : r ≡ 0 → vs ≡ ws
  pub fails : r ≡ 4097 → vs ≡ ws
  pub some : r ≢ 0 → r ≢ 4097 → GrownAny L ws vs a j k b r
  pub table : Table L ws → (r ≢ 4097) × Opened L ws vs a j k r

module _ (L : ℕ) (ws : List ℕ) (a k j b : ℕ) (w : Way L ws a k j b) where
  pub any_there : length ws ≤ most_words → j ≡ k → OpenedAny L ws ws a j k b b
  unfolding hung_in
  any_there most e = record {
    fault = rw (
      ne_eqb b 0 (λ z. omega (arith, w.stops.on.some)),
      ne_eqb b 4097 (λ z. omega (arith, w.stops.on.within)),
      eq-eqb j k e,
    );
    none = λ _. refl;
    fails = λ _. refl;
    some = λ _ _. record {
      is = (let z : k - j ≡ 0 = omega arith in rw z);
      last = (let z : k - j ≡ 0 = omega arith in rw z);
      size = refl;
      rises = rw (← e) w.rises;
      spared = λ c lo o t. (rw (← e) o, λ x y. refl);
      right = λ r. rw (← e) (grown_none L ws a j b r.tip.ok r.tip.some r.tip.leads);
    };
    table = λ t. (λ z. omega (arith, w.stops.on.within), opened_there L ws a k j b t w.stops e);
  }

  pub any_full : j ≢ k → (y : ℕ) → y ≡ byte_of L a j → fit_b ws b y ≡ true → array_count ws < get_or ws 0 0 + (k - j)
      → OpenedAny L ws ws a j k b 0
  any_full n y ey f q = record {
    fault = rw (ne_eqb j k n, ← ey, f, lt-leb (get_or ws 0 0 + (k - j)) (array_count ws) q);
    none = λ _. refl;
    fails = λ _. refl;
    some = λ n. absurd (n refl);
    table = λ t. (λ z. omega arith, opened_full L ws a k j b t w.stops q);
  }

  -- the words are no table
  any_astray : 2 ≡ open_fault L ws a j k b → (Table L ws → ⊥) → OpenedAny L ws ws a j k b 4097
  any_astray e n = record {
    fault = e;
    none = λ _. refl;
    fails = λ _. refl;
    some = λ _ m. absurd (m refl);
    table = λ t. absurd (n t);
  }

  module _ (least : least_words ≤ length ws) (most : length ws ≤ most_words) (top : k < L) (levels : L < level_bound)
      (n : j ≢ k) where
    more : j < k
    more = omega (arith, w.stops.low)

    off : (arrays_of ws).link b (byte_of L a j) ≡ 0
    off = w.stops.off more

    used : Table L ws → 1 ≤ (arrays_of ws).tag b
    used t = omega (arith, rises_level ws j b w.rises)

    module _ (y : ℕ) (ey : y ≡ byte_of L a j) where
      -- of a table the cell is fit
      pub fit_table : Table L ws → fit_b ws b y ≡ true
      fit_table t =
          let s = best-small (lev (arrays_of ws) b) (slots_of ws b) (bests_of ws b)
          (t.right b w.stops.on.some w.stops.on.within (used t)) y (rw ey (byte_lt L a j)) in
          let z = (t.settled b w.stops.on.some w.stops.on.within (used t) y (rw ey (byte_lt L a j)) (rw ey off)).fits in
          and_from _ _ (lt-ltb (bests_of ws b y) best_bound s) (le-leb (blocks_of ws b y) 8 z)

      pub any_unfit : fit_b ws b y ≡ false → OpenedAny L ws ws a j k b 4097
      any_unfit f =
          any_astray (rw (ne_eqb j k n, ← ey, f)) (λ t. true≢false (sym (fit_table t) ∙ f))

      module _ (f : fit_b ws b y ≡ true) (fs : List ℕ) (x : Frees ws (k - j) fs)
          (room : get_or ws 0 0 + (k - j) ≤ array_count ws) where
        both : (ltb (bests_of ws b y) best_bound ≡ true) × (leb (blocks_of ws b y) 8 ≡ true)
        both = and_to (ltb (bests_of ws b y) best_bound) (leb (blocks_of ws b y) 8) f

        -- too few free arrays
        pub any_few : get_or fs (k - j - 1) 0 ≡ 0 → OpenedAny L ws ws a j k b 4097
        any_few z =
            any_astray
            (rw (ne_eqb j k n, ← ey, f, le-leb (get_or ws 0 0 + (k - j)) (array_count ws) room, x.none z))
            (λ t. x.room L 0 t room z)

        pub any_ready : k - j ≤ 32 → get_or fs (k - j - 1) 0 ≢ 0 → Ready L ws a j k b fs
        any_ready short z = record {
          least = least;
          most = most;
          top = top;
          levels = levels;
          more = more;
          long = x.size;
          short = short;
          rises = w.rises;
          block = rw (← ey) (leb-true _ _ both.1);
          small = rw (← ey) (ltb-true _ _ both.0);
          fresh = x.fresh z;
          rising = x.rising z;
          which = x.which z;
        }

        pub any_grown : get_or fs (k - j - 1) 0 ≢ 0 → (vs : List ℕ) (r : ℕ) → GrownAny L ws vs a j k b r → r < 4097
            → OpenedAny L ws vs a j k b r
        any_grown z vs r g h =
            let some = rises_some vs k r g.rises in
            record {
              fault = rw (
                ne_eqb r 0 (λ q. omega (arith, some)),
                ne_eqb r 4097 (λ q. omega arith),
                ne_eqb j k n,
                ← ey,
                f,
                le-leb (get_or ws 0 0 + (k - j)) (array_count ws) room,
                x.takes z,
              );
              none = λ q. absurd (omega (arith, some));
              fails = λ q. absurd (omega arith);
              some = λ _ _. g;
              table = λ t. (
                λ q. omega arith,
                opened_grown L ws a k j b t w.stops vs r
                    (g.right (record { tip = opened_tip L ws a k j b t w.stops more; room = room })),
              );
            }
