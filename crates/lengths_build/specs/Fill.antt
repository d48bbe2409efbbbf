-- The steps of filling a table: an entry more, one that is there already, a record passed over; and its begin and end.
-- Assumes nothing.
use Rattle.std.specs.Prelude.{◌≡◌, refl, ◌≢◌, Bool, true, false, not, ◌&&◌, ◌||◌, List, [], ◌∷◌, ◌++◌, ℕ, zero, suc, ◌+◌, ◌-◌}
use Rattle.std.specs.Prelude.{◌*◌, ◌/◌, ◌^◌, ◌≤◌, ◌<◌, length, get_or, leb, eqb}
use Rattle.std.proofs.Common.{sym, ap, ◌∙◌, ⊎_elim, true≢false, arith, pow_mono, le-leb, eqb-true, eq-eqb, ne_eqb}
use Rattle.std.proofs.lemmas.Bool.{false≢true}
use Rattle.routes.specs.Route.{Route, route}
use Rattle.routes.specs.Room.{mem, distinct}
use Rattle.logic.specs.Cases.{bool, same, less}
use Rattle.logic.specs.Bools.{or_left, or_right, or_to}
use Rattle.laws.specs.Room.{distinct_le}
use Rattle.lengths.specs.Way.{miss, hit, turns_at}
use Rattle.listing.specs.Heads.{picks, picks_more, picks-winners}
use Rattle.lengths.specs.Marks.{held_at, entries, best_at}
use Rattle.lengths.specs.Entries.{own, mem-append, mem_either}
use Rattle.candidates.specs.Candidate.{IsList}
use Rattle.candidates.specs.Winners.{prefixes}
use Rattle.rivals.specs.Won.{are_good, winners_list}
use Rattle.listing.specs.Listed.{records_in, candidate_at, candidates_from, candidates_in, list_of}
use Rattle.listing.specs.Records.{tail_step, tail_end, candidate_of_fact, head_fits}
use Rattle.laws.specs.Longest.{wfs}
use Rattle.lengths.specs.Held.{turn_below}
use Rattle.lengths.specs.Few.{few_entries}
use Rattle.lengths.specs.Layout.{header_words, begin_of, size_of, key_of, taken_by, Places, places_of, find}
use Rattle.lengths.specs.Hash.{room_left, Holds, holds_none, holds_again, holds_put}
use Rattle.lengths.specs.Laid.{Table, table_same}
use Rattle.lengths_build.specs.Filling.{Kept, Standing, chosen, tail, base, sofar, size_for, Filling, Filled, Space, Put}
use Rattle.lengths_build.specs.Filling.{is_miss}
use Rattle.lengths_build.specs.Best.{best-own, own_entered, unentered}

-- ---- words kept

pub kept_none : (ws : List ℕ) (lo hi : ℕ) → Kept ws ws lo hi
kept_none ws lo hi = record { long = refl; below = λ i h. refl; above = λ i h. refl }

pub kept-join : (ws us vs : List ℕ) (lo hi : ℕ) → Kept ws us lo hi → Kept us vs lo hi → Kept ws vs lo hi
kept-join ws us vs lo hi k l = record {
  long = l.long ∙ k.long;
  below = λ i h. l.below i h ∙ k.below i h;
  above = λ i h. l.above i h ∙ k.above i h;
}

pub standing-kept : (rs : List Route) (ws us : List ℕ) (o m hi : ℕ) → header_words ≤ o → m ≤ 33 → Kept ws us o hi
    → Standing rs ws o m → Standing rs us o m
standing-kept rs ws us o m hi h k s b = record {
  default = s.below 0 (omega arith) ∙ b.default;
  tables = λ l x y. table_same rs ws us o l (λ i p q. s.below i (omega arith)) (λ i p q. s.below i q) (b.tables l x y);
}

-- ---- what is entered is among the entries

picks_on : (P : ℕ → Bool) (m z d k i : ℕ) (bs : List ℕ) → mem z (picks P m (prefixes (candidates_from bs k (d + i)))) ≡ true
    → mem z (picks P m (prefixes (candidates_from bs (d + k) i))) ≡ true
unfolding candidates_from
picks_on P m z zero k i bs e = let a : 0 + i ≡ i = omega arith in let b : 0 + k ≡ k = omega arith in rw b (rw a at e)
picks_on P m z (suc d) k i bs e =
    let a : d + suc i ≡ suc d + i = omega arith in
    let b : suc d + k ≡ suc (d + k) = omega arith in
    let c = candidate_at bs i in
    rw b (picks_more P m z (route c.addr c.len 0) (prefixes (candidates_from bs (d + k) (suc i)))
    (picks_on P m z d k (suc i) bs (rw a e)))

-- all prefixes have the heads of the winners
picks_all : (P : ℕ → Bool) (m z : ℕ) (bs : List ℕ) → IsList 32 (candidates_in bs)
    → mem z (picks P m (tail bs 0)) ≡ mem z (picks P m (list_of bs))
picks_all P m z bs l =
    let a : records_in bs - 0 ≡ records_in bs = omega arith in
    rw a (sym (picks-winners P m z (candidates_in bs) (are_good 32 (omega arith) (candidates_in bs) l)))

picks-tail : (P : ℕ → Bool) (m z i : ℕ) (bs : List ℕ) → IsList 32 (candidates_in bs) → i ≤ records_in bs
    → mem z (picks P m (tail bs i)) ≡ true → mem z (picks P m (list_of bs)) ≡ true
picks-tail P m z i bs l h e =
    let a : i + 0 ≡ i = omega arith in
    let b : i + (records_in bs - i) ≡ records_in bs - 0 = omega arith in
    sym (picks_all P m z bs l) ∙ (rw b at (picks_on P m z i (records_in bs - i) 0 bs (rw a e)))

chosen-entry : (k : Bool) (m z : ℕ) (rs : List Route) → mem z (picks (chosen k m) m rs) ≡ true → mem z (entries m rs) ≡ true
chosen-entry false m z rs e = own_entered rs m z e
chosen-entry true m z rs e = mem_either (λ l. eqb l m) (turns_at m) m z rs
    ∙ or_right (mem z (own m rs)) (mem z (picks (turns_at m) m rs)) e

base-entry : (k : Bool) (bs : List ℕ) (m z : ℕ) → IsList 32 (candidates_in bs) → mem z (base k bs m) ≡ true
    → mem z (entries m (list_of bs)) ≡ true
base-entry false bs m z s e = absurd (false≢true e)
base-entry true bs m z s e =
    ⊎_elim
    (λ (q : mem z (picks (chosen false m) m (tail bs 0)) ≡ true). chosen-entry false m z (list_of bs)
    (picks-tail (chosen false m) m z 0 bs s (omega arith) q))
    (λ (q : false ≡ true). absurd (false≢true q))
    (or_to (mem z (picks (chosen false m) m (tail bs 0))) false
    (sym (mem-append z (picks (chosen false m) m (tail bs 0)) []) ∙ e))

sofar-entry : (k : Bool) (bs : List ℕ) (m i z : ℕ) → IsList 32 (candidates_in bs) → i ≤ records_in bs
    → mem z (sofar k bs m i) ≡ true → mem z (entries m (list_of bs)) ≡ true
sofar-entry k bs m i z s h e =
    ⊎_elim
    (λ (q : mem z (picks (chosen k m) m (tail bs i)) ≡ true). chosen-entry k m z (list_of bs)
    (picks-tail (chosen k m) m z i bs s h q))
    (λ (q : mem z (base k bs m) ≡ true). base-entry k bs m z s q)
    (or_to (mem z (picks (chosen k m) m (tail bs i))) (mem z (base k bs m))
    (sym (mem-append z (picks (chosen k m) m (tail bs i)) (base k bs m)) ∙ e))

-- ---- one record

module _ (k : Bool) (bs : List ℕ) (i m : ℕ) (h : i < records_in bs) where
  abbrev v : ℕ
  v = (candidate_at bs i).addr / 2 ^ (32 - m)

  step : tail bs i ≡ route (candidate_at bs i).addr (candidate_at bs i).len 0 ∷ tail bs (i + 1)
  step = ap prefixes (tail_step bs (records_in bs) (i + 1) i refl (omega arith))

  sofar_skip : chosen k m (candidate_at bs i).len ≡ false → sofar k bs m i ≡ sofar k bs m (i + 1)
  sofar_skip e = rw (step, e)

  sofar_more : chosen k m (candidate_at bs i).len ≡ true → sofar k bs m i ≡ v ∷ sofar k bs m (i + 1)
  sofar_more e = rw (step, e)

  head_entry : IsList 32 (candidates_in bs) → chosen k m (candidate_at bs i).len ≡ true → mem v (entries m (list_of bs)) ≡ true
  head_entry s e = sofar-entry k bs m i v s (omega arith)
      (rw (sofar_more e) (or_left (eqb v v) (mem v (sofar k bs m (i + 1))) (eq-eqb v v refl)))

-- a new value leaves room for itself
room_for : (k : Bool) (bs : List ℕ) (i m v n : ℕ) → IsList 32 (candidates_in bs) → m ≤ 32 → i ≤ records_in bs
    → mem v (entries m (list_of bs)) ≡ true → mem v (sofar k bs m i) ≡ false → n ≡ size_for (distinct (entries m (list_of bs)))
    → distinct (sofar k bs m i) < 4 * n
room_for k bs i m v n l w h e f q =
    let a = few_entries m (list_of bs) w (wfs 32 (list_of bs) (winners_list 32 (candidates_in bs) l).routes) in
    let b : 2 ^ m ≤ 2 ^ 32 = pow_mono {i = m} {j = 32} w in
    let d : distinct (v ∷ sofar k bs m i) ≤ distinct (entries m (list_of bs)) =
    distinct_le (v ∷ sofar k bs m i) (entries m (list_of bs)) all in
    let s : distinct (v ∷ sofar k bs m i) ≡ suc (distinct (sofar k bs m i)) = rw f in
    omega arith
  where
    all : (z : ℕ) → mem z (v ∷ sofar k bs m i) ≡ true → mem z (entries m (list_of bs)) ≡ true
    all z y = same v z (λ a d. rw (← a) e) (λ a d. sofar-entry k bs m i z l h (rw d at y))

-- in the second pass, a value that is not there is no route
no_route : (k : Bool) (bs : List ℕ) (i m v l : ℕ) → m ≤ 32 → IsList 32 (candidates_in bs) → mem v (sofar k bs m i) ≡ false
    → chosen k m l ≡ true → l ≢ m → held_at (list_of bs) m v ≡ 0
no_route false bs i m v l h s e c n = absurd (n (eqb-true l m c))
no_route true bs i m x l h s e c n =
    let a = mem-append x (picks (chosen true m) m (tail bs i)) (base true bs m) in
    let b = mem-append x (picks (chosen false m) m (tail bs 0)) [] in
    let o : mem x (picks (chosen false m) m (tail bs 0)) ≡ false =
    out (mem x (picks (chosen true m) m (tail bs i))) (mem x (picks (chosen false m) m (tail bs 0))) (rw (a, b) at e) in
    unentered (list_of bs) m x h (wfs 32 (list_of bs) (winners_list 32 (candidates_in bs) s).routes)
    (sym (picks_all (chosen false m) m x bs s) ∙ o)
  where
    out : (a b : Bool) → (a || (b || false)) ≡ false → b ≡ false
    out true b q = absurd (true≢false q)
    out false true q = absurd (true≢false q)
    out false false q = refl

-- ---- the steps

module _ (k : Bool) (bs ws : List ℕ) (i m o n : ℕ) (f : Filling k bs ws (i + 1) m o n) where
  here : i < records_in bs
  here = omega (arith, f.upto)

  -- another list of what is held, for the record before
  before : (us : List ℕ) → length us ≡ length ws → Standing (list_of bs) us o m
      → Holds (places_of us m o (4 * n)) (4 * n) (best_at (list_of bs) m) (sofar k bs m i) → Filling k bs us i m o n
  before us e b h = record {
    list = f.list;
    few = f.few;
    most = f.most;
    upto = omega (arith, f.upto);
    low = f.low;
    fits = rw e f.fits;
    small = f.small;
    size = f.size;
    built = b;
    holds = h;
  }

  pub filling_skip : (c : Bool) → c ≡ chosen k m (candidate_at bs i).len → c ≡ false → Filling k bs ws i m o n
  filling_skip c e q = before ws refl f.built (rw (sofar_skip k bs i m here (sym e ∙ q)) f.holds)

  module _ (c : chosen k m (candidate_at bs i).len ≡ true) (x : ℕ) (xe : x ≡ (candidate_at bs i).addr / 2 ^ (32 - m)) where
    abbrev T : Places
    T = places_of ws m o (4 * n)

    -- the probe tells whether the head is there
    there : (b : Bool) → b ≡ is_miss (find T (4 * n) x) → b ≡ false → mem x (sofar k bs m (i + 1)) ≡ true
    there b e q = bool (mem x (sofar k bs m (i + 1))) (λ z. z)
        (λ z. (let y : find T (4 * n) x ≡ miss = f.holds.finds x ∙ rw z in
        absurd (false≢true (sym q ∙ e ∙ ap is_miss y))))

    away : (b : Bool) → b ≡ is_miss (find T (4 * n) x) → b ≡ true → mem x (sofar k bs m (i + 1)) ≡ false
    away b e q = bool (mem x (sofar k bs m (i + 1)))
        (λ z. (let y : find T (4 * n) x ≡ hit (best_at (list_of bs) m x) = f.holds.finds x ∙ rw z in
        absurd (true≢false (sym q ∙ e ∙ ap is_miss y)))) (λ z. z)

    pub filling_again : (b : Bool) → b ≡ is_miss (find T (4 * n) x) → b ≡ false → Filling k bs ws i m o n
    filling_again b e q = before ws refl f.built
        (rw (sofar_more k bs i m here c, ← xe)
        (holds_again T (4 * n) (best_at (list_of bs) m) (sofar k bs m (i + 1)) x f.holds (there b e q)))

    pub filling_room : (b : Bool) → b ≡ is_miss (find T (4 * n) x) → b ≡ true → Space ws o m n
    filling_room b e q = record {
      fits = f.fits;
      small = f.small;
      room = room_left T (4 * n)
          (rw f.holds.count
          (room_for k bs (i + 1) m x n f.list f.most f.upto (rw xe (head_entry k bs i m here f.list c)) (away b e q)
          f.size));
    }

    pub filling_new : (b : Bool) → b ≡ is_miss (find T (4 * n) x) → b ≡ true → (candidate_at bs i).len ≢ m
        → held_at (list_of bs) m x ≡ 0
    filling_new b e q n = no_route k bs (i + 1) m x (candidate_at bs i).len f.most f.list (away b e q) c n

    pub filling_put : (us : List ℕ) (b : Bool) (y : ℕ) → b ≡ is_miss (find T (4 * n) x) → b ≡ true
        → y ≡ best_at (list_of bs) m x → Put ws us o m n x y → Filled k bs ws us i m o n
    filling_put us b y e q w s = record {
      filling = before us s.kept.long
          (standing-kept (list_of bs) ws us o m (o + 8 * n) f.low (omega (arith, f.most)) s.kept f.built)
          (rw (sofar_more k bs i m here c, ← xe)
          (holds_put T (places_of us m o (4 * n)) (4 * n) s.at (best_at (list_of bs) m) (sofar k bs m (i + 1)) x f.holds
          (away b e q) s.free (rw (← w) s.puts)));
      kept = s.kept;
    }

    -- an entry's words do not say that its place is free: up to 31 bits its key is not 0, and of 32 it is a route's own, whose
    -- best match is not
    pub filling_taken : (y : ℕ) → y ≡ best_at (list_of bs) m x → taken_by m (key_of x) y ≡ true
    filling_taken y w =
        less m 32
        (λ h _. (let a = head_fits bs f.list i here m f.most in
        let b : 2 ^ m ≤ 2 ^ 31 = pow_mono {i = m} {j = 31} (omega arith) in
        or_left (not (eqb (key_of x) 0)) (leb 32 m && not (eqb y 0)) (rw (ne_eqb (key_of x) 0 (λ z. omega (arith, xe, a, b))))))
        (λ h _. (let a = best-own bs f.list i here m x f.most (own_32 k (candidate_at bs i).len h
        (candidate_of_fact bs f.list i here).route.wf.fits c) xe in
        or_right (not (eqb (key_of x) 0)) (leb 32 m && not (eqb y 0))
        (rw (le-leb 32 m h, ne_eqb y 0 (λ z. omega (arith, w, a))))))
      where
        own_32 : (k : Bool) (l : ℕ) → 32 ≤ m → l ≤ 32 → chosen k m l ≡ true → l ≡ m
        own_32 false l h j c = eqb-true l m c
        own_32 true l h j c = absurd (omega (arith, turn_below 4 16 l m c))

-- ---- its begin, its turn and its end

-- an empty table, before the first pass
pub filling_start : (bs ws : List ℕ) (m o n : ℕ) → IsList 32 (candidates_in bs) → 1 ≤ m → m ≤ 32 → header_words ≤ o
    → o + 8 * n ≤ length ws → n < 2 ^ 32 → n ≡ size_for (distinct (entries m (list_of bs)))
    → Standing (list_of bs) ws o m → ((i : ℕ) → o ≤ i → i < o + 8 * n → get_or ws i 0 ≡ 0)
    → Filling false bs ws (records_in bs) m o n
filling_start bs ws m o n l a b c d g e f z = record {
  list = l;
  few = a;
  most = b;
  upto = omega arith;
  low = c;
  fits = d;
  small = g;
  size = e;
  built = f;
  holds = rw (tail_end bs (records_in bs))
      (holds_none (places_of ws m o (4 * n)) (4 * n) (best_at (list_of bs) m) (λ i h.
      rw (z (o + i) (omega arith) (omega arith), z (o + i + 4 * n) (omega arith) (omega arith)) (none (leb 32 m))));
}
  where
    none : (b : Bool) → (b && false) ≡ false
    none true = refl
    none false = refl

-- the end of the first pass begins the second
pub filling_turn : (bs ws : List ℕ) (m o n : ℕ) → Filling false bs ws 0 m o n → Filling true bs ws (records_in bs) m o n
filling_turn bs ws m o n f = record {
  list = f.list;
  few = f.few;
  most = f.most;
  upto = omega arith;
  low = f.low;
  fits = f.fits;
  small = f.small;
  size = f.size;
  built = f.built;
  holds = rw (tail_end bs (records_in bs)) f.holds;
}

-- both passes together enter what the list has
sofar_all : (bs : List ℕ) (m z : ℕ) → IsList 32 (candidates_in bs) → mem z (sofar true bs m 0) ≡ mem z (entries m (list_of bs))
sofar_all bs m z l =
    rw (
      mem-append z (picks (turns_at m) m (tail bs 0)) (picks (λ l. eqb l m) m (tail bs 0) ++ []),
      mem-append z (picks (λ l. eqb l m) m (tail bs 0)) [],
      picks_all (turns_at m) m z bs l,
      picks_all (λ l. eqb l m) m z bs l,
      mem_either (λ l. eqb l m) (turns_at m) m z (list_of bs),
    )
    (swap (mem z (picks (turns_at m) m (list_of bs))) (mem z (own m (list_of bs))))
  where
    swap : (a b : Bool) → (a || (b || false)) ≡ (b || a)
    swap true true = refl
    swap true false = refl
    swap false true = refl
    swap false false = refl

-- and then the table stands
pub filling_end : (bs ws : List ℕ) (m o n : ℕ) → begin_of ws m ≡ o → size_of ws m ≡ n → Filling true bs ws 0 m o n
    → Table (list_of bs) ws (o + 8 * n) m
filling_end bs ws m o n b s f = record {
  ends = rw (b, s) (omega arith);
  finds = λ v. rw (b, s) (f.holds.finds v ∙ rw (sofar_all bs m v f.list));
}

table_on : (rs : List Route) (ws : List ℕ) (o to m : ℕ) → o ≤ to → Table rs ws o m → Table rs ws to m
table_on rs ws o to m h t = record { ends = omega (arith, t.ends); finds = t.finds }

-- one table more
pub standing_more : (rs : List Route) (ws : List ℕ) (o to m : ℕ) → o ≤ to → Standing rs ws o m → Table rs ws to m
    → Standing rs ws to (m + 1)
standing_more rs ws o to m h b t = record {
  default = b.default;
  tables = λ l x y. same l m (λ q _. rw q t) (λ q _. table_on rs ws o to l h (b.tables l x (omega arith)));
}

pub standing_on : (rs : List Route) (ws : List ℕ) (o to m : ℕ) → o ≤ to → Standing rs ws o m → Standing rs ws to m
standing_on rs ws o to m h b = record { default = b.default; tables = λ l x y. table_on rs ws o to l h (b.tables l x y) }
