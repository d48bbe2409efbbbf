-- A row replaced or put in, as a step of the front. Assumes nothing.
use Rattle.std.specs.Prelude.{◌≡◌, ◌≢◌, true, false, ◌||◌, List, ℕ, suc, ◌+◌, ◌-◌, ◌*◌, ◌/◌, ◌%◌, ◌^◌, ◌<◌, ◌≤◌, min, length, ltb}
use Rattle.std.specs.Prelude.{eqb}
use Rattle.std.proofs.Common.{sym, ap, ◌∙◌, arith, lt-ltb, le-ltb, eq-eqb, ne_eqb}
use Rattle.std.proofs.lemmas.Bool.{false≢true}
use Rattle.candidates.specs.Keyed.{put}
use Rattle.candidates.specs.Candidate.{place}
use Rattle.front.specs.Place.{Mark, Place, placed, key, has, mark_at, IsFront, kept_of, most_penalty, most_places, held_over}
use Rattle.front.specs.Front.{raised, charged, charge, keeping}
use Rattle.restraint.specs.Places.{put_in_place}
use Rattle.restraint.specs.Keeps.{charge_keeps, kept_keeps, penalty_low}
use Rattle.rows.specs.Row.{Row, row, row_at, mark_of, decode, used, places_of, IsWords}
use Rattle.shelf.specs.Shift.{Holds, replaced, inserted, rank}
use Rattle.shelf.specs.Lists.{holds_places, replaced_other, replace_put, inserted_high, insert-put}
use Rattle.charge.specs.Calls.{Became, Standing, Charges, Keeps}
use Rattle.charge.specs.Room.{put_new, rank_few, used_low, room_none, room_some}

-- ---- a row replaced, a row put in

module _ (ws us : List ℕ) (at : ℕ) (r : Row) (w : IsWords ws) (u : used r ≡ true) (t : at ≡ rank (places_of ws) (key (decode r)))
    (i : IsFront 32 (put key (decode r) (places_of ws))) where
  replace_words : (x y : ℕ) → x ≢ 0 → Standing ws (key (decode r)) at x y → has (places_of ws) (key (decode r)) ≡ true
      → Holds us (replaced (row_at ws) at r) → Became us (put key (decode r) (places_of ws))
  replace_words x y n s here h =
      let v : used (row_at ws at) ≡ true = rw (s.mark, ne_eqb x 0 n) in
      let e : places_of us ≡ put key (decode r) (places_of ws) =
      holds_places us (replaced (row_at ws) at r) h
      ∙ replace_put (row_at ws) at r u 0 256 at (omega arith) (sym t) s.low v s.candidate in
      let m : length (put key (decode r) (places_of ws)) ≡ length (places_of ws) =
      put_in_place 0 (decode r) (places_of ws) w.front.sorted here in
      let o : at < length (places_of ws) = used_low ws w at s.low v in
      record {
        words = record {
          size = h.size;
          front = rw e i;
          zeros = λ j l b.
              (let q : length (put key (decode r) (places_of ws)) ≤ j = rw e at l in
              h.rows j b ∙ replaced_other (row_at ws) at r u j (omega arith) ∙ w.zeros j (omega arith) b);
        };
        places = e;
      }

  insert_words : has (places_of ws) (key (decode r)) ≡ false → length (places_of ws) < most_places
      → Holds us (inserted (row_at ws) at r) → Became us (put key (decode r) (places_of ws))
  insert_words n l h =
      let e : places_of us ≡ put key (decode r) (places_of ws) =
      holds_places us (inserted (row_at ws) at r) h
      ∙ insert-put (row_at ws) at r u 0 256 at (omega arith) (sym t) n l in
      let s : length (put key (decode r) (places_of ws)) ≡ suc (length (places_of ws)) = put_new (decode r) (places_of ws) n in
      let o : at ≤ length (places_of ws) = omega (arith, rank_few (places_of ws) (key (decode r))) in
      record {
        words = record {
          size = h.size;
          front = rw e i;
          zeros = λ j m b.
              (let q : length (put key (decode r) (places_of ws)) ≤ j = rw e at m in
              let z : suc (j - 1) ≡ j = omega arith in
              h.rows j b
              ∙ (rw z at (inserted_high (row_at ws) at r u (j - 1) (omega arith)))
              ∙ w.zeros (j - 1) (omega arith) (omega arith));
        };
        places = e;
      }

-- ---- the words of a row

pub decoded : (a l f y k : ℕ) (m : Mark) → f ≤ 4 → mark_of y k ≡ m → decode (row a (l * 8 + f) y k) ≡ placed a l f m
decoded a l f y k m h e =
    let d : (l * 8 + f) / 8 ≡ l = omega arith in
    let r : (l * 8 + f) % 8 ≡ f = omega arith in
    λ i. record { addr = a; len = d i; feed = r i; mark = e i }

some_used : (a w y k : ℕ) → 1 ≤ y → used (row a w y k) ≡ true
some_used a w y k h = rw (ne_eqb y 0 (omega arith))

-- ---- charge

module _ (ws us : List ℕ) (a l f at x y : ℕ) (s : Charges ws a l f at x y) (i : a < 2 ^ 32) where
  abbrev ps : List Place
  ps = places_of ws

  abbrev new : Place
  new = placed a l f (charged (mark_at ps (place a l f)))

  -- a place has a penalty of at most 12,000
  pub place-low : x / 2 ≤ most_penalty
  place-low =
      let e = ap (λ (m : Mark). m.penalty) s.found.mark in
      omega (arith, penalty_low 32 ps (place a l f) s.words.front)

  charge-front : IsFront 32 (charge a l f ps)
  charge-front = charge_keeps 32 a l 1 f s.sound i ps s.words.front

  module _ (n : ℕ) (e : mark_of n 0 ≡ charged (mark_of x 0)) (h : 1 ≤ n) where
    abbrev r : Row
    r = row a (l * 8 + f) n 0

    is_new_fact : decode r ≡ new
    is_new_fact = decoded a l f n 0 (charged (mark_at ps (place a l f))) s.sound.last (e ∙ sym (ap charged s.found.mark))

    pub charge_here : x ≢ 0 → Holds us (replaced (row_at ws) at r) → Became us (charge a l f ps)
    charge_here z q =
        let t : has ps (place a l f) ≡ true = s.found.told ∙ rw (ne_eqb x 0 z) in
        let c : charge a l f ps ≡ put key new ps = rw t in
        let k : key (decode r) ≡ place a l f = ap key is_new_fact in
        let g : IsFront 32 (put key (decode r) ps) = rw is_new_fact (rw c at charge-front) in
        rw c (rw is_new_fact at (replace_words ws us at r s.words (some_used a (l * 8 + f) n 0 h) (rw k s.found.rank) g
        x y z (rw k (s.found.stands z)) (rw k t) q))

    pub charge_new : x ≡ 0 → (row_at ws 255).x ≡ 0 → Holds us (inserted (row_at ws) at r) → Became us (charge a l f ps)
    charge_new z v q =
        let t : has ps (place a l f) ≡ false = s.found.told ∙ rw (eq-eqb x 0 z) in
        let o : length ps < most_places = room_some ws s.words v in
        let c : charge a l f ps ≡ put key new ps = rw (t, lt-ltb (length ps) most_places o) in
        let k : key (decode r) ≡ place a l f = ap key is_new_fact in
        let g : IsFront 32 (put key (decode r) ps) = rw is_new_fact (rw c at charge-front) in
        rw c (rw is_new_fact at (insert_words ws us at r s.words (some_used a (l * 8 + f) n 0 h) (rw k s.found.rank) g
        (rw k t) o q))

  -- no place is free
  pub charge-full : x ≡ 0 → (row_at ws 255).x ≢ 0 → Became ws (charge a l f ps)
  charge-full z v =
      let t : has ps (place a l f) ≡ false = s.found.told ∙ rw (eq-eqb x 0 z) in
      let c : charge a l f ps ≡ ps = rw (t, le-ltb (length ps) most_places (omega (arith, room_none ws s.words v))) in
      record { words = s.words; places = sym c }

  pub new_low : (row_at ws 255).x ≡ 0 → at < most_places
  new_low v = omega (arith, room_some ws s.words v, rank_few ps (place a l f), s.found.rank)

-- ---- keep

module _ (ws us : List ℕ) (a l h f p at x y : ℕ) (s : Keeps ws a l h f p at x y) (i : a < 2 ^ 32) where
  keep_some : x ≢ 0
  keep_some e = false≢true (rw e at s.back)

  pub keep_low : at < most_places
  keep_low = (s.found.stands keep_some).low

  pub keep_here : Holds us (replaced (row_at ws) at (row a (l * 8 + f) x (kept_of p h)))
      → Became us (put key (placed a l f (keeping (mark_at (places_of ws) (place a l f)) (kept_of p h))) (places_of ws))
  keep_here q =
      let n : x ≢ 0 = keep_some in
      let b : (mark_at (places_of ws) (place a l f)).back ≡ true = ap (λ (m : Mark). m.back) s.found.mark ∙ s.back in
      let m : mark_of x (kept_of p h) ≡ keeping (mark_at (places_of ws) (place a l f)) (kept_of p h) =
      sym (ap (λ (z : Mark). keeping z (kept_of p h)) s.found.mark) in
      let d : decode (row a (l * 8 + f) x (kept_of p h)) ≡ placed a l f
      (keeping (mark_at (places_of ws) (place a l f)) (kept_of p h)) =
      decoded a l f x (kept_of p h) (keeping (mark_at (places_of ws) (place a l f)) (kept_of p h)) s.sound.last m in
      let k : key (decode (row a (l * 8 + f) x (kept_of p h))) ≡ place a l f = ap key d in
      let t : has (places_of ws) (place a l f) ≡ true = s.found.told ∙ rw (ne_eqb x 0 n) in
      let g = kept_keeps 32 a l h f s.sound i (places_of ws) s.words.front p s.byte b in
      rw d at (replace_words ws us at (row a (l * 8 + f) x (kept_of p h)) s.words (rw (ne_eqb x 0 n)) (rw k s.found.rank)
      (rw d g) x y n (rw k (s.found.stands n)) (rw k t) q)

-- ---- 1,000 more

module _ (x n : ℕ) (e : n ≡ min (x / 2 + 1000) most_penalty) where
  pub raised_odd : x % 2 ≡ 1 → (mark_of (2 * n + 1) 0 ≡ charged (mark_of x 0)) × (1 ≤ 2 * n + 1)
  raised_odd o =
      let p : (2 * n + 1) / 2 ≡ raised (x / 2) = omega arith in
      let b : eqb ((2 * n + 1) % 2) 1 ≡ (eqb (x % 2) 1 || ltb held_over (raised (x / 2))) =
      rw (eq-eqb (x % 2) 1 o, eq-eqb ((2 * n + 1) % 2) 1 (omega arith)) in
      (λ i. record { penalty = p i; back = b i; kept = 0 }, omega arith)

  pub raised_high : x % 2 ≢ 1 → held_over < n → (mark_of (2 * n + 1) 0 ≡ charged (mark_of x 0)) × (1 ≤ 2 * n + 1)
  raised_high o h =
      let p : (2 * n + 1) / 2 ≡ raised (x / 2) = omega arith in
      let b : eqb ((2 * n + 1) % 2) 1 ≡ (eqb (x % 2) 1 || ltb held_over (raised (x / 2))) =
      rw (ne_eqb (x % 2) 1 o, eq-eqb ((2 * n + 1) % 2) 1 (omega arith), ← e, lt-ltb held_over n h) in
      (λ i. record { penalty = p i; back = b i; kept = 0 }, omega arith)

  pub raised-low : x % 2 ≢ 1 → n ≤ held_over → (mark_of (2 * n) 0 ≡ charged (mark_of x 0)) × (1 ≤ 2 * n)
  raised-low o h =
      let p : (2 * n) / 2 ≡ raised (x / 2) = omega arith in
      let b : eqb ((2 * n) % 2) 1 ≡ (eqb (x % 2) 1 || ltb held_over (raised (x / 2))) =
      rw (ne_eqb (x % 2) 1 o, ne_eqb ((2 * n) % 2) 1 (omega arith), ← e, le-ltb held_over n h) in
      (λ i. record { penalty = p i; back = b i; kept = 0 }, omega arith)
