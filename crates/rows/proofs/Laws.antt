-- The rows are right as far as `all` says it. Assumes nothing.
use Rattle.std.proofs.Common.{◌≡◌, Bool, true, false, List, ℕ, ◌+◌, ◌*◌, ◌<◌, length, get_or, sym, ◌∙◌, arith, eq-eqb}
use Rattle.std.proofs.lemmas.List.FromFn.{length-range_with_len, get_or-range_with_len}
use Rattle.std.specs.Bool.{MatchBool}
use Rattle.std.specs.List.{range_with_len, AllWithin, HoldsAt}
use Rattle.logic.specs.Every.{all_b}
use Rattle.logic.specs.Reflects.{Reflects, all_from, all_stop}
use Rattle.rows.specs.Row.{row_at, row_b, front_b, IsWords}
use Rattle.rows.specs.Told.{front-told}

-- what `all` says of a range, as one test
all_told : (p : ℕ → Bool) (n : ℕ) (r : Bool)
    → MatchBool r (AllWithin (λ i. p i ≡ true) (range_with_len 0 n) 0 (length (range_with_len 0 n)))
    ((k : ℕ) × (k < length (range_with_len 0 n)) × HoldsAt (λ i. p i ≡ false) (range_with_len 0 n) k) → r ≡ all_b p n
all_told p n true h =
    sym (all_from p n (λ i b.
    (let l : i < length (range_with_len 0 n) = rw (length-range_with_len 0 n) b in
    let z : 0 + i ≡ i = omega arith in
    let e : get_or (range_with_len 0 n) i 0 ≡ i = get_or-range_with_len 0 n i 0 b ∙ z in
    rw e at (h i 0 (omega arith) l))))
all_told p n false h =
    let b : h.0 < n = rw (length-range_with_len 0 n) at h.1 in
    let z : 0 + h.0 ≡ h.0 = omega arith in
    let e : get_or (range_with_len 0 n) h.0 0 ≡ h.0 = get_or-range_with_len 0 n h.0 0 b ∙ z in
    all_stop p n h.0 b (rw e at (h.2 0))

pub front_rows : (ws : List ℕ) (r : Bool) → ((j : ℕ) → get_or ws j 0 < 4294967296) → length ws ≡ 1024
    → MatchBool r (AllWithin (λ i. row_b (row_at ws) i ≡ true) (range_with_len 0 256) 0 (length (range_with_len 0 256)))
    ((k : ℕ) × (k < length (range_with_len 0 256)) × HoldsAt (λ i. row_b (row_at ws) i ≡ false) (range_with_len 0 256) k)
    → Reflects r (IsWords ws)
unfolding front_b
front_rows ws r small z h =
    let e : r ≡ front_b ws = all_told (row_b (row_at ws)) 256 r h ∙ rw (eq-eqb (length ws) 1024 z) in
    rw e (front-told ws (λ i. small (4 * i)))
