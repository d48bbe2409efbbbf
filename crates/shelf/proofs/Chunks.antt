-- The rows of words, as arrays of four: those that come before a candidate, and then the others. Assumes nothing.
use Rattle.std.proofs.Common.{◌≡◌, refl, Bool, true, false, List, [], ℕ, zero, suc, ◌+◌, ◌*◌, ◌<◌, ◌≤◌, length, get_or}
use Rattle.std.proofs.Common.{take, drop}
use Rattle.std.proofs.Common.{ap, sym, ◌∙◌, arith}
use Rattle.std.proofs.lemmas.List.{get_or-take, get_or-drop, get_or_default, drop-drop}
use Rattle.std.specs.List.Sorted.{IsPartitionPoint, IsPartitionedBy}
use Rattle.std.specs.Simd.{first_chunks}
use Rattle.rows.specs.Row.{Row, row_at, places_of, IsWords}
use Rattle.shelf.specs.Shift.{before, rank}
use Rattle.shelf.specs.Ranks.{falls, between_end}

chunk_at : (n j : ℕ) (ws : List ℕ) → j < n → get_or (first_chunks 4 n ws) j [] ≡ take 4 (drop (4 * j) ws)
chunk_at zero j ws h = absurd (omega arith)
chunk_at (suc n) zero ws h = refl
chunk_at (suc n) (suc j) ws h =
    let z : 4 + 4 * j ≡ 4 * suc j = omega arith in
    chunk_at n j (drop 4 ws) (omega arith) ∙ ap (take 4) (drop-drop (4 * j) 4 ws ∙ ap (λ (m : ℕ). drop m ws) z)

word_at : (n j m : ℕ) (ws : List ℕ) → j < n → m < 4 → get_or (get_or (first_chunks 4 n ws) j []) m 0 ≡ get_or ws (4 * j + m) 0
word_at n j m ws h l =
    ap (λ (y : List ℕ). get_or y m 0) (chunk_at n j ws h)
    ∙ get_or-take 4 (drop (4 * j) ws) m 0 l ∙ get_or-drop (4 * j) ws m 0

row_told : (n j : ℕ) (ws : List ℕ) → j < n → row_at (get_or (first_chunks 4 n ws) j []) 0 ≡ row_at ws j
row_told n j ws h =
    let z : 4 * j + 0 ≡ 4 * j = omega arith in
    let a : get_or (get_or (first_chunks 4 n ws) j []) 0 0 ≡ get_or ws (4 * j) 0 = rw z at (word_at n j 0 ws h (omega arith)) in
    let w = word_at n j 1 ws h (omega arith) in
    let x = word_at n j 2 ws h (omega arith) in
    let k = word_at n j 3 ws h (omega arith) in
    λ i. record { a = a i; w = w i; x = x i; k = k i }

chunk_long : (n : ℕ) (ws : List ℕ) → length (first_chunks 4 n ws) ≡ n
chunk_long zero ws = refl
chunk_long (suc n) ws = ap suc (chunk_long n (drop 4 ws))

-- a chunk comes before k
abbrev pub chunk_before : ℕ → List ℕ → Bool
chunk_before k y = before (row_at y) k 0

before_told : (ws : List ℕ) (k j : ℕ) (d : List ℕ) → j < 256
    → chunk_before k (get_or (first_chunks 4 256 ws) j d) ≡ before (row_at ws) k j
before_told ws k j d h =
    let l : j < length (first_chunks 4 256 ws) = rw (chunk_long 256 ws) h in
    ap (chunk_before k) (get_or_default (first_chunks 4 256 ws) j d [] l)
    ∙ ap (λ (r : Row). before (λ _. r) k 0) (row_told 256 j ws h)

pub chunks_fall : (ws : List ℕ) (k : ℕ) → IsWords ws → IsPartitionedBy (chunk_before k) (first_chunks 4 256 ws)
chunks_fall ws k w i j d a b e =
    let h : j < 256 = rw (chunk_long 256 ws) at b in
    before_told ws k i d (omega arith) ∙ (falls ws k w).down i j a h (sym (before_told ws k j d h) ∙ e)

pub rank_told : (ws : List ℕ) (k r : ℕ) → r ≤ 256
    → IsPartitionPoint (λ y. chunk_before k y ≡ true) (λ y. chunk_before k y ≡ false) (first_chunks 4 256 ws) r
    → r ≡ rank (places_of ws) k
rank_told ws k r l p =
    between_end ws k r r
    record {
      order = omega arith;
      last = l;
      low = λ j h. sym (before_told ws k j [] (omega arith)) ∙ p.0 j [] (omega arith) h;
      high = λ j h b. sym (before_told ws k j [] b) ∙ p.1 j [] h (rw (chunk_long 256 ws) b);
    }
    (omega arith)
