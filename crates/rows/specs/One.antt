-- A front's words stand for one front only: two that have the same places are the same words. Assumes nothing.
use Rattle.std.specs.Prelude.{◌≡◌, List, [], ◌∷◌, ℕ, zero, suc, ◌+◌, ◌*◌, ◌/◌, ◌%◌, ◌<◌, length, get_or, eqb}
use Rattle.std.proofs.Common.{sym, ap, ◌∙◌, arith, ext_get_or, eqb-true}
use Rattle.std.proofs.lemmas.Bool.{eqb-false}
use Rattle.logic.specs.Cases.{bool, less, same}
use Rattle.front.specs.Place.{Place}
use Rattle.rows.specs.Row.{Row, row_at, decode, used, collect, places_of, IsWords}

abbrev second : List Place → Place → Place
second [] p = p
second (q ∷ ps) p = q

abbrev rest : List Place → List Place
rest [] = []
rest (q ∷ ps) = ps

parity : (x y : ℕ) → eqb (x % 2) 1 ≡ eqb (y % 2) 1 → x % 2 ≡ y % 2
parity x y e =
    same (x % 2) 1
    (λ a d. (let b : y % 2 ≡ 1 = eqb-true (y % 2) 1 (sym e ∙ d) in omega arith))
    (λ a d. (let b : y % 2 ≡ 1 → ⊥ = eqb-false (y % 2) 1 (sym e ∙ d) in omega arith))

decode_one : (r s : Row) → decode r ≡ decode s → r ≡ s
decode_one r s e =
    let a : r.a ≡ s.a = ap (λ (p : Place). p.addr) e in
    let l : r.w / 8 ≡ s.w / 8 = ap (λ (p : Place). p.len) e in
    let f : r.w % 8 ≡ s.w % 8 = ap (λ (p : Place). p.feed) e in
    let n : r.x / 2 ≡ s.x / 2 = ap (λ (p : Place). p.mark.penalty) e in
    let b : r.x % 2 ≡ s.x % 2 = parity r.x s.x (ap (λ (p : Place). p.mark.back) e) in
    let k : r.k ≡ s.k = ap (λ (p : Place). p.mark.kept) e in
    let w : r.w ≡ s.w = omega arith in
    let x : r.x ≡ s.x = omega arith in
    λ i. record { a = a i; w = w i; x = x i; k = k i }

rows_one : (g h : ℕ → Row) (i n d : ℕ) → collect g i n ≡ collect h i n → d < length (collect g i n) → g (i + d) ≡ h (i + d)
unfolding collect
rows_one g h i zero d e l = absurd (omega arith)
rows_one g h i (suc n) d e l =
    bool (used (g i))
    (λ u. bool (used (h i))
    (λ v. both d (rw (u, v) at e) (λ m t y. rows_one g h (suc i) n m t y) (rw u at l))
    (λ v. (let z = ap length (rw (u, v) at e) in absurd (omega arith))))
    (λ u. absurd (omega (arith, rw u at l)))
  where
    both : (m : ℕ) → decode (g i) ∷ collect g (suc i) n ≡ decode (h i) ∷ collect h (suc i) n
        → ((m : ℕ) → collect g (suc i) n ≡ collect h (suc i) n → m < length (collect g (suc i) n)
        → g (suc i + m) ≡ h (suc i + m))
        → m < suc (length (collect g (suc i) n)) → g (i + m) ≡ h (i + m)
    both zero q f t =
        (let z : i + 0 ≡ i = omega arith in rw z (decode_one (g i) (h i) (ap (λ (x : List Place). second x (decode (g i))) q)))
    both (suc m) q f t = (let z : i + suc m ≡ suc i + m = omega arith in rw z (f m (ap rest q) (omega arith)))

pub one_words : (ws vs : List ℕ) → IsWords ws → IsWords vs → places_of ws ≡ places_of vs → ws ≡ vs
one_words ws vs w v e =
    ext_get_or 0 ws vs (w.size ∙ sym v.size) (λ j h.
    (let r = rows (j / 4) (omega (arith, w.size)) in
    word j (j / 4) (j % 4) r (omega arith) (omega arith)))
  where
    rows : (i : ℕ) → i < 256 → row_at ws i ≡ row_at vs i
    rows i h =
        less i (length (places_of ws))
        (λ l _. (let z : 0 + i ≡ i = omega arith in rw z at (rows_one (row_at ws) (row_at vs) 0 256 i e l)))
        (λ l _. w.zeros i l h ∙ sym (v.zeros i (omega (arith, ap length e)) h))

    word : (j i m : ℕ) → row_at ws i ≡ row_at vs i → j ≡ 4 * i + m → m < 4 → get_or ws j 0 ≡ get_or vs j 0
    word j i m r e' b =
        same m 0 (λ q _. (let z : j ≡ 4 * i = omega arith in rw z (ap (λ (x : Row). x.a) r)))
        (λ n0 _. same m 1 (λ q _. (let z : j ≡ 4 * i + 1 = omega arith in rw z (ap (λ (x : Row). x.w) r)))
        (λ n1 _. same m 2 (λ q _. (let z : j ≡ 4 * i + 2 = omega arith in rw z (ap (λ (x : Row). x.x) r)))
        (λ n2 _. (let z : j ≡ 4 * i + 3 = omega arith in rw z (ap (λ (x : Row). x.k) r)))))
