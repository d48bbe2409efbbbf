-- The lengths at which a search looks: at most six, and what it finds hangs on these alone. Assumes nothing.
use Rattle.std.specs.Prelude.{◌≡◌, refl, Bool, true, false, cond, List, [], ◌∷◌, ℕ, zero, suc, ◌+◌, ◌-◌, ◌^◌, ◌≤◌, length, eqb}
use Rattle.std.proofs.Common.{arith, eq-eqb}
use Rattle.routes.specs.Room.{mem}
use Rattle.logic.specs.Cases.{bool}
use Rattle.logic.specs.Bools.{or_left, or_right}
use Rattle.lengths.specs.Way.{Look, miss, hit, outside, after, search}

-- after a look: what follows a miss, and what follows a hit
abbrev onward : Look → List ℕ → List ℕ → List ℕ
onward miss xs ys = xs
onward (hit b) xs ys = ys
onward outside xs ys = []

unfoldable pub trail : (ℕ → Look) → ℕ → ℕ → List ℕ
trail look zero m = m ∷ onward (look m) [] (cond (eqb m 31) (32 ∷ []) [])
trail look (suc n) m = m ∷ onward (look m) (trail look n (m - 2 ^ n)) (trail look n (m + 2 ^ n))

short : (l : Look) (xs ys : List ℕ) (k : ℕ) → length xs ≤ k → length ys ≤ k → length (onward l xs ys) ≤ k
short miss xs ys k a b = a
short (hit c) xs ys k a b = b
short outside xs ys k a b = omega arith

trail_short : (look : ℕ → Look) (n m : ℕ) → length (trail look n m) ≤ n + 2
unfolding trail
trail_short look zero m = let h = short (look m) [] (cond (eqb m 31) (32 ∷ []) []) 1 (omega arith) (one (eqb m 31)) in omega arith
  where
    one : (b : Bool) → length {A = ℕ} (cond b (32 ∷ []) []) ≤ 1
    one true = omega arith
    one false = omega arith
trail_short look (suc n) m =
    let h = short (look m) (trail look n (m - 2 ^ n)) (trail look n (m + 2 ^ n)) (n + 2) (trail_short look n (m - 2 ^ n))
    (trail_short look n (m + 2 ^ n)) in omega arith

-- at most six looks
pub six : (look : ℕ → Look) → length (trail look 4 16) ≤ 6
six look = trail_short look 4 16

-- other looks that agree there find the same
pub trail_same : (look other : ℕ → Look) (n m best : ℕ) → ((l : ℕ) → mem l (trail look n m) ≡ true → other l ≡ look l)
    → search other n m best ≡ search look n m best
unfolding search trail
trail_same look other zero m best e = go (look m) refl
    (e m (or_left (eqb m m) (mem m (onward (look m) [] (cond (eqb m 31) (32 ∷ []) []))) (eq-eqb m m refl)))
    (λ l q. e l (or_right (eqb m l) (mem l (onward (look m) [] (cond (eqb m 31) (32 ∷ []) []))) q))
  where
    go : (x : Look) → look m ≡ x → other m ≡ look m
        → ((l : ℕ) → mem l (onward (look m) [] (cond (eqb m 31) (32 ∷ []) [])) ≡ true → other l ≡ look l)
        → after (other m) (hit best) (λ b. cond (eqb m 31) (after (other 32) (hit b) (λ c. hit c)) (hit b))
        ≡ after (look m) (hit best) (λ b. cond (eqb m 31) (after (look 32) (hit b) (λ c. hit c)) (hit b))
    go miss q o f = rw (o, q)
    go outside q o f = rw (o, q)
    go (hit b) q o f = rw (o, q) (bool (eqb m 31) (λ d. rw (d, f 32 (rw (q, d)))) (λ d. rw d))
trail_same look other (suc n) m best e =
    let h = e m (or_left (eqb m m) (mem m (onward (look m) (trail look n (m - 2 ^ n)) (trail look n (m + 2 ^ n))))
    (eq-eqb m m refl)) in
    go (look m) refl h (λ l q. e l (or_right (eqb m l)
    (mem l (onward (look m) (trail look n (m - 2 ^ n)) (trail look n (m + 2 ^ n)))) q))
    (λ f. trail_same look other n (m - 2 ^ n) best f) (λ b f. trail_same look other n (m + 2 ^ n) b f)
  where
    go : (x : Look) → look m ≡ x → other m ≡ look m
        → ((l : ℕ) → mem l (onward (look m) (trail look n (m - 2 ^ n)) (trail look n (m + 2 ^ n))) ≡ true → other l ≡ look l)
        → (((l : ℕ) → mem l (trail look n (m - 2 ^ n)) ≡ true → other l ≡ look l)
        → search other n (m - 2 ^ n) best ≡ search look n (m - 2 ^ n) best)
        → ((b : ℕ) → ((l : ℕ) → mem l (trail look n (m + 2 ^ n)) ≡ true → other l ≡ look l)
        → search other n (m + 2 ^ n) b ≡ search look n (m + 2 ^ n) b)
        → after (other m) (search other n (m - 2 ^ n) best) (λ b. search other n (m + 2 ^ n) b)
        ≡ after (look m) (search look n (m - 2 ^ n) best) (λ b. search look n (m + 2 ^ n) b)
    go miss q o f u v = rw (o, q) (u (λ l z. f l (rw q z)))
    go outside q o f u v = rw (o, q)
    go (hit b) q o f u v = rw (o, q) (v b (λ l z. f l (rw q z)))
