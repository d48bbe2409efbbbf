-- The theorem for a list: looks that tell the list's entries, each with its best match, find the longest match. Assumes nothing.
use Rattle.std.specs.Prelude.{◌≡◌, refl, ◌≢◌, Bool, true, false, ◌||◌, List, [], ◌∷◌, ℕ, zero, suc, ◌+◌, ◌-◌, ◌/◌, ◌^◌, ◌≤◌}
use Rattle.std.specs.Prelude.{◌<◌, eqb}
use Rattle.std.proofs.Common.{sym, ap, ◌∙◌, arith, shr-shr, eq-eqb}
use Rattle.std.proofs.lemmas.Bool.{false≢true}
use Rattle.routes.specs.Route.{Route, key}
use Rattle.routes.specs.Room.{mem}
use Rattle.logic.specs.Cases.{same, less}
use Rattle.laws.specs.Sorted.{hop_skip}
use Rattle.laws.specs.Longest.{Wfs, key_at, along, last_same}
use Rattle.logic.specs.Bools.{or_left, or_right}
use Rattle.lengths.specs.Way.{turns, turns_at, code, best}
use Rattle.lengths.specs.Finds.{Marked}
use Rattle.listing.specs.Heads.{picks, picks_more}
use Rattle.lengths.specs.Marks.{held_at, is_entry, entries, best_at}
use Rattle.lengths.specs.Entries.{key_other}

-- the first x bits of the first L
head_head : (a x L : ℕ) → x ≤ L → L ≤ 32 → a / 2 ^ (32 - L) / 2 ^ (L - x) ≡ a / 2 ^ (32 - x)
head_head a x L h w = let e : (32 - L) + (L - x) ≡ 32 - x = omega arith in rw (← e) (shr-shr a (32 - L) (L - x))

-- a held prefix of the address has its head among those picked
pick-held : (P : ℕ → Bool) (x L a : ℕ) (rs : List Route) → Wfs 32 rs → x ≤ L → L ≤ 32 → P L ≡ true
    → held_at rs L (a / 2 ^ (32 - L)) ≢ 0 → mem (a / 2 ^ (32 - x)) (picks P x rs) ≡ true
pick-held P x L a [] w h k p n = absurd (n refl)
pick-held P x L a (r ∷ rs) w h k p n =
    same (key r) (key_at 32 a L)
    (λ q _. (let o = key_other L (a / 2 ^ (32 - L)) r k w.0 q in
    let e : r.addr / 2 ^ (32 - x) ≡ a / 2 ^ (32 - x) = sym (head_head r.addr x L h k) ∙ ap (λ (z : ℕ). z / 2 ^ (L - x)) o.1
    ∙ head_head a x L h k in
    rw (o.0, p) (or_left (eqb (r.addr / 2 ^ (32 - x)) (a / 2 ^ (32 - x))) (mem (a / 2 ^ (32 - x)) (picks P x rs))
    (eq-eqb _ _ e))))
    (λ q _. picks_more P x (a / 2 ^ (32 - x)) r rs (pick-held P x L a rs w.1 h k p
    (λ z. n (hop_skip r rs (key_at 32 a L) q ∙ z))))

pub turn_below : (n m L x : ℕ) → mem x (turns n m L) ≡ true → x < L
unfolding turns
turn_below zero m L x e = less m L (λ h d. one m x h (rw d at e)) (λ h d. absurd (false≢true (rw d at e)))
  where
    one : (m x : ℕ) → m < L → (eqb m x || false) ≡ true → x < L
    one m x h e = same m x (λ q _. omega arith) (λ q d. absurd (false≢true (rw d at e)))
turn_below (suc n) m L x e =
    less m L
    (λ h d. same m x (λ q _. omega arith) (λ q t. turn_below n (m + 2 ^ n) L x (rw (d, t) at e)))
    (λ h d. less L m (λ k t. turn_below n (m - 2 ^ n) L x (rw (d, t) at e)) (λ k t. absurd (false≢true (rw (d, t) at e))))

pub best_same : (g h : ℕ → ℕ) (n : ℕ) → ((l : ℕ) → l ≤ n → g l ≡ h l) → best g n ≡ best h n
best_same g h n e = ap code (last_same g h n e)

module _ (rs : List Route) (w : Wfs 32 rs) (a : ℕ) where
  abbrev pub g : ℕ → ℕ
  g = along 32 a (omega arith) rs

  abbrev pub E : ℕ → Bool
  E m = mem (a / 2 ^ (32 - m)) (entries m rs)

  pub best_along : (m : ℕ) → m ≤ 32 → best_at rs m (a / 2 ^ (32 - m)) ≡ best g m
  best_along m h = best_same (λ l. held_at rs l (a / 2 ^ (32 - m) / 2 ^ (m - l))) g m
      (λ l k. ap (held_at rs l) (head_head a l m k h))

  pub marked : Marked E g
  marked = record {
    own = λ L h k n. pick-held (is_entry L) L L a rs w (omega arith) k (or_left (eqb L L) (turns_at L L) (eq-eqb L L refl)) n;
    way = λ L x h k n t. (let b = turn_below 4 16 L x t in
        pick-held (is_entry x) x L a rs w (omega arith) k (or_right (eqb L x) (turns_at x L) t) n);
  }
