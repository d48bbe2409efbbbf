-- How many entries a length has: its routes, and the markers that are no routes. So the entries of all lengths, with the default
-- route, number the routes and the markers. Assumes nothing.
use Rattle.std.specs.Prelude.{◌≡◌, refl, Bool, true, false, cond, not, ◌&&◌, ◌||◌, List, [], ◌∷◌, ◌++◌, ℕ, zero, suc, ◌+◌, ◌-◌}
use Rattle.std.specs.Prelude.{◌*◌, ◌/◌, ◌^◌, ◌≤◌, ◌<◌, length, eqb}
use Rattle.std.proofs.Common.{sym, ap, ◌∙◌, mul-div_cancel, arith, pow_pos, eq-eqb, ne_eqb}
use Rattle.routes.specs.Route.{Route, key, From, Wf}
use Rattle.routes.specs.Room.{mem, distinct}
use Rattle.logic.specs.Cases.{bool, same}
use Rattle.laws.specs.Sorted.{hop_head, hop_skip, hop_below}
use Rattle.laws.specs.Longest.{Wfs, whole}
use Rattle.logic.specs.Bools.{or_left, or_right, or_assoc, or_swap}
use Rattle.listing.specs.Heads.{picks}
use Rattle.lengths.specs.Marks.{held_at, unheld, entries}

-- ---- membership

pub mem-append : (z : ℕ) (xs ys : List ℕ) → mem z (xs ++ ys) ≡ (mem z xs || mem z ys)
mem-append z [] ys = refl
mem-append z (x ∷ xs) ys = bool (eqb x z) (λ e. rw e) (λ e. rw (e, mem-append z xs ys))

pub distinct_append : (xs ys : List ℕ) → ((z : ℕ) → mem z xs ≡ true → mem z ys ≡ false)
    → distinct (xs ++ ys) ≡ distinct xs + distinct ys
distinct_append [] ys d = omega arith
distinct_append (x ∷ xs) ys d =
    let ih = distinct_append xs ys (λ z e. d z (or_right (eqb x z) (mem z xs) e)) in
    rw (mem-append x xs ys, d x (or_left (eqb x x) (mem x xs) (eq-eqb x x refl)))
    (bool (mem x xs) (λ e. rw (e, ih)) (λ e. rw (e, ih) (omega arith)))

pub mem-unheld : (rs : List Route) (m z : ℕ) (vs : List ℕ) → mem z (unheld rs m vs) ≡ (mem z vs && eqb (held_at rs m z) 0)
mem-unheld rs m z [] = refl
mem-unheld rs m z (v ∷ vs) =
    let ih = mem-unheld rs m z vs in
    same v z
    (λ q e. bool (eqb (held_at rs m v) 0)
    (λ d. rw (d, e, ← q, d))
    (λ d. rw (d, e, ih, ← q, d) (none (mem v vs))))
    (λ n e. bool (eqb (held_at rs m v) 0) (λ d. rw (d, e, ih)) (λ d. rw (d, e, ih)))
  where
    none : (b : Bool) → (b && false) ≡ false
    none true = refl
    none false = refl

pub mem_either : (P Q : ℕ → Bool) (m z : ℕ) (rs : List Route)
    → mem z (picks (λ l. P l || Q l) m rs) ≡ (mem z (picks P m rs) || mem z (picks Q m rs))
mem_either P Q m z [] = refl
mem_either P Q m z (r ∷ rs) =
    let ih = mem_either P Q m z rs in
    bool (P r.len)
    (λ p. bool (Q r.len)
    (λ q. rw (p, q, ih) (both (eqb (r.addr / 2 ^ (32 - m)) z) (mem z (picks P m rs)) (mem z (picks Q m rs))))
    (λ q. rw (p, q, ih) (sym (or_assoc (eqb (r.addr / 2 ^ (32 - m)) z) (mem z (picks P m rs)) (mem z (picks Q m rs))))))
    (λ p. bool (Q r.len)
    (λ q. rw (p, q, ih) (or_swap (eqb (r.addr / 2 ^ (32 - m)) z) (mem z (picks P m rs)) (mem z (picks Q m rs))))
    (λ q. rw (p, q, ih)))
  where
    both : (a b c : Bool) → (a || (b || c)) ≡ ((a || b) || (a || c))
    both true b c = refl
    both false b c = refl

-- ---- the routes of a length

abbrev pub own : ℕ → List Route → List ℕ
own m rs = picks (λ l. eqb l m) m rs

abbrev pub tally : ℕ → List Route → ℕ
tally m [] = 0
tally m (r ∷ rs) = cond (eqb r.len m) (suc (tally m rs)) (tally m rs)

-- a route of m bits stands at the key of its first m bits
pub key-own : (m : ℕ) (r : Route) → Wf 32 r → r.len ≡ m → r.addr / 2 ^ (32 - m) * 2 ^ (32 - m) * 256 + m ≡ key r
key-own m r w e = rw (← e, whole 32 r w)

-- and at no other key of m bits
pub key_other : (m z : ℕ) (r : Route) → m ≤ 32 → Wf 32 r → key r ≡ z * 2 ^ (32 - m) * 256 + m
    → (r.len ≡ m) × (r.addr / 2 ^ (32 - m) ≡ z)
key_other m z r h w e =
    let l : r.len ≡ m = omega (arith, w.fits) in
    let a : r.addr ≡ z * 2 ^ (32 - m) = omega (arith, w.fits) in
    (l, rw a (mul-div_cancel z (pow_pos (32 - m))))

some_true : (h : ℕ) → 1 ≤ h → true ≡ not (eqb h 0)
some_true h p = rw (ne_eqb h 0 (λ e. omega arith))

pub own_held : (m z : ℕ) (rs : List Route) → m ≤ 32 → Wfs 32 rs → mem z (own m rs) ≡ not (eqb (held_at rs m z) 0)
own_held m z [] h w = refl
own_held m z (r ∷ rs) h w =
    let ih = own_held m z rs h w.1 in
    let k : ℕ = z * 2 ^ (32 - m) * 256 + m in
    same r.len m
    (λ l d. same (r.addr / 2 ^ (32 - m)) z
    (λ q e. rw (d, e, hop_head r rs k (sym (key-own m r w.0 l) ∙ rw q)) (some_true r.hop w.0.some))
    (λ n e. rw (d, e, hop_skip r rs k (λ q. n (key_other m z r h w.0 q).1)) ih))
    (λ l d. rw (d, hop_skip r rs k (λ q. l (key_other m z r h w.0 q).0)) ih)

pub own-distinct : (m lo : ℕ) (rs : List Route) → m ≤ 32 → From lo rs → Wfs 32 rs → distinct (own m rs) ≡ tally m rs
own-distinct m lo [] h f w = refl
own-distinct m lo (r ∷ rs) h f w =
    let ih = own-distinct m (suc (key r)) rs h f.1 w.1 in
    same r.len m
    (λ l d. (let z : mem (r.addr / 2 ^ (32 - m)) (own m rs) ≡ false = own_held m (r.addr / 2 ^ (32 - m)) rs h w.1
    ∙ rw (key-own m r w.0 l, hop_below (suc (key r)) (key r) rs f.1 (omega arith)) in
    rw (d, z, ih)))
    (λ l d. rw (d, ih))

-- ---- the entries of a length

-- ---- of all lengths

unfoldable pub entries_to : ℕ → List Route → ℕ
entries_to zero rs = 0
entries_to (suc m) rs = entries_to m rs + distinct (entries (suc m) rs)

unfoldable pub tally_to : ℕ → List Route → ℕ
tally_to zero rs = tally 0 rs
tally_to (suc m) rs = tally_to m rs + tally (suc m) rs

-- a route counts from its own length on
tally_out : (m : ℕ) (r : Route) (rs : List Route) → m < r.len → tally_to m (r ∷ rs) ≡ tally_to m rs
unfolding tally_to
tally_out zero r rs h = rw (ne_eqb r.len 0 (λ e. omega arith))
tally_out (suc m) r rs h = rw (ne_eqb r.len (suc m) (λ e. omega arith), tally_out m r rs (omega arith))

tally_in : (m : ℕ) (r : Route) (rs : List Route) → r.len ≤ m → tally_to m (r ∷ rs) ≡ suc (tally_to m rs)
unfolding tally_to
tally_in zero r rs h = rw (eq-eqb r.len 0 (omega arith))
tally_in (suc m) r rs h =
    same r.len (suc m)
    (λ q e. rw (e, tally_out m r rs (omega arith)) (omega arith))
    (λ q e. rw (e, tally_in m r rs (omega arith)) (omega arith))

tally_none : (m : ℕ) → tally_to m [] ≡ 0
unfolding tally_to
tally_none zero = refl
tally_none (suc m) = rw (tally_none m)

pub tally-length : (rs : List Route) → Wfs 32 rs → tally_to 32 rs ≡ length rs
tally-length [] w = tally_none 32
tally-length (r ∷ rs) w = tally_in 32 r rs w.0.fits ∙ ap suc (tally-length rs w.1)
