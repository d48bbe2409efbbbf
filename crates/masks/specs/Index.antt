-- The index of a byte under a mask: its bits at the set bits of the mask, as a number; and back. Assumes nothing.
--
--     mask 00110000    byte 01111000    index 11 = 3         index 3 put back under the mask: 00110000
use Rattle.std.specs.Prelude.{◌≡◌, refl, true, cond, ℕ, zero, suc, ◌+◌, ◌*◌, ◌/◌, ◌%◌, ◌^◌, ◌<◌, eqb}
use Rattle.std.proofs.Common.{sym, ◌∙◌, arith, pow_pos, eqb-true}
use Rattle.std.proofs.Math.Nat.{pow-succ'}
use Rattle.std.proofs.Math.Arith.{lt-one}
use Rattle.std.specs.Int.Bits.{bit_and, and_step}
use Rattle.std.specs.Int.Count.{ones, ones_step}
use Rattle.std.proofs.lemmas.Nat.{ones-le}
use Rattle.logic.specs.Cases.{same}
use Rattle.logic.specs.Every.{all_b}
use Rattle.logic.specs.Reflects.{all_to_lem}

-- one bit more at the low end, if the mask has it
abbrev pub joined : ℕ → ℕ → ℕ → ℕ
joined r m y = cond (eqb (m % 2) 0) r (r * 2 + y % 2)

-- of k bits
unfoldable pub gather : ℕ → ℕ → ℕ → ℕ
gather zero m y = 0
gather (suc k) m y = joined (gather k (m / 2) (y / 2)) m y

abbrev pub index : ℕ → ℕ → ℕ
index m y = gather 8 m y

-- the byte that has the bits of v at the set bits of the mask, and 0 elsewhere
unfoldable pub scatter : ℕ → ℕ → ℕ → ℕ
scatter zero m v = 0
scatter (suc k) m v = cond (eqb (m % 2) 0) (scatter k (m / 2) v * 2) (scatter k (m / 2) (v / 2) * 2 + v % 2)

-- ---- by cases on the mask's lowest bit

pub half_lt : (k m : ℕ) → m < 2 ^ suc k → m / 2 < 2 ^ k
half_lt k m h = omega (arith, pow-succ' 2 k)

pub ones_even : (m : ℕ) → m % 2 ≡ 0 → ones m ≡ ones (m / 2)
ones_even m q = ones_step m ∙ rw q (omega arith)

pub ones_odd : (m : ℕ) → m % 2 ≡ 1 → ones m ≡ suc (ones (m / 2))
ones_odd m q = let s = ones_step m in omega arith

-- ---- its range

-- below 2 to the number of set bits
pub gather_lt : (k m y : ℕ) → m < 2 ^ k → gather k m y < 2 ^ ones m
unfolding gather
gather_lt zero m y h = pow_pos (ones m)
gather_lt (suc k) m y h =
    let r = gather_lt k (m / 2) (y / 2) (half_lt k m h) in
    same (m % 2) 0
    (λ q e. rw (e, ones_even m q) r)
    (λ q e. rw (e, ones_odd m (omega arith)) (omega (arith, r, pow-succ' 2 (ones (m / 2)))))

-- ---- two bytes have one index exactly where they agree on the mask

pub index_from : (k m y z : ℕ) → bit_and m y ≡ bit_and m z → gather k m y ≡ gather k m z
unfolding gather
index_from zero m y z e = refl
index_from (suc k) m y z e =
    let s = and_step m y in
    let t = and_step m z in
    let w = index_from k (m / 2) (y / 2) (z / 2) (omega arith) in
    same (m % 2) 0 (λ q f. rw (f, w)) (λ q f. let c : y % 2 ≡ z % 2 = omega arith in rw (f, w, c))

pub index_to : (k m y z : ℕ) → m < 2 ^ k → gather k m y ≡ gather k m z → bit_and m y ≡ bit_and m z
unfolding gather
index_to zero m y z h e = rw (lt-one h)
index_to (suc k) m y z h e =
    same (m % 2) 0
    (λ q f.
    let w = index_to k (m / 2) (y / 2) (z / 2) (half_lt k m h) (rw f at e) in
    and_step m y ∙ rw (w, q) (omega (arith, and_step m z)))
    (λ q f.
    let g : gather k (m / 2) (y / 2) * 2 + y % 2 ≡ gather k (m / 2) (z / 2) * 2 + z % 2 = rw f at e in
    let w = index_to k (m / 2) (y / 2) (z / 2) (half_lt k m h) (omega arith) in
    let c : y % 2 ≡ z % 2 = omega arith in
    and_step m y ∙ rw (w, c) (sym (and_step m z)))

-- ---- a byte of each index

pub scatter_lt : (k m v : ℕ) → scatter k m v < 2 ^ k
unfolding scatter
scatter_lt zero m v = omega arith
scatter_lt (suc k) m v =
    same (m % 2) 0
    (λ q e. rw e (omega (arith, scatter_lt k (m / 2) v, pow-succ' 2 k)))
    (λ q e. rw e (omega (arith, scatter_lt k (m / 2) (v / 2), pow-succ' 2 k)))

pub gather-scatter : (k m v : ℕ) → m < 2 ^ k → v < 2 ^ ones m → gather k m (scatter k m v) ≡ v
unfolding gather scatter
gather-scatter zero m v h l =
    let o : ones m ≡ 0 = omega (arith, ones-le 0 m h) in
    let z : v < 2 ^ 0 = rw o at l in
    omega arith
gather-scatter (suc k) m v h l =
    same (m % 2) 0
    (λ q e.
    let b : scatter k (m / 2) v * 2 / 2 ≡ scatter k (m / 2) v = omega arith in
    rw (e, b) (gather-scatter k (m / 2) v (half_lt k m h) (rw (ones_even m q) at l)))
    (λ q e.
    let s = scatter k (m / 2) (v / 2) in
    let b : (s * 2 + v % 2) / 2 ≡ s = omega arith in
    let c : (s * 2 + v % 2) % 2 ≡ v % 2 = omega arith in
    let z : v < 2 ^ suc (ones (m / 2)) = rw (ones_odd m (omega arith)) at l in
    let i = gather-scatter k (m / 2) (v / 2) (half_lt k m h) (omega (arith, pow-succ' 2 (ones (m / 2)))) in
    rw (e, b, c, i) (omega arith))

-- ---- under the mask of all bits a byte is its own index

wholes : all_b (λ y. eqb (index 255 y) y) 256 ≡ true
unfolding all_b gather
wholes = refl

pub index-full : (y : ℕ) → y < 256 → index 255 y ≡ y
index-full y h = eqb-true (index 255 y) y (all_to_lem (λ y. eqb (index 255 y) y) 256 wholes y h)
