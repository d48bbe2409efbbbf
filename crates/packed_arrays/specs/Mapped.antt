-- The places and masks of the arrays, by their numbers: a word for each, entries before it * 256 + mask. Assumes nothing.
--
--     array     1          2          4                      map 1    map 2     map 4
--     mask      255        12         0                      255      256 * 256 + 12      260 * 256
--     before    0          256        260
use Rattle.std.specs.Prelude.{◌≡◌, refl, cond, List, ℕ, zero, suc, ◌+◌, ◌-◌, ◌*◌, ◌/◌, ◌%◌, ◌^◌, ◌≤◌, ◌<◌, eqb, length, get_or}
use Rattle.std.specs.Prelude.{set, Option, Some, None}
use Rattle.std.proofs.Common.{sym, ap, ◌∙◌, arith, length-set, get_or-set_same, get_or-set_other, pow_mono}
use Rattle.std.specs.Int.Count.{ones}
use Rattle.std.proofs.lemmas.Nat.{ones-le}
use Rattle.logic.specs.Cases.{same}
use Rattle.logic.specs.Nonzero.{nonzero}
use Rattle.tree.specs.Arrays.{Arrays}
use Rattle.packed.specs.Layout.{header_words, entry_words}
use Rattle.packed.specs.Laid.{mask_at, entries_to, entries_end, place_below, mask_below, mask_fit}

-- the words of the map: array 0 has one too
abbrev pub map_words : ℕ
map_words = 4097

-- a number that may be none: 0 where there is none
abbrev pub or_zero : Option ℕ → ℕ
or_zero (Some s) = s
or_zero None = 0

pub zero_back : (o : Option ℕ) (n : ℕ) → o ≡ nonzero n → or_zero o ≡ n
zero_back o n e = rw e (same n 0 (λ z d. rw (d, z)) (λ z d. rw d))

-- what it says of array b, nothing of 0
abbrev pub place_in : List ℕ → ℕ → ℕ
place_in map b = cond (eqb b 0) 0 (header_words + entry_words * (get_or map b 0 / 256))

abbrev pub mask_in : List ℕ → ℕ → ℕ
mask_in map b = cond (eqb b 0) 0 (get_or map b 0 % 256)

-- it is right for the arrays 1 .. n
pub record Mapped (t : Arrays) (map : List ℕ) (n : ℕ) : Type 0 where
  pub size : length map ≡ map_words
  pub each : (b : ℕ) → 1 ≤ b → b ≤ n → 1 ≤ t.tag b → get_or map b 0 ≡ entries_to t (b - 1) * 256 + mask_at t b

module _ (t : Arrays) (map : List ℕ) (n : ℕ) (p : Mapped t map n) where
  pub mapped-place : (b : ℕ) → b ≤ n → (1 ≤ b → 1 ≤ t.tag b) → place_in map b ≡ place_below t b
  mapped-place b h u =
      same b 0 (λ q e. rw e) (λ z e.
      let w = p.each b (omega arith) h (u (omega arith)) in
      let m = mask_fit t b in
      let d : get_or map b 0 / 256 ≡ entries_to t (b - 1) = omega arith in
      rw (e, d))

  pub mapped_mask : (b : ℕ) → b ≤ n → (1 ≤ b → 1 ≤ t.tag b) → mask_in map b ≡ mask_below t b
  mapped_mask b h u =
      same b 0 (λ q e. rw e) (λ z e.
      let w = p.each b (omega arith) h (u (omega arith)) in
      let m = mask_fit t b in
      let d : get_or map b 0 % 256 ≡ mask_at t b = omega arith in
      rw (e, d))

-- ---- in a loop, before array a

-- an array has at most 256 entries
pub few : (t : Arrays) (a : ℕ) → 2 ^ ones (mask_at t a) ≤ 256
few t a = pow_mono {i = ones (mask_at t a)} {j = 8} (ones-le 8 (mask_at t a) (mask_fit t a))

pub record Maps (t : Arrays) (map : List ℕ) (a n : ℕ) : Type 0 where
  pub before : n ≡ entries_to t (a - 1)
  pub most : n ≤ 256 * (a - 1)
  pub right : Mapped t map (a - 1)

pub maps_none : (t : Arrays) (map : List ℕ) → length map ≡ map_words → Maps t map 1 0
unfolding entries_to
maps_none t map e = record {
  before = refl;
  most = omega arith;
  right = record { size = e; each = λ b h l u. absurd (omega arith) };
}

-- an array that is free has none
pub entries_free : (t : Arrays) (a : ℕ) → 1 ≤ a → t.tag a ≡ 0 → entries_to t a ≡ entries_to t (a - 1)
unfolding entries_to
entries_free t zero h z = absurd (omega arith)
entries_free t (suc n) h z = let e : suc n - 1 ≡ n = omega arith in rw (e, z) (omega arith)

module _ (t : Arrays) (map : List ℕ) (a n : ℕ) (low : 1 ≤ a) (p : Maps t map a n) where
  pub maps_free : t.tag a ≡ 0 → Maps t map (a + 1) n
  maps_free z =
      let e : a + 1 - 1 ≡ a = omega arith in
      record {
        before = p.before ∙ sym (ap (entries_to t) e ∙ entries_free t a low z);
        most = omega (arith, p.most);
        right = record {
          size = p.right.size;
          each = λ b h l u. same b a
              (λ q _. absurd (omega (arith, ap t.tag q)))
              (λ k _. p.right.each b h (omega arith) u);
        };
      }

  pub maps_used : (m k : ℕ) → a < map_words → 1 ≤ t.tag a → m ≡ mask_at t a → k ≡ 2 ^ ones m
      → Maps t (set map a (n * 256 + m)) (a + 1) (n + k)
  maps_used m k h u e q =
      let d : a + 1 - 1 ≡ a = omega arith in
      let f : k ≡ 2 ^ ones (mask_at t a) = q ∙ ap (λ (x : ℕ). 2 ^ ones x) e in
      record {
        before = rw (d, ← entries_end t a low u) (ap (λ (x : ℕ). x + k) p.before ∙ ap (λ (x : ℕ). entries_to t (a - 1) + x) f);
        most = omega (arith, p.most, few t a);
        right = record {
          size = length-set map a (n * 256 + m) ∙ p.right.size;
          each = λ b g l v. same b a
              (λ z _. rw (z, get_or-set_same map a (n * 256 + m) 0 (omega (arith, p.right.size)), ← p.before, e))
              (λ z _. get_or-set_other map a b (n * 256 + m) 0 z ∙ p.right.each b g (omega arith) v);
        };
      }
