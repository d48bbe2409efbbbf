-- The block of an address is 8 bits for each level above the array where its walk ends, and the block of its cell there. Assumes
-- nothing.
--
--     first 8 * k bits      first d bits of byte k
--     ──▶ the array a ──────┬── no longer slot in a below these, no link: nothing longer is held
--                           └── with one bit less there is one, so something longer is held
use Rattle.std.specs.Prelude.{◌≡◌, List, ℕ, suc, ◌+◌, ◌-◌, ◌*◌, ◌/◌, ◌^◌, ◌≤◌, ◌<◌}
use Rattle.std.proofs.Common.{sym, ap, ◌∙◌, mul-div_cancel, le_antisymm, arith, pow_pos, shr-shr, shr_lt, shl_lt}
use Rattle.routes.specs.Route.{Route}
use Rattle.routes.specs.Collect.{routes}
use Rattle.routes.specs.Block.{Share, block}
use Rattle.logic.specs.Cases.{same, most}
use Rattle.laws.specs.Heads.{Below}
use Rattle.laws.specs.Uniform.{share_less}
use Rattle.laws.specs.Quiet.{Quiet, quiet_more, block_quiet, quiet_block}
use Rattle.numbers.specs.Powers.{cut}
use Rattle.numbers.specs.Front.{front, byte_of, front_lt}
use Rattle.calm.specs.Calm.{Calm, Block}
use Rattle.tree.specs.Arrays.{Arrays, node, held}
use Rattle.tree.specs.Tree.{pow8}
use Rattle.tree.specs.Need.{node_child, below}
use Rattle.words.specs.Words.{arrays_of, array_count}
use Rattle.words.specs.TableBut.{Table}
use Rattle.lookup.specs.Path.{bits, slot_held, along_slot, nothing_longer}

-- the winning hops of a table as a route list
abbrev pub won_of : ℕ → List ℕ → List Route
won_of L ws = routes (8 * L) (held (arrays_of ws))

-- ---- quiet, said of the prefixes below the first q bits

module _ (W : ℕ) (f : ℕ → ℕ → ℕ) (x q : ℕ) (quiet : Quiet W f x q) where
  quiet_at : (v l : ℕ) → v < 2 ^ l → q < l → l ≤ W → v / 2 ^ (l - q) ≡ x / 2 ^ (W - q) → f v l ≡ 0
  quiet_at v l small h w s =
      let y = v * 2 ^ (W - l) in
      let m : l + (W - l) ≡ W = omega arith in
      let e : W - q ≡ W - l + (l - q) = omega arith in
      let c = mul-div_cancel v (pow_pos (W - l)) in
      let u : y / 2 ^ (W - q) ≡ v / 2 ^ (l - q) = ap (λ (n : ℕ). y / 2 ^ n) e ∙ sym (shr-shr y (W - l) (l - q))
      ∙ ap (λ (n : ℕ). n / 2 ^ (l - q)) c in
      rw c at (quiet y (rw m at (shl_lt l (W - l) small)) (u ∙ s) l h w)

  -- so nothing is held below a prefix of n bits that has these
  quiet_below : (n z : ℕ) → q ≤ n → z / 2 ^ (n - q) ≡ x / 2 ^ (W - q) → Below W n z f → ⊥
  quiet_below n z h s b =
      let l = b.l in
      let v = b.v in
      let e : l - q ≡ l - n + (n - q) = omega (arith, b.long) in
      let u : v / 2 ^ (l - q) ≡ z / 2 ^ (n - q) = ap (λ (y : ℕ). v / 2 ^ y) e ∙ sym (shr-shr v (l - n) (n - q))
      ∙ ap (λ (y : ℕ). y / 2 ^ (n - q)) b.head in
      omega (arith, b.held, quiet_at v l b.small (omega (arith, b.long)) b.fits (u ∙ s))

-- ---- the array a of level k on the path of x, n levels above the last, and the cell of x there

module _ (L : ℕ) (ws : List ℕ) (o : Table L ws) (x : ℕ) (small : x < 2 ^ (8 * L)) (k n : ℕ) (p : k + suc n ≡ L)
    (there : 1 ≤ node (arrays_of ws) (front L x k) k) where
  abbrev t : Arrays
  t = arrays_of ws

  abbrev v : ℕ
  v = front L x k

  abbrev a : ℕ
  a = node t v k

  abbrev i : ℕ
  i = byte_of L x k

  top : k < L
  top = omega arith

  front-small : v < 2 ^ (8 * k)
  front-small = front_lt L x k (omega arith) small

  -- an address that shares the first 8 * k + d bits: the array is the same, and the cell is below the same slot
  share_front : (y d : ℕ) → Share (8 * L) (8 * k + d) x y → front L y k ≡ v
  share_front y d s = share_less (8 * L) (8 * k + d) (8 * k) x y (omega arith) s

  share_cell : (y e d : ℕ) → e + d ≡ 8 → Share (8 * L) (8 * k + d) x y → byte_of L y k / 2 ^ e ≡ i / 2 ^ e
  share_cell y e d q s =
      let h = share_front y d s in
      let z : front L y k * 2 ^ d + byte_of L y k / 2 ^ e ≡ v * 2 ^ d + i / 2 ^ e = sym (bits L y k e d top q) ∙ s
      ∙ bits L x k e d top q in
      omega (arith, rw h at z)

  pub calm_quiet : (e d : ℕ) → e + d ≡ 8 → Calm (t.slot a) (t.link a) i e → Quiet (8 * L) (held t) x (8 * k + d)
  calm_quiet e d q z y b s l u w =
      let h = share_front y d s in
      let c = z (byte_of L y k) (omega arith) (share_cell y e d q s) in
      let r : 1 ≤ node t (front L y k) k = rw h there in
      most l (8 * k + 8)
      (λ v _.
      let m : 8 * k + (l - 8 * k) ≡ l = omega arith in
      let f : 8 * k + 8 - l + (l - 8 * k) ≡ 8 = omega arith in
      (rw m at (along_slot L t y k top r (l - 8 * k) (8 * k + 8 - l) f (omega arith)))
      ∙ rw h (c.1 (8 * k + 8 - l) (omega arith)))
      (λ v _. nothing_longer L t y k top r (array_count ws) o.shape b (rw h c.0) l (omega arith) w)

  -- the bits of x, with those of a cell below the same slot behind them
  cell_bits : (j e d : ℕ) → e + d ≡ 8 → j / 2 ^ e ≡ i / 2 ^ e → (v * 256 + j) / 2 ^ e ≡ x / 2 ^ (8 * L - (8 * k + d))
  cell_bits j e d q s = cut v j d e (omega arith) ∙ ap (λ (y : ℕ). v * 2 ^ d + y) s ∙ sym (bits L x k e d top q)

  pub quiet_calm : (e d : ℕ) → e + d ≡ 8 → Quiet (8 * L) (held t) x (8 * k + d) → Calm (t.slot a) (t.link a) i e
  quiet_calm e d q z j b s = (same (t.link a j) 0 (λ y _. y) (λ y _. absurd (linked (omega arith))), slots)
    where
      same_bits : (v * 256 + j) / 2 ^ e ≡ x / 2 ^ (8 * L - (8 * k + d))
      same_bits = cell_bits j e d q s

      -- what hangs below a cell holds something
      linked : 1 ≤ t.link a j → ⊥
      linked h =
          let f : 8 * suc k - (8 * k + d) ≡ e = omega arith in
          quiet_below (8 * L) (held t) x (8 * k + d) z (8 * suc k) (v * 256 + j) (omega arith) (rw f same_bits)
          (below (array_count ws) L t o.shape o.filled n (suc k) (v * 256 + j) (omega arith) (omega arith)
          (rw (node_child t v k j b there) h) (omega (arith, pow8 k, front-small)))

      slots : (c : ℕ) → c < e → t.slot a ((256 + j) / 2 ^ c) ≡ 0
      slots c h =
          let f : c + (8 - c) ≡ 8 = omega arith in
          let g : 8 * k + (8 - c) - (8 * k + d) ≡ e - c = omega arith in
          let m : c + (e - c) ≡ e = omega arith in
          let w = v * 2 ^ (8 - c) + j / 2 ^ c in
          let u : (v * 256 + j) / 2 ^ c ≡ w = cut v j (8 - c) c (omega arith) in
          let y : w / 2 ^ (e - c) ≡ x / 2 ^ (8 * L - (8 * k + d)) = rw (← u, shr-shr (v * 256 + j) c (e - c), m) same_bits in
          let l : v * 256 + j < 2 ^ (8 * suc k) = omega (arith, pow8 k, front-small) in
          let r : 8 * k + (8 - c) + c ≡ 8 * suc k = omega arith in
          let fits : w < 2 ^ (8 * k + (8 - c)) = rw (← u) (shr_lt (8 * k + (8 - c)) c (rw r l)) in
          sym (slot_held t v k j c (8 - c) there b f (omega arith))
          ∙ quiet_at (8 * L) (held t) x (8 * k + d) z w (8 * k + (8 - c)) fits (omega arith) (omega arith) (rw g y)

  -- an array below the root has a slot or a link of its own
  pub never_calm : 1 ≤ k → Calm (t.slot a) (t.link a) i 8 → ⊥
  never_calm h z =
      let e : 8 * k - (8 * k + 0) ≡ 0 = omega arith in
      let f : 8 * L - (8 * k + 0) ≡ 8 * L - 8 * k = omega arith in
      quiet_below (8 * L) (held t) x (8 * k + 0) (calm_quiet 8 0 (omega arith) z) (8 * k) v (omega arith)
      (rw (e, f) (omega arith))
      (below (array_count ws) L t o.shape o.filled (suc n) k v h p there front-small)

  -- ---- the block of the address

  pub block_at : (d : ℕ) → Block (t.slot a) (t.link a) i d → block (8 * L) (won_of L ws) x ≡ 8 * k + d
  block_at d c = le_antisymm upper lower
    where
      wide : 8 * L < 256
      wide = omega (arith, o.shape.levels)

      upper : block (8 * L) (won_of L ws) x ≤ 8 * k + d
      upper =
          let e : 8 - d + d ≡ 8 = omega (arith, c.fits) in
          quiet_block (8 * L) (held t) x (8 * k + d) wide small (omega (arith, c.fits)) (calm_quiet (8 - d) d e c.calm)

      -- with fewer bits it is not quiet
      none : (q : ℕ) → q < 8 * k + d → Quiet (8 * L) (held t) x q → ⊥
      none q h z =
          most (8 * k) q
          (λ l _.
          let e : 8 * k + (q - 8 * k) ≡ q = omega arith in
          c.least (q - 8 * k) (omega arith)
          (quiet_calm (8 - (q - 8 * k)) (q - 8 * k) (omega (arith, c.fits)) (rw e z)))
          (λ l _. never_calm (omega arith)
          (quiet_calm 8 0 (omega arith) (quiet_more (8 * L) (held t) x q (8 * k + 0) (omega arith) z)))

      lower : 8 * k + d ≤ block (8 * L) (won_of L ws) x
      lower =
          let q = block (8 * L) (won_of L ws) x in
          most (8 * k + d) q (λ l _. l)
          (λ l _. absurd (none q l (block_quiet (8 * L) (held t) x q wide small (omega (arith, upper, c.fits)) (omega arith))))
