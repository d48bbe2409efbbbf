-- Blocks that stay: what is settled depends on the slots, the links, and the blocks of cells without a link; and where nothing is
-- taken and linked, all blocks are 0. Assumes nothing.
use Rattle.std.specs.Prelude.{◌≡◌, ℕ, ◌+◌, ◌-◌, ◌/◌, ◌^◌, ◌≤◌, ◌<◌}
use Rattle.std.proofs.Common.{sym, ◌∙◌, arith}
use Rattle.logic.specs.Cases.{same}
use Rattle.calm.specs.Calm.{Calm, Settled}
use Rattle.calm.specs.Slotted.{slot_range}

calm_ext : (f g f' g' : ℕ → ℕ) → ((r : ℕ) → 1 ≤ r → r < 512 → f' r ≡ f r) → ((j : ℕ) → j < 256 → g' j ≡ g j)
    → (i e : ℕ) → e ≤ 8 → Calm f g i e → Calm f' g' i e
calm_ext f g f' g' x y i e h z j b q =
    let w = z j b q in
    (y j b ∙ w.0, λ c l. (let r = slot_range j c b (omega arith) in x ((256 + j) / 2 ^ c) r.0 r.1 ∙ w.1 c l))

pub settled_ext : (f g b f' g' b' : ℕ → ℕ) → ((r : ℕ) → 1 ≤ r → r < 512 → f' r ≡ f r) → ((j : ℕ) → j < 256 → g' j ≡ g j)
    → ((j : ℕ) → j < 256 → g j ≡ 0 → b' j ≡ b j) → Settled f g b → Settled f' g' b'
settled_ext f g b f' g' b' x y v z j h e =
    let o : g j ≡ 0 = sym (y j h) ∙ e in
    let k = z j h o in
    rw (v j h o) (record {
      fits = k.fits;
      calm = calm_ext f g f' g' x y j (8 - b j) (omega arith) k.calm;
      least = λ c l w. k.least c l (calm_ext f' g' f g (λ r p q. sym (x r p q)) (λ i p. sym (y i p)) j (8 - c) (omega arith) w);
    })

-- ---- nothing is taken, and no cell has a link

module _ (f g : ℕ → ℕ) (x : (r : ℕ) → 1 ≤ r → r < 512 → f r ≡ 0) (y : (j : ℕ) → j < 256 → g j ≡ 0) where
  all_calm : (i e : ℕ) → e ≤ 8 → Calm f g i e
  all_calm i e h j b q = (y j b, λ c l. (let r = slot_range j c b (omega arith) in x ((256 + j) / 2 ^ c) r.0 r.1))

  pub none_settled : (b : ℕ → ℕ) → ((j : ℕ) → j < 256 → b j ≡ 0) → Settled f g b
  none_settled b z i h e = rw (z i h) (record {
    fits = omega arith;
    calm = all_calm i 8 (omega arith);
    least = λ c l _. omega arith;
  })

  pub settled_none : (b : ℕ → ℕ) → Settled f g b → (i : ℕ) → i < 256 → b i ≡ 0
  settled_none b z i h =
      same (b i) 0 (λ e _. e) (λ n _. absurd ((z i h (y i h)).least 0 (omega arith) (all_calm i 8 (omega arith))))
