-- The scratch after the pass from below: each word is the old one, or the set of the one prefix that stands in its slot. So later
-- stores do no harm to earlier ones. Assumes nothing.
use Rattle.std.specs.Prelude.{◌≡◌, refl, ◌⊎◌, List}
use Rattle.std.proofs.Common.{◌∙◌, get_or-set_other}
use Rattle.std.proofs.Math.Path.{ap₂}
use Rattle.std.proofs.Math.Logic.{inl, inr, ⊎_elim}
use Prim.Native.Nat.{ℕ, zero, suc, ◌+◌, ◌*◌, ◌≤◌, ◌<◌}
use native.Mathlib.Omega.{arith}
use Rattle.std.proofs.Math.ListN.{length, get_or, set, length-set}
use Rattle.std.proofs.Math.Seq.{get_or-set_same}
use Rattle.logic.specs.Cases.{same}
use Rattle.sizes.specs.Sizes.{slot_words}
use Rattle.words.specs.TableBut.{Table}
use Rattle.words.specs.Half.{half_of}
use Rattle.writing.specs.Halves.{slot_number, slot_inside}
use Rattle.shortest.specs.Chosen.{set_of}
use Rattle.sweep.specs.Walk.{hop_in, set_at, store_at}
use Rattle.sweep.specs.Slot.{At, slot_one, slot_lower, slot_upper}
use Rattle.sweep.specs.Sets.{Gives, gives_left, gives_right, set_is}

module _ (ws : List ℕ) (tb : Table 4 ws) where
  -- four words of a slot, all of them there
  pub slot_room : (p v l : ℕ) → At ws tb p v l → p + slot_words ≤ length ws
  slot_room p v l s = omega (arith, slot_inside 4 ws tb p v l s, slot_number 4 ws tb p v l s)

  module _ (G : ℕ → ℕ) where
    -- the word of slot q is the set of the prefix in it
    unfoldable pub Right : List ℕ → ℕ → Type 0
    Right ms q = (v l d : ℕ) → l + d ≡ 32 → At ws tb q v l → get_or ms q 0 ≡ set_of G d v

    -- each word is the old one, or right
    pub record Keeps (ms ns : List ℕ) : Type 0 where
      pub size : length ns ≡ length ms
      pub words : (q : ℕ) → (get_or ns q 0 ≡ get_or ms q 0) ⊎ Right ns q

    keeps_two : (ms ns os : List ℕ) → Keeps ms ns → Keeps ns os → Keeps ms os
    unfolding Right
    keeps_two ms ns os x y = record {
      size = y.size ∙ x.size;
      words = λ q. ⊎_elim
          (λ (e : get_or os q 0 ≡ get_or ns q 0). ⊎_elim (λ (f : get_or ns q 0 ≡ get_or ms q 0). inl (e ∙ f))
          (λ (f : Right ns q). inr (λ v l d g s. e ∙ f v l d g s)) (x.words q))
          (λ (r : Right os q). inr r) (y.words q);
    }

    keeps_set : (ms : List ℕ) (p v l d m : ℕ) → l + d ≡ 32 → At ws tb p v l → p < length ms → m ≡ set_of G d v
        → Keeps ms (set ms p m)
    unfolding Right
    keeps_set ms p v l d m e s h q = record {
      size = length-set ms p m;
      words = λ i. same i p
          (λ z _. inr (λ w k c f u.
          let o = slot_one ws tb p v l w k s (rw z at u) in
          let r : d ≡ c = omega (arith, o.1) in
          rw z (get_or-set_same ms p m 0 h ∙ q ∙ ap₂ (set_of G) r o.0)))
          (λ n _. inl (get_or-set_other ms p i m 0 n));
    }

    -- the words of slot p and of all below it are right
    unfoldable pub Done : List ℕ → ℕ → ℕ → ℕ → Type 0
    Done ms zero p v = get_or ms p 0 ≡ set_of G zero v
    Done ms (suc d) p v =
        (get_or ms p 0 ≡ set_of G (suc d) v)
        × (1 ≤ half_of ws p → Done ms d (half_of ws p) (2 * v) × Done ms d (half_of ws p + slot_words) (2 * v + 1))

    keep_word : (ms ns : List ℕ) (p v l d : ℕ) → l + d ≡ 32 → At ws tb p v l → Keeps ms ns → get_or ms p 0 ≡ set_of G d v
        → get_or ns p 0 ≡ set_of G d v
    unfolding Right
    keep_word ms ns p v l d e s k g =
        ⊎_elim (λ (f : get_or ns p 0 ≡ get_or ms p 0). f ∙ g) (λ (r : Right ns p). r v l d e s) (k.words p)

    done_keeps : (ms ns : List ℕ) (d p v l : ℕ) → l + d ≡ 32 → At ws tb p v l → Keeps ms ns → Done ms d p v → Done ns d p v
    unfolding Done
    done_keeps ms ns zero p v l e s k g = keep_word ms ns p v l zero e s k g
    done_keeps ms ns (suc d) p v l e s k g = (
      keep_word ms ns p v l (suc d) e s k g.0,
      λ n. (
        done_keeps ms ns d (half_of ws p) (2 * v) (suc l) (omega arith) (slot_lower ws tb p v l s n) k (g.1 n).0,
        done_keeps ms ns d (half_of ws p + slot_words) (2 * v + 1) (suc l) (omega arith) (slot_upper ws tb p v l s n) k (g.1 n).1,
      ),
    )

    -- what is so of a list is so of one that is equal
    store_as : (ms ps os : List ℕ) (d p v : ℕ) → os ≡ ps → Keeps ms ps × Done ps d p v → Keeps ms os × Done os d p v
    store_as ms ps os d p v e k = rw e k

    pub store_is : (d p v l h : ℕ) (ms : List ℕ) → l + d ≡ 32 → At ws tb p v l → Gives ws tb G d v l h → length ws ≤ length ms
        → Keeps ms (store_at ws d p h ms) × Done (store_at ws d p h ms) d p v
    unfolding store_at Done
    store_is zero p v l h ms e s g w =
        let b : p < length ms = omega (arith, slot_room p v l s) in
        let m = (set_is ws tb G zero p v l h e s g).0 in
        (keeps_set ms p v l zero (set_at ws zero p h) e s b m, get_or-set_same ms p (set_at ws zero p h) 0 b ∙ m)
    store_is (suc d) p v l h ms e s g w =
        let b : p < length ms = omega (arith, slot_room p v l s) in
        let m = (set_is ws tb G (suc d) p v l h e s g).0 in
        let x₀ = set_at ws (suc d) p h in
        same (half_of ws p) 0
        (λ z q. rw q (keeps_set ms p v l (suc d) x₀ e s b m, (get_or-set_same ms p x₀ 0 b ∙ m, λ n. absurd (omega arith))))
        (λ n q.
        let i : 1 ≤ half_of ws p = omega arith in
        let lo = half_of ws p in
        let hi = half_of ws p + slot_words in
        let k₀ = hop_in ws p h in
        let sx = slot_lower ws tb p v l s i in
        let sy = slot_upper ws tb p v l s i in
        let ns = store_at ws d lo k₀ ms in
        let x = store_is d lo (2 * v) (suc l) k₀ ms (omega arith) sx (gives_left ws tb G p v l s d h g) w in
        let os = store_at ws d hi k₀ ns in
        let y = store_is d hi (2 * v + 1) (suc l) k₀ ns (omega arith) sy (gives_right ws tb G p v l s d h g)
        (omega (arith, x.0.size)) in
        let c : p < length os = omega (arith, x.0.size, y.0.size) in
        let k = keeps_set os p v l (suc d) x₀ e s c m in
        let ps = set os p x₀ in
        store_as ms ps (store_at ws (suc d) p h ms) (suc d) p v (rw q refl) (
          keeps_two ms os ps (keeps_two ms ns os x.0 y.0) k,
          (
            get_or-set_same os p x₀ 0 c ∙ m,
            λ _. (
              done_keeps os ps d lo (2 * v) (suc l) (omega arith) sx k
                  (done_keeps ns os d lo (2 * v) (suc l) (omega arith) sx y.0 x.1),
              done_keeps os ps d hi (2 * v + 1) (suc l) (omega arith) sy k y.1,
            ),
          ),
        ))
