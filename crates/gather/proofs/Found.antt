-- What is found among the gathered candidates: at each place what its word stands for. So a word set puts its candidate into the
-- list, and a word cleared cuts it out. Assumes nothing.
use Rattle.std.specs.Prelude.{◌≡◌, ◌≢◌}
use Rattle.std.proofs.Math.Path.{refl, sym, ap, ap₂}
use Rattle.std.proofs.Common.{◌∙◌, le_refl}
use Rattle.std.proofs.Math.Option.{none, some}
use Prim.Native.Nat.{ℕ, zero, suc, ◌+◌, ◌-◌, ◌*◌, ◌^◌, ◌≤◌, ◌<◌}
use Rattle.std.proofs.Math.Nat.{pow-succ'}
use native.Mathlib.Omega.{arith}
use Rattle.sizes.specs.Sizes.{slot_words}
use Rattle.logic.specs.Cases.{same, less}
use Rattle.laws.specs.Collect.{dbl, key_ge, key_lt}
use Rattle.candidates.specs.Keyed.{Ordered, find, put, cut}
use Rattle.candidates.specs.Candidate.{Candidate, place, key}
use Rattle.rivals.specs.Maps.{weaken, put_ordered, cut_ordered, find-below, put_same, put_other, cut_same, cut_other, ext}
use Rattle.rivals.specs.Append.{or_else, else_none, Inside, inside_ordered, inside_weaken, inside-append, find-append, find-above}
use Rattle.slots.specs.Word.{IsFeed}
use Rattle.gather.specs.Gather.{meant, listed, of_feeds, of_slot, gather, gathered, base}
use Rattle.gather.specs.Gather.{one_miss}
use Rattle.gather.proofs.Gather.{slot_inside, slot_hit, slot_miss}
use Rattle.gather.specs.Found.{gather_split, Agree, feeds_agree, OffWord}

module _ (g : ℕ → ℕ → ℕ → ℕ) where
  pub gather-inside : (d v l : ℕ) → l + d < 256 → Inside key (base d v l) ((v + 1) * 2 ^ d * 256 * 8) (gather g d v l)
  unfolding gather
  gather-inside zero v l s =
      inside_weaken key _ _ _ _ (of_slot (g v l) zero v l) (omega arith) (omega arith) (slot_inside (g v l) zero v l)
  gather-inside (suc d) v l s =
      inside-append key _ ((v * 2 ^ suc d * 256 + suc l) * 8) _ (of_slot (g v l) (suc d) v l) _
      (inside_weaken key _ _ _ _ (of_slot (g v l) (suc d) v l) (omega arith) (omega arith) (slot_inside (g v l) (suc d) v l))
      (inside-append key _ ((2 * v + 1) * 2 ^ d * 256 * 8) _ (gather g d (2 * v) (suc l)) _
      (inside_weaken key _ _ _ _ (gather g d (2 * v) (suc l)) (omega (arith, dbl v d)) (le_refl _)
      (gather-inside d (2 * v) (suc l) (omega arith)))
      (inside_weaken key _ _ _ _ (gather g d (2 * v + 1) (suc l)) (omega arith) (omega (arith, dbl v d, pow-succ' 2 d))
      (gather-inside d (2 * v + 1) (suc l) (omega arith))))

  gather-below : (d v l k : ℕ) → l + d < 256 → k < base d v l → find key (gather g d v l) k ≡ none
  gather-below d v l k s h =
      find-below key _ k (gather g d v l) (inside_ordered key _ _ (gather g d v l) (gather-inside d v l s)) h

  gather-above : (d v l k : ℕ) → l + d < 256 → (v + 1) * 2 ^ d * 256 * 8 ≤ k → find key (gather g d v l) k ≡ none
  gather-above d v l k s h = find-above key _ _ k (gather g d v l) (gather-inside d v l s) h

module _ (g : ℕ → ℕ → ℕ → ℕ) (f : ℕ) (i : IsFeed f) where
  gather_self : (d v l : ℕ) → l + d < 256 → find key (gather g d v l) (base d v l + f) ≡ meant d v l f (g v l f)
  unfolding gather
  gather_self zero v l s = slot_hit (g v l) zero v l f i
  gather_self (suc d) v l s =
      gather_split g d v l _
      ∙ ap₂ or_else (slot_hit (g v l) (suc d) v l f i)
      (ap₂ or_else (gather-below g d (2 * v) (suc l) _ (omega arith) (omega (arith, dbl v d, i.high)))
      (gather-below g d (2 * v + 1) (suc l) _ (omega arith) (omega (arith, dbl v d, i.high))))
      ∙ else_none (meant (suc d) v l f (g v l f))

  gather-find : (d v l m e v' l' : ℕ) → m + e ≡ d → l + m ≡ l' → l + d < 256 → v * 2 ^ m ≤ v' → v' < (v + 1) * 2 ^ m
      → find key (gather g d v l) (base e v' l' + f) ≡ meant e v' l' f (g v' l' f)
  unfolding gather
  gather-find d v l zero e v' l' p q s h h' =
      let ev : v' ≡ v = omega arith in
      let el : l' ≡ l = omega arith in
      let ed : e ≡ d = omega arith in
      rw (ev, el, ed) (gather_self d v l s)
  gather-find zero v l (suc m) e v' l' p q s h h' = absurd (omega arith)
  gather-find (suc d) v l (suc m) e v' l' p q s h h' =
      gather_split g d v l _
      ∙ ap₂ or_else (slot_miss (g v l) (suc d) v l k (omega (arith, key_ge (suc m) e (suc d) v v' p h, i.low)))
      (less v' ((2 * v + 1) * 2 ^ m)
      (λ t _.
      ap₂ or_else (gather-find d (2 * v) (suc l) m e v' l' p' (omega arith) (omega arith) (omega (arith, dbl v m)) t)
      (gather-below g d (2 * v + 1) (suc l) k (omega arith)
      (omega (arith, key_lt m e d (2 * v + 1) v' l' p' t (omega arith), i.high)))
      ∙ else_none (meant e v' l' f (g v' l' f)))
      (λ t _.
      ap₂ or_else (gather-above g d (2 * v) (suc l) k (omega arith) (omega (arith, key_ge m e d (2 * v + 1) v' p' t)))
      (gather-find d (2 * v + 1) (suc l) m e v' l' p' (omega arith) (omega arith) t (omega (arith, dbl v m, pow-succ' 2 m)))))
    where
      k : ℕ
      k = base e v' l' + f

      p' : m + e ≡ d
      p' = omega arith

module _ (W : ℕ) (g h : ℕ → ℕ → ℕ → ℕ) (k : ℕ) (a : Agree W g h k) where
  gather_agree : (d v l : ℕ) → l + d ≡ W → v < 2 ^ l → find key (gather g d v l) k ≡ find key (gather h d v l) k
  unfolding gather
  gather_agree zero v l p b = feeds_agree W g h k a zero v l 1 slot_words (omega arith) (omega arith) p b
  gather_agree (suc d) v l p b =
      gather_split g d v l k
      ∙ ap₂ or_else (feeds_agree W g h k a (suc d) v l 1 slot_words (omega arith) (omega arith) p b)
      (ap₂ or_else (gather_agree d (2 * v) (suc l) (omega arith) (omega arith))
      (gather_agree d (2 * v + 1) (suc l) (omega arith) (omega arith)))
      ∙ sym (gather_split h d v l k)

module _ (W : ℕ) (w : W < 256) where
  pub gathered_ordered : (g : ℕ → ℕ → ℕ → ℕ) → Ordered key 0 (gathered W g)
  unfolding gathered
  gathered_ordered g =
      weaken key (gathered W g) (omega arith) (inside_ordered key _ _ (gathered W g) (gather-inside g W 0 0 (omega arith)))

  pub gathered-find : (g : ℕ → ℕ → ℕ → ℕ) (v l f : ℕ) → l ≤ W → v < 2 ^ l → IsFeed f
      → find key (gathered W g) (place (v * 2 ^ (W - l)) l f) ≡ meant (W - l) v l f (g v l f)
  unfolding gathered
  gathered-find g v l f h b i =
      gather-find g f i W 0 0 l (W - l) v l (omega arith) (omega arith) (omega arith) (omega arith) (omega arith)

  module _ (g h : ℕ → ℕ → ℕ → ℕ) (v l f : ℕ) (s : l ≤ W) (b : v < 2 ^ l) (i : IsFeed f) (off : OffWord W v l f g h) where
    K : ℕ
    K = place (v * 2 ^ (W - l)) l f

    elsewhere : (k : ℕ) → place (v * 2 ^ (W - l)) l f ≢ k → find key (gathered W g) k ≡ find key (gathered W h) k
    unfolding Agree gathered
    elsewhere k n =
        gather_agree W g h k
        (λ v' l' e f' j p b' q. off v' l' f' j (omega arith) b' (λ z. n (same_place v' l' e f' p q z)))
        W 0 0 (omega arith) (omega arith)
      where
        same_place : (v' l' e f' : ℕ) → l' + e ≡ W → base e v' l' + f' ≡ k → (v' ≡ v) × (l' ≡ l) × (f' ≡ f)
            → place (v * 2 ^ (W - l)) l f ≡ k
        same_place v' l' e f' p q z = let d : W - l ≡ e = omega arith in rw (d, ← z.0, ← z.1, ← z.2) q

    -- a word that stands for the candidate c: it is put
    pub gathered-put : (c : Candidate) → meant (W - l) v l f (h v l f) ≡ some c → key c ≡ place (v * 2 ^ (W - l)) l f
        → gathered W h ≡ put key c (gathered W g)
    gathered-put c e q =
        ext key 0 (gathered W h) (put key c (gathered W g)) (gathered_ordered h)
        (put_ordered key 0 c (gathered W g) (omega arith) (gathered_ordered g))
        (λ k. same (key c) k
        (λ t _. rw (← t)
        (ap (find key (gathered W h)) q ∙ gathered-find h v l f s b i ∙ e ∙ sym (put_same key c (gathered W g))))
        (λ n _. sym (put_other key c (gathered W g) k n ∙ elsewhere k (λ z. n (q ∙ z)))))

    -- a word cleared: it is cut
    pub gathered_cut : h v l f ≡ 0 → gathered W h ≡ cut key (place (v * 2 ^ (W - l)) l f) (gathered W g)
    unfolding K
    gathered_cut z =
        ext key 0 (gathered W h) (cut key K (gathered W g)) (gathered_ordered h)
        (cut_ordered key 0 K (gathered W g) (gathered_ordered g))
        (λ k. same K k
        (λ t _. rw (← t)
        (gathered-find h v l f s b i ∙ rw z (sym (cut_same key 0 K (gathered W g) (gathered_ordered g)))))
        (λ n _. sym (cut_other key K k (gathered W g) (λ u. n (sym u)) ∙ elsewhere k n)))
