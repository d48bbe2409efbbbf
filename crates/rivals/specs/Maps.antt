-- The laws of lists that increase by a key. Assumes nothing.
use Rattle.std.specs.Prelude.{◌≡◌, refl, ◌≢◌, List, [], ◌∷◌, ℕ, suc, ◌≤◌, ◌<◌}
use Rattle.std.proofs.Common.{sym, ap₂, ◌∙◌, le_refl, arith, eq-eqb, ne_eqb}
use Rattle.std.proofs.Math.Option.{none, some, none-ne-some, some-injective}
use Rattle.logic.specs.Cases.{tri, same}
use Rattle.candidates.specs.Keyed.{Ordered, find, put, cut, Every}

module _ {T : Type 0} (key : T → ℕ) where
  -- ---- ordered after a put and a cut

  pub weaken : {lo k : ℕ} (xs : List T) → lo ≤ k → Ordered key k xs → Ordered key lo xs
  weaken [] h f = tt
  weaken (x ∷ xs) h f = (omega arith, f.1)

  pub put_ordered : (lo : ℕ) (x : T) (xs : List T) → lo ≤ key x → Ordered key lo xs → Ordered key lo (put key x xs)
  put_ordered lo x [] h f = (h, tt)
  put_ordered lo x (y ∷ ys) h f =
      tri (key x) (key y)
      (λ l e. rw e (h, (l, f.1)))
      (λ q e d. rw (e, d) (h, weaken ys (omega arith) f.1))
      (λ g e d. rw (e, d) (f.0, put_ordered (suc (key y)) x ys g f.1))

  pub cut_ordered : (lo k : ℕ) (xs : List T) → Ordered key lo xs → Ordered key lo (cut key k xs)
  cut_ordered lo k [] f = tt
  cut_ordered lo k (y ∷ ys) f =
      same (key y) k (λ q e. rw e (weaken ys (omega arith) f.1)) (λ n e. rw e (f.0, cut_ordered (suc (key y)) k ys f.1))

  pub every_put : (P : T → Type 0) (x : T) (xs : List T) → P x → Every P xs → Every P (put key x xs)
  every_put P x [] g p = (g, tt)
  every_put P x (y ∷ ys) g p =
      tri (key x) (key y) (λ l e. rw e (g, p)) (λ q e d. rw (e, d) (g, p.1))
      (λ l e d. rw (e, d) (p.0, every_put P x ys g p.1))

  pub every_cut : (P : T → Type 0) (k : ℕ) (xs : List T) → Every P xs → Every P (cut key k xs)
  every_cut P k [] p = tt
  every_cut P k (y ∷ ys) p = same (key y) k (λ q e. rw e p.1) (λ n e. rw e (p.0, every_cut P k ys p.1))

  -- ---- what is found

  pub find_head : (x : T) (xs : List T) (k : ℕ) → key x ≡ k → find key (x ∷ xs) k ≡ some x
  find_head x xs k e = rw (eq-eqb (key x) k e)

  pub find_skip : (x : T) (xs : List T) (k : ℕ) → key x ≢ k → find key (x ∷ xs) k ≡ find key xs k
  find_skip x xs k n = rw (ne_eqb (key x) k n)

  pub find-below : (lo k : ℕ) (xs : List T) → Ordered key lo xs → k < lo → find key xs k ≡ none
  find-below lo k [] f h = refl
  find-below lo k (x ∷ xs) f h = find_skip x xs k (omega arith) ∙ find-below (suc (key x)) k xs f.1 (omega arith)

  pub put_same : (x : T) (xs : List T) → find key (put key x xs) (key x) ≡ some x
  put_same x [] = find_head x [] (key x) refl
  put_same x (y ∷ ys) =
      tri (key x) (key y)
      (λ l e. rw e (find_head x (y ∷ ys) (key x) refl))
      (λ q e d. rw (e, d) (find_head x ys (key x) refl))
      (λ g e d. rw (e, d) (find_skip y (put key x ys) (key x) (omega arith) ∙ put_same x ys))

  pub put_other : (x : T) (xs : List T) (k : ℕ) → key x ≢ k → find key (put key x xs) k ≡ find key xs k
  put_other x [] k n = find_skip x [] k n
  put_other x (y ∷ ys) k n =
      tri (key x) (key y)
      (λ l e. rw e (find_skip x (y ∷ ys) k n))
      (λ q e d. rw (e, d) (find_skip x ys k n ∙ sym (find_skip y ys k (omega arith))))
      (λ g e d. rw (e, d, put_other x ys k n))

  pub cut_same : (lo k : ℕ) (xs : List T) → Ordered key lo xs → find key (cut key k xs) k ≡ none
  cut_same lo k [] f = refl
  cut_same lo k (y ∷ ys) f =
      same (key y) k
      (λ q e. rw e (find-below (suc (key y)) k ys f.1 (omega arith)))
      (λ n e. rw e (find_skip y (cut key k ys) k n ∙ cut_same (suc (key y)) k ys f.1))

  pub cut_other : (k j : ℕ) (xs : List T) → j ≢ k → find key (cut key k xs) j ≡ find key xs j
  cut_other k j [] n = refl
  cut_other k j (y ∷ ys) n =
      same (key y) k (λ q e. rw e (sym (find_skip y ys j (omega arith)))) (λ m e. rw (e, cut_other k j ys n))

  -- ---- two ordered lists in which the same is found are one

  pub ext : (lo : ℕ) (xs ys : List T) → Ordered key lo xs → Ordered key lo ys → ((k : ℕ) → find key xs k ≡ find key ys k)
      → xs ≡ ys
  ext lo [] [] f g h = refl
  ext lo [] (y ∷ ys) f g h = absurd (none-ne-some y (h (key y) ∙ find_head y ys (key y) refl))
  ext lo (x ∷ xs) [] f g h = absurd (none-ne-some x (sym (h (key x)) ∙ find_head x xs (key x) refl))
  ext lo (x ∷ xs) (y ∷ ys) f g h =
      let kx : find key (y ∷ ys) (key x) ≡ some x = sym (h (key x)) ∙ find_head x xs (key x) refl in
      let ky : find key (x ∷ xs) (key y) ≡ some y = h (key y) ∙ find_head y ys (key y) refl in
      tri (key x) (key y)
      (λ l _. absurd (none-ne-some x (sym (find-below (key y) (key x) (y ∷ ys) (le_refl _, g.1) l) ∙ kx)))
      (λ e _ _.
      ap₂ ◌∷◌ (some-injective x y (sym kx ∙ find_head y ys (key x) (sym e)))
      (ext (suc (key x)) xs ys f.1 (rw e g.1) (λ k.
      same (key x) k
      (λ t _. find-below (suc (key x)) k xs f.1 (omega arith) ∙ sym (find-below (suc (key y)) k ys g.1 (omega arith)))
      (λ n _. sym (find_skip x xs k n) ∙ h k ∙ find_skip y ys k (omega arith)))))
      (λ l _ _. absurd (none-ne-some y (sym (find-below (key x) (key y) (x ∷ xs) (le_refl _, f.1) l) ∙ ky)))

  -- what is held already changes nothing
  pub put-held : (x : T) (xs : List T) → Ordered key 0 xs → find key xs (key x) ≡ some x → put key x xs ≡ xs
  put-held x xs f h =
      ext 0 (put key x xs) xs (put_ordered 0 x xs (omega arith) f) f (λ k.
      same (key x) k (λ e _. rw (← e) (put_same x xs ∙ sym h)) (λ n _. put_other x xs k n))

pub every_map : {T : Type 0} (P Q : T → Type 0) → ((x : T) → P x → Q x) → (xs : List T) → Every P xs → Every Q xs
every_map P Q f [] p = tt
every_map P Q f (x ∷ xs) p = (f x p.0, every_map P Q f xs p.1)
