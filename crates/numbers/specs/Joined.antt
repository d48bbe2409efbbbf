-- Bytes of things one after the other: those of two lists in a row are those of the one, then those of the other. Assumes
-- nothing.
use Rattle.std.specs.Prelude.{◌≡◌, List, [], ◌∷◌, ◌++◌, ℕ}
use Rattle.std.proofs.Common.{sym, ap, ◌∙◌, append_assoc}

-- `all` writes each thing by `one`, in order
module _ {T : Type 0} (one : T → List ℕ) (all : List T → List ℕ)
    (none : all [] ≡ []) (more : (x : T) (xs : List T) → all (x ∷ xs) ≡ one x ++ all xs) where
  pub joined-append : (xs ys : List T) → all (xs ++ ys) ≡ all xs ++ all ys
  joined-append [] ys = rw none
  joined-append (x ∷ xs) ys =
      more x (xs ++ ys)
      ∙ ap (λ (zs : List ℕ). one x ++ zs) (joined-append xs ys)
      ∙ sym (append_assoc (one x) (all xs) (all ys))
      ∙ ap (λ (zs : List ℕ). zs ++ all ys) (sym (more x xs))
