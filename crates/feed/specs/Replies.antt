-- A buffer after bytes were written into it: those before them, and those after. Assumes nothing.
use Rattle.std.specs.Prelude.{◌≡◌, List, ◌++◌, ℕ, ◌+◌, ◌≤◌, length, take, drop}
use Rattle.std.proofs.Common.{ap, ◌∙◌, arith, length-append, take_at, drop_at, length-take-le}
use Rattle.std.proofs.lemmas.List.Edits.{sets-eq}
use Rattle.numbers.specs.Wrote.{Wrote}

-- ---- a buffer after a write: what stands up to the place that follows, and after it

module _ (b : List ℕ) (p : ℕ) (xs : List ℕ) (q : ℕ) (c : List ℕ) (h : p + length xs ≤ length b) (w : Wrote b p xs q c) where
  front : length (take p b ++ xs) ≡ p + length xs
  front = length-append (take p b) xs ∙ ap (λ (n : ℕ). n + length xs) (length-take-le p b (omega arith))

  pub wrote-before : take q c ≡ take p b ++ xs
  wrote-before =
      let n = p + length xs in
      rw (w.place, w.list, sets-eq xs b p h) (take_at (take p b ++ xs) (drop n b) n front)

  pub wrote_after : drop q c ≡ drop q b
  wrote_after =
      let n = p + length xs in
      rw (w.place, w.list, sets-eq xs b p h) (drop_at (take p b ++ xs) (drop n b) n front)
