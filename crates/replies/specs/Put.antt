-- Reply bytes: the stores of each kind of reply are its bytes. Assumes nothing.
use Rattle.std.specs.Prelude.{◌≡◌, List, ℕ, suc, ◌+◌, ◌%◌, set}
use Rattle.std.proofs.Common.{arith}
use Rattle.std.proofs.lemmas.List.Edits.{sets}
use Rattle.numbers.specs.Wrote.{Wrote}
use Rattle.numbers.specs.Digits.{two}
use Rattle.routes.specs.Bytes.{reply_bytes}
use Rattle.replies.specs.Said.{said_reply}
use Rattle.replies.specs.declared.Reply.{Reply}
use Rattle.replies.specs.declared.Reply.TheVariants.{Done, Found, Nothing, Refused}

module _ (b : List ℕ) (at : ℕ) (r : Reply) where
  pub put_done : (h c : ℕ) (b₂ b₃ : List ℕ) → r ≡ Done h c
      → b₂ ≡ sets (set b at 16) (at + 1) (two h) → b₃ ≡ sets b₂ (at + 3) (two c)
      → Wrote b at (reply_bytes (said_reply r)) (at + 5) b₃
  put_done h c b₂ b₃ e p q =
      let i : at + 1 ≡ suc at = omega arith in
      let j : at + 3 ≡ suc (suc (suc at)) = omega arith in
      rw e (record { place = omega arith; list = rw (q, p, i, j) })

  pub put-found : (h l q : ℕ) (b₂ : List ℕ) → r ≡ Found h l q → b₂ ≡ sets (set b at 17) (at + 1) (two h)
      → Wrote b at (reply_bytes (said_reply r)) (at + 5) (set (set b₂ (at + 3) (l % 256)) (at + 4) (q % 256))
  put-found h l q b₂ e p =
      let i : at + 1 ≡ suc at = omega arith in
      let j : at + 3 ≡ suc (suc (suc at)) = omega arith in
      let k : at + 4 ≡ suc (suc (suc (suc at))) = omega arith in
      rw e (record { place = omega arith; list = rw (p, i, j, k) })

  pub put_nothing : (q : ℕ) → r ≡ Nothing q
      → Wrote b at (reply_bytes (said_reply r)) (at + 2) (set (set b at 18) (at + 1) (q % 256))
  put_nothing q e =
      let i : at + 1 ≡ suc at = omega arith in
      rw e (record { place = omega arith; list = rw i })

  pub put_refused : (n : ℕ) → r ≡ Refused n
      → Wrote b at (reply_bytes (said_reply r)) (at + 2) (set (set b at 19) (at + 1) (n % 256))
  put_refused n e =
      let i : at + 1 ≡ suc at = omega arith in
      rw e (record { place = omega arith; list = rw i })
