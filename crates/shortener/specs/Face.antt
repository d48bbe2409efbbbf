-- What the call for a program in C answers and leaves: that of `shorten`, as a struct. Assumes nothing.
use Rattle.std.specs.Prelude.{◌≡◌, List, ℕ, length}
use Rattle.shortest.specs.Seen.{bytes_in, left_in}
use Rattle.shorten.specs.Answer.{short_in, scratch_in}
use Rattle.answers.specs.Numbers.{wrote}
use Rattle.answers.specs.declared.Written.{Written}

-- the words ws, with the scratch ms and the buffer b, are answered with r and leave the scratch ns and the buffer c
pub record HasWritten (ws ms b : List ℕ) (r : Written) (ns c : List ℕ) : Type 0 where
  pub answer : r ≡ wrote (bytes_in (short_in ws ms (length b)))
  pub scratch : ns ≡ scratch_in (short_in ws ms (length b)) ws ms
  pub buffer : c ≡ left_in (short_in ws ms (length b)) b
