-- A read puts what it gives behind what stands there. Assumes nothing.
use Rattle.std.proofs.Common.{ℕ, ◌+◌, ◌-◌, ◌≤◌, ◌≡◌, List, ◌++◌, length, take, ap, ◌∙◌, arith}
use Rattle.std.proofs.Math.Seq.{take-append-add}
use Rattle.std.proofs.lemmas.List.{length-append, length-take-le, take-append-le}
use Rattle.std.proofs.KnownBytes.{Consumes-trans}
use borrow.Author.Rules.{rules}
use borrow.Rule.Slice.PartMut.{put_mid, post_of}
use Rattle.console.proofs.reads.fill.Goals as goal

filled : (n k m : ℕ) (xs ys : List ℕ) → n ≤ length xs → k ≤ length ys → take (n + k) (put_mid n m xs ys) ≡ take n xs ++ take k ys
filled n k m xs ys h l =
    (rw (length-take-le n xs h) at (take-append-add (take n xs) (ys ++ post_of n m xs) k))
    ∙ ap (λ (zs : List ℕ). take n xs ++ zs) (take-append-le k ys (post_of n m xs) l)

wide : (n k m : ℕ) (xs ys : List ℕ) → n ≤ length xs → k ≤ length ys → n + k ≤ length (put_mid n m xs ys)
wide n k m xs ys h l = simp (length-append, length-take-le n xs h) (omega arith)

pub loop-n-preserved : goal.loop-n-preserved
loop-n-preserved g c =
    let l = c.loop-n in
    let k = c.in_ok-more.more in
    let r = c.in_ok-more.ensures in
    let ys = c.read.new.buf in
    let m = length l.input - l.n in
    let b : k ≤ length ys = search rules in
    record {
      within = wide l.n k m l.input ys l.invariant.within b;
      bytes = rw (filled l.n k m l.input ys l.invariant.within b)
          (Consumes-trans _ _ _ (take l.n l.input) (take k ys) l.invariant.bytes r.bytes.0);
    }
