-- The rows before a candidate come first. Assumes nothing.
use Rattle.std.proofs.Common.{◌≡◌, ◌≤◌, arith, rules}
use Rattle.std.specs.Simd.{first_chunks}
use Rattle.std.proofs.lemmas.List.Sorted.{IsPartitionPoint-from_clause}
use Rattle.shelf.proofs.Chunks.{chunk_before, chunks_fall, rank_told}
use Rattle.shelf.proofs.rank_of.Goals as goal

pub returns : goal.returns
returns c =
    let ws = c.args.words.now in
    let k = c.args.k in
    let r = c.partition_point.result in
    let e : c.as_chunks.result.0.now ≡ first_chunks 4 256 ws = rw c.requires.size at c.as_chunks.ensures.front in
    let b : r ≤ 256 = omega (arith, c.partition_point.ensures.bound, c.as_chunks.ensures.front_len, c.requires.size) in
    let f = IsPartitionPoint-from_clause (chunk_before k) c.as_chunks.result.0.now r c.partition_point.ensures.partitioned
    (rw e (chunks_fall ws k c.requires)) (λ a r q p. search rules) in
    (rank_told ws k r b (rw e at f), b)
