-- How large the cost and the bytes are. Assumes nothing.
use Rattle.std.specs.Prelude.{◌≡◌, List, [], ◌∷◌, ℕ, zero, suc, ◌+◌, ◌*◌, ◌^◌, ◌≤◌, length}
use Rattle.std.proofs.Common.{◌∙◌, arith, length-append, pow_pos}
use Rattle.std.proofs.Math.Nat.{pow-succ'}
use Rattle.std.specs.Int.Bits.{bit_and}
use Rattle.logic.specs.Cases.{same}
use Rattle.sizes.specs.Sizes.{slot_words}
use Rattle.numbers.specs.Back.{four-digits}
use Rattle.routes.specs.Family.{v4}
use Rattle.routes.specs.Route.{Route}
use Rattle.candidates.specs.Bytes.{announces, sent_bytes, all_bytes, plainly}
use Rattle.words.specs.Half.{half_of}
use Rattle.shortest.specs.Inside.{apart}
use Rattle.sweep.specs.Walk.{hop_in, set_at, cost_at}
use Rattle.sweep.specs.Asked.{bytes_of}

apart_le : (x y : ℕ) → apart x y ≤ 1
apart_le x y = same (bit_and x y) 0 (λ _ e. rw e (omega arith)) (λ _ e. rw e (omega arith))

pub cost_bound : (ws : List ℕ) (d p h : ℕ) → cost_at ws d p h + 1 ≤ 2 ^ d
unfolding cost_at
cost_bound ws zero p h = omega arith
cost_bound ws (suc d) p h =
    let g = hop_in ws p h in
    let lo = half_of ws p in
    let hi = half_of ws p + slot_words in
    same (half_of ws p) 0
    (λ _ e. rw e (omega (arith, pow_pos d, pow-succ' 2 d)))
    (λ _ e. rw e (omega (
      arith,
      pow-succ' 2 d,
      cost_bound ws d lo g,
      cost_bound ws d hi g,
      apart_le (set_at ws d lo g) (set_at ws d hi g),
    )))

-- a record of kind 1 has eight bytes
sent_long : (a l h : ℕ) → length (sent_bytes v4 (announces a l h)) ≡ 8
sent_long a l h = rw (four-digits a)

pub bytes-length : (rs : List Route) → length (bytes_of rs) ≡ 8 * length rs
unfolding bytes_of
bytes-length [] = omega arith
bytes-length (r ∷ rs) =
    length-append (sent_bytes v4 (announces r.addr r.len r.hop)) (all_bytes v4 (plainly rs))
    ∙ omega (arith, bytes-length rs, sent_long r.addr r.len r.hop)
