-- The bytes of a part of the list: the records of its candidates, one after the other. Assumes nothing.
use Rattle.std.specs.Prelude.{◌≡◌, refl, List, [], ◌∷◌, ◌++◌, ℕ, ◌+◌, ◌*◌, length}
use Rattle.std.proofs.Common.{sym, ap, ◌∙◌, append_assoc}
use Rattle.routes.specs.Family.{Family, levels}
use Rattle.candidates.specs.Candidate.{Candidate}
use Rattle.candidates.specs.Bytes.{announces_for, sent_bytes, all_bytes, announced}
use Rattle.encoded.specs.Round.{bytes_long}

unfoldable pub bytes_of : Family → List Candidate → List ℕ
bytes_of F cs = all_bytes F (announced cs)

-- of two parts
pub bytes-append : (F : Family) (xs ys : List Candidate) → bytes_of F (xs ++ ys) ≡ bytes_of F xs ++ bytes_of F ys
unfolding bytes_of
bytes-append F [] ys = refl
bytes-append F (x ∷ xs) ys =
    let b : List ℕ = sent_bytes F (announces_for x.addr x.len x.hop x.feed x.pref) in
    ap (λ (l : List ℕ). b ++ l) (bytes-append F xs ys)
    ∙ sym (append_assoc b (all_bytes F (announced xs)) (all_bytes F (announced ys)))

pub bytes-length : (F : Family) (cs : List Candidate) → length (bytes_of F cs) ≡ (levels F + 6) * length cs
unfolding bytes_of
bytes-length F cs = bytes_long F cs
