-- What is promised of the call for a program in C, by its contract alone: with refusal 0 it has written a shortest list, and two
-- outcomes that it allows agree. Assumes nothing.
use Rattle.std.specs.Prelude.{◌≡◌, refl, Bool, true, false, List, ℕ, ◌≤◌, eqb, ltb, length}
use Rattle.std.proofs.Common.{sym, ap, ◌∙◌, arith}
use Rattle.logic.specs.Cases.{bool}
use Rattle.routes.specs.Route.{Route, held}
use Rattle.routes.specs.Seen.{Answer, gives, refuses}
use Rattle.candidates.specs.Winners.{winners}
use Rattle.candidates.specs.Seen.{Seen, misfit, foreign, table}
use Rattle.words.specs.Table.{seen}
use Rattle.shortest.specs.Shortest.{upto}
use Rattle.shortest.specs.Seen.{shortest4, bytes_for, short_on}
use Rattle.shorten.specs.Answer.{short_in}
use Rattle.shorten.specs.Stated.{WroteShortest, shortened_shortest}
use Rattle.answers.specs.declared.Written.{Written}
use Rattle.shortener.specs.Face.{HasWritten}

-- ---- no refusal is 0

Refuses : Answer (List Route) → Type 0
Refuses (gives rs) = Unit {0}
Refuses (refuses n) = 1 ≤ n

refuses_some : (s : Seen) (l : Bool) (room : ℕ) → Refuses (short_on s l room)
unfolding Refuses
refuses_some s true room = omega arith
refuses_some misfit false room = omega arith
refuses_some foreign false room = omega arith
refuses_some (table A cs) false room =
    let rs = winners cs in
    bool (eqb (held rs 0 0) 0)
    (λ q. rw q (omega arith))
    (λ q. bool (upto 32 rs)
    (λ u. bool (ltb room (bytes_for (length (shortest4 rs)))) (λ r. rw (q, u, r) (omega arith)) (λ r. rw (q, u, r) tt))
    (λ u. rw (q, u) (omega arith)))

-- ---- what is written

pub written-shortest : (ws ms b : List ℕ) (r : Written) (ns c : List ℕ) → HasWritten ws ms b r ns c → r.refusal ≡ 0
    → WroteShortest ws b r.bytes c
unfolding Refuses
written-shortest ws ms b r ns c h z =
    go (short_in ws ms (length b)) refl (refuses_some (seen 4 ws) (ltb (length ms) (length ws)) (length b))
  where
    go : (x : Answer (List Route)) → short_in ws ms (length b) ≡ x → Refuses x → WroteShortest ws b r.bytes c
    go (gives qs) e p =
        let k : r.bytes ≡ bytes_for (length qs) = ap (λ (w : Written). w.bytes) (rw e at h.answer) in
        shortened_shortest ws ms b r.bytes ns c
        (record { answer = rw e (ap gives k); scratch = h.scratch; buffer = h.buffer })
    go (refuses n) e p =
        let k : r.refusal ≡ n = ap (λ (w : Written). w.refusal) (rw e at h.answer) in
        absurd (omega arith)

pub written_sharp : (ws ms b : List ℕ) (r t : Written) (ns os c d : List ℕ) → HasWritten ws ms b r ns c
    → HasWritten ws ms b t os d → (r ≡ t) × (ns ≡ os) × (c ≡ d)
written_sharp ws ms b r t ns os c d p q =
    (p.answer ∙ sym q.answer, p.scratch ∙ sym q.scratch, p.buffer ∙ sym q.buffer)
