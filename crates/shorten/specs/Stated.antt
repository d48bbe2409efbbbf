-- What is promised of the calls for the shortest list, by their contracts alone: what is written is a shortest list for the
-- table's winners, and two outcomes that are allowed agree. Assumes nothing.
use Rattle.std.specs.Prelude.{◌≡◌, refl, ◌≢◌, List, [], ◌++◌, ℕ, ltb, length, drop, Result, Ok}
use Rattle.std.proofs.Common.{sym, ◌∙◌, arith}
use Rattle.routes.specs.Route.{Route}
use Rattle.routes.specs.Seen.{Answer, gives, refuses}
use Rattle.laws.specs.Given.{given_one, given_refused}
use Rattle.candidates.specs.Winners.{winners}
use Rattle.candidates.specs.Bytes.{written_plainly}
use Rattle.rivals.specs.Won.{winners_list}
use Rattle.words.specs.Table.{list_of, seen}
use Rattle.words.specs.Listed.{table_list}
use Rattle.words.specs.View.{table_of}
use Rattle.refusals.specs.declared.Refusal.{Refusal}
use Rattle.refusals.specs.Number.{said_one}
use Rattle.shortest.specs.Shortest.{IsShortest}
use Rattle.shortest.specs.Seen.{bytes_for, bytes_in, left_in}
use Rattle.shortest.specs.Answered.{table_shortest}
use Rattle.shortest.proofs.Answered.{given_shortest}
use Rattle.shorten.specs.Answer.{short_in, front_in, HasCounted, HasShortened}

-- ---- what is written is a shortest list

-- the n bytes at the front of the buffer c, which was b, are a shortest list for the winners of the table ws
pub record WroteShortest (ws b : List ℕ) (n : ℕ) (c : List ℕ) : Type 0 where
  pub list : List Route
  pub shortest : IsShortest 32 (winners (list_of 4 ws)) list
  pub count : n ≡ bytes_for (length list)
  pub bytes : c ≡ written_plainly list ++ drop n b

in_shortest : (ws ms : List ℕ) (room : ℕ) (qs : List Route) → short_in ws ms room ≡ gives qs
    → IsShortest 32 (winners (list_of 4 ws)) qs
in_shortest ws ms room qs e =
    table_shortest (seen 4 ws) (ltb (length ms) (length ws)) room qs e (λ A cs v f.
    let i = table_of 4 ws (omega arith) (omega arith) A cs v in
    given_shortest (winners (list_of 4 ws)) room qs (winners_list 32 (list_of 4 ws) (table_list 4 ws i.table))
    (rw i.list at f))

pub shortened_shortest : (ws ms b : List ℕ) (n : ℕ) (ns c : List ℕ) → HasShortened ws ms b (Ok n) ns c
    → WroteShortest ws b n c
shortened_shortest ws ms b n ns c s = go (short_in ws ms (length b)) refl s.answer s.buffer
  where
    go : (x : Answer (List Route)) → short_in ws ms (length b) ≡ x → gives n ≡ bytes_in x → c ≡ left_in x b
        → WroteShortest ws b n c
    go (gives qs) e a t =
        let k : n ≡ bytes_for (length qs) = given_one a in
        record { list = qs; shortest = in_shortest ws ms (length b) qs e; count = k; bytes = rw k t }
    go (refuses m) e a t = absurd (given_refused a)

-- the part x of the buffer that was filled, unless it is empty
pub record PartShortest (ws x : List ℕ) : Type 0 where
  pub list : List Route
  pub shortest : IsShortest 32 (winners (list_of 4 ws)) list
  pub bytes : x ≡ written_plainly list

pub part-shortest : (ws ms : List ℕ) (room : ℕ) (x : List ℕ) → x ≡ front_in (short_in ws ms room) → x ≢ [] → PartShortest ws x
part-shortest ws ms room x e n = go (short_in ws ms room) refl e
  where
    go : (y : Answer (List Route)) → short_in ws ms room ≡ y → x ≡ front_in y → PartShortest ws x
    go (gives qs) v f = record { list = qs; shortest = in_shortest ws ms room qs v; bytes = f }
    go (refuses m) v f = absurd (n f)

-- ---- two outcomes that are allowed agree

pub counted_sharp : (ws ms : List ℕ) (room : ℕ) (r t : Result ℕ Refusal) (ns os : List ℕ) → HasCounted ws ms room r ns
    → HasCounted ws ms room t os → (r ≡ t) × (ns ≡ os)
counted_sharp ws ms room r t ns os p q = (said_one r t (p.answer ∙ sym q.answer), p.scratch ∙ sym q.scratch)

pub shortened_sharp : (ws ms b : List ℕ) (r t : Result ℕ Refusal) (ns os c d : List ℕ) → HasShortened ws ms b r ns c
    → HasShortened ws ms b t os d → (r ≡ t) × (ns ≡ os) × (c ≡ d)
shortened_sharp ws ms b r t ns os c d p q = (
  said_one r t (p.answer ∙ sym q.answer),
  p.scratch ∙ sym q.scratch,
  p.buffer ∙ sym q.buffer,
)

pub part_sharp : (ws ms : List ℕ) (room : ℕ) (x y : List ℕ) → x ≡ front_in (short_in ws ms room)
    → y ≡ front_in (short_in ws ms room)
    → x ≡ y
part_sharp ws ms room x y p q = p ∙ sym q
