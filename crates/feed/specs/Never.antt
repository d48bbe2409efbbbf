-- No run writes the reply "refused 2": a table's list answers no record with it, and the reply bytes of a run can be read as
-- replies in one way only, as those answers. Assumes nothing.
--
--     reply   16 h h c c   19 7   17 h h l q   18 q     the kind of a reply says where the next begins
use Rattle.std.specs.Prelude.{◌≡◌, refl, ◌≢◌, Bool, true, false, List, [], ◌∷◌, ◌++◌, ℕ, zero, suc, ◌%◌, eqb, length, get_or}
use Rattle.std.specs.Prelude.{take, drop, Ok, Err}
use Rattle.std.proofs.Common.{sym, ap, ◌∙◌, append-nil, arith, take_at}
use Rattle.logic.specs.Cases.{bool}
use Rattle.numbers.specs.Joined.{joined-append}
use Rattle.routes.specs.Family.{Family, levels, width}
use Rattle.routes.specs.Route.{too_long, stray, bad_hop}
use Rattle.routes.specs.Match.{Match, longest}
use Rattle.routes.specs.Match as match
use Rattle.routes.specs.Answers.{Reply, done, found, none, refused, refuse, lacking, matched}
use Rattle.routes.specs.Bytes.{reply_bytes, replies_bytes, reply_size}
use Rattle.candidates.specs.Candidate.{Candidate, bad_feed, held}
use Rattle.candidates.specs.Winners.{winners}
use Rattle.candidates.specs.Answers.{Update, announce, withdraw, Record, update, lookup, faulty, verdict, answer, reply}
use Rattle.candidates.specs.Runs.{State, ahead, halts, taken, runs, fresh, run}
use Rattle.candidates.specs.Seen.{Seen, misfit, foreign, table, run_on, replied_on}
use Rattle.words.specs.Table.{seen}
use Rattle.feed.specs.Runs.{Ran, run_answer, reported, HasRun}
use Rattle.feed.specs.Sharp.{written_by}

-- ---- the answers

-- not "refused 2", nor with another number that has the same byte
abbrev pub Other : Reply → Type 0
Other (done h c) = Unit {0}
Other (found h l q) = Unit {0}
Other (none q) = Unit {0}
Other (refused n) = n % 256 ≢ 2

other_refuse : (n : ℕ) (b : Bool) (r : Reply) → n % 256 ≢ 2 → Other r → Other (refuse n b r)
other_refuse n true r h o = h
other_refuse n false r h o = o

other_verdict : (W A : ℕ) (cs : List Candidate) (u : Update) → Other (verdict W A cs u)
other_verdict W A cs (announce a l h f p) = other_refuse 8 (lacking W A (winners cs) a l h) _ (λ e. omega arith) tt
other_verdict W A cs (withdraw a l f) = other_refuse 7 (eqb (held cs a l f) 0) _ (λ e. omega arith) tt

other_faulty : (W : ℕ) (u : Update) (r : Reply) → Other r → Other (faulty W u r)
other_faulty W (announce a l h f p) r o =
    other_refuse 3 (too_long W l) _ (λ e. omega arith)
    (other_refuse 4 (stray W a l) _ (λ e. omega arith)
    (other_refuse 5 (bad_hop h) _ (λ e. omega arith) (other_refuse 10 (bad_feed f) r (λ e. omega arith) o)))
other_faulty W (withdraw a l f) r o =
    other_refuse 3 (too_long W l) _ (λ e. omega arith)
    (other_refuse 4 (stray W a l) _ (λ e. omega arith) (other_refuse 10 (bad_feed f) r (λ e. omega arith) o))

other_matched : (m : Match) (q : ℕ) → Other (matched m q)
other_matched match.none q = tt
other_matched (match.found h l) q = tt

-- whatever the table, the list and the record
pub reply_other : (W A : ℕ) (cs : List Candidate) (x : Record) → Other (reply W A cs x)
unfolding answer
reply_other W A cs (update u) = other_faulty W u (verdict W A cs u) (other_verdict W A cs u)
reply_other W A cs (lookup a) = other_matched (longest W a (winners cs)) _

pub reply_never : (W A : ℕ) (cs : List Candidate) (x : Record) → reply W A cs x ≢ refused 2
reply_never W A cs x e = (rw e at (reply_other W A cs x)) refl

-- ---- the replies of a run

abbrev pub Others : List Reply → Type 0
Others [] = Unit {0}
Others (y ∷ ys) = Other y × Others ys

others_append : (xs ys : List Reply) → Others xs → Others ys → Others (xs ++ ys)
others_append [] ys p q = q
others_append (x ∷ xs) ys p q = (p.0, others_append xs ys p.1 q)

bytes-append : (xs ys : List Reply) → replies_bytes (xs ++ ys) ≡ replies_bytes xs ++ replies_bytes ys
bytes-append = joined-append reply_bytes replies_bytes refl (λ x xs. refl)

-- bytes are those of replies, none of them "refused 2"
pub record Replied (bs : List ℕ) : Type 0 where
  pub replies : List Reply
  pub bytes : bs ≡ replies_bytes replies
  pub others : Others replies

-- one reply more
more : (bs : List ℕ) (y : Reply) → Other y → Replied bs → Replied (bs ++ reply_bytes y)
more bs y o p =
    record {
      replies = p.replies ++ (y ∷ []);
      bytes =
          ap (λ xs. xs ++ reply_bytes y) p.bytes
          ∙ ap (λ zs. replies_bytes p.replies ++ zs) (sym (append-nil (reply_bytes y)))
          ∙ sym (bytes-append p.replies (y ∷ []));
      others = others_append p.replies (y ∷ []) p.others (o, tt);
    }

runs-replied : (F : Family) (n A : ℕ) (feed : List ℕ) (room : ℕ) (s : State) → Replied s.replies
    → Replied (runs F n A feed room s).end.replies
unfolding runs
runs-replied F zero A feed room s p = p
runs-replied F (suc n) A feed room s p =
    bool (eqb h 5)
    (λ e. rw e (runs-replied F n A feed room (taken F A feed s) (more s.replies y (reply_other (width F) A s.list x) p)))
    (λ e. rw e (bool (eqb h 0) (λ z. rw z p) (λ z. rw z p)))
  where
    h : ℕ
    h = halts F feed room s.consumed (length s.replies)

    x : Record
    x = ahead F feed s

    y : Reply
    y = reply (width F) A s.list x

pub run-replied : (F : Family) (A : ℕ) (cs : List Candidate) (feed : List ℕ) (room : ℕ)
    → Replied (run F A cs feed room).end.replies
run-replied F A cs feed room =
    runs-replied F (length feed) A feed room (fresh cs) (record { replies = []; bytes = refl; others = tt })

-- ---- bytes read back as replies

-- the bytes of the reply that stands first
abbrev span : List ℕ → ℕ
span bs = reply_size (get_or bs 0 0)

rest : (y : Reply) (bs : List ℕ) → drop (span (reply_bytes y ++ bs)) (reply_bytes y ++ bs) ≡ bs
rest (done h c) bs = refl
rest (found h l q) bs = refl
rest (none q) bs = refl
rest (refused n) bs = refl

-- the first two bytes are not those of "refused 2"
abbrev Begins : List ℕ → Type 0
Begins bs = get_or bs 0 0 ≡ 19 → get_or bs 1 0 ≢ 2

begins : (y : Reply) (bs : List ℕ) → Other y → Begins (reply_bytes y ++ bs)
begins (done h c) bs o = λ e. absurd (omega arith)
begins (found h l q) bs o = λ e. absurd (omega arith)
begins (none q) bs o = λ e. absurd (omega arith)
begins (refused n) bs o = λ _. o

begun : (y : Reply) (bs : List ℕ) → Begins (reply_bytes y ++ bs) → Other y
begun (done h c) bs b = tt
begun (found h l q) bs b = tt
begun (none q) bs b = tt
begun (refused n) bs b = b refl

some : (y : Reply) (bs : List ℕ) → reply_bytes y ++ bs ≢ []
some (done h c) bs e = let z : ◌≡◌ {A = ℕ} 16 0 = ap (λ (xs : List ℕ). get_or xs 0 0) e in omega arith
some (found h l q) bs e = let z : ◌≡◌ {A = ℕ} 17 0 = ap (λ (xs : List ℕ). get_or xs 0 0) e in omega arith
some (none q) bs e = let z : ◌≡◌ {A = ℕ} 18 0 = ap (λ (xs : List ℕ). get_or xs 0 0) e in omega arith
some (refused n) bs e = let z : ◌≡◌ {A = ℕ} 19 0 = ap (λ (xs : List ℕ). get_or xs 0 0) e in omega arith

others_read : (ys zs : List Reply) → Others ys → replies_bytes ys ≡ replies_bytes zs → Others zs
others_read [] [] o e = tt
others_read [] (z ∷ zs) o e = absurd (some z (replies_bytes zs) (sym e))
others_read (y ∷ ys) [] o e = absurd (some y (replies_bytes ys) e)
others_read (y ∷ ys) (z ∷ zs) o e = (
  begun z (replies_bytes zs) (rw e at (begins y (replies_bytes ys) o.0)),
  others_read ys zs o.1
      (sym (rest y (replies_bytes ys)) ∙ ap (λ (bs : List ℕ). drop (span bs) bs) e ∙ rest z (replies_bytes zs)),
)

others_at : (xs : List Reply) (y : Reply) (ys : List Reply) → Others (xs ++ (y ∷ ys)) → Other y
others_at [] y ys o = o.0
others_at (x ∷ xs) y ys o = others_at xs y ys o.1

-- bytes that are those of such replies are not those of replies with "refused 2" among them
no_second : (bs : List ℕ) → Replied bs → (xs ys : List Reply) → bs ≢ replies_bytes (xs ++ (refused 2 ∷ ys))
no_second bs p xs ys e =
    others_at xs (refused 2) ys (others_read p.replies (xs ++ (refused 2 ∷ ys)) p.others (sym p.bytes ∙ e)) refl

-- ---- the bytes that a run writes

written : (F : Family) (s : Seen) (feed b : List ℕ) (r : Ran) → run_answer r ≡ reported (run_on F s feed b)
    → Replied (take (written_by r) (replied_on F s feed b))
written F s feed b (Err n) e = record { replies = []; bytes = refl; others = tt }
written F misfit feed b (Ok r) e = let z : ◌≡◌ {A = ℕ} 0 1 = cc in absurd (omega arith)
written F foreign feed b (Ok r) e = let z : ◌≡◌ {A = ℕ} 0 1 = cc in absurd (omega arith)
written F (table A cs) feed b (Ok r) e =
    let xs = (run F A cs feed (length b)).end.replies in
    let n : r.written ≡ length xs = cc in
    rw (n, take_at xs (drop (length xs) b) (length xs) refl) (run-replied F A cs feed (length b))

-- they are replies, each a list's answer
pub replied : (F : Family) (ws feed b vs c : List ℕ) (r : Ran) → HasRun F ws feed b vs c r → Replied (take (written_by r) c)
replied F ws feed b vs c r p = rw p.replies (written F (seen (levels F) ws) feed b r p.answer)

-- and in whatever way they are read, "refused 2" is none of them
pub never : (F : Family) (ws feed b vs c : List ℕ) (r : Ran) → HasRun F ws feed b vs c r → (xs ys : List Reply)
    → take (written_by r) c ≢ replies_bytes (xs ++ (refused 2 ∷ ys))
never F ws feed b vs c r p = no_second (take (written_by r) c) (replied F ws feed b vs c r p)
