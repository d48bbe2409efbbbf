-- Item 8 of feeds as bytes: two feeds that differ by one swap of neighbours, each run on words that stand for one list. Assumes
-- nothing.
--
--     before │ x │ y │ after        the replies to before, and to after, are the same bytes; of the two between them each is the
--     before │ y │ x │ after        same but for cells
use Rattle.std.specs.Prelude.{◌≡◌, refl, ◌≢◌, List, [], ◌∷◌, ◌++◌, ℕ, ◌<◌}
use Rattle.std.proofs.Common.{sym, ap, ap₂, ◌∙◌, append_assoc}
use Rattle.routes.specs.Family.{Family, width}
use Rattle.routes.specs.Answers.{Reply}
use Rattle.routes.specs.Bytes.{reply_bytes, replies_bytes}
use Rattle.candidates.specs.Candidate.{Candidate}
use Rattle.candidates.specs.Answers.{Update, Record, update, lookup, answer, after, reply, next, plain, replies, leaves}
use Rattle.candidates.specs.Bytes.{Sent, means, meanings, AllFit}
use Rattle.candidates.specs.Runs.{Ran, fresh, run}
use Rattle.laws.specs.Families.{width_low}
use Rattle.encoded.specs.Encoded.{ended}
use Rattle.weaves.specs.Feeds.{Closes, bytes}
use Rattle.weaves.specs.Enough.{closed}
use Rattle.weaves.proofs.Enough.{run_enough}
use Rattle.swaps.specs.Moves.{Table, Move}
use Rattle.swaps.specs.Any.{swap}
use Rattle.swaps.specs.Proved.{Holds, table_holds, after_holds}

-- ---- records in a row

means-append : (xs ys : List Sent) → meanings (xs ++ ys) ≡ meanings xs ++ meanings ys
means-append [] ys = refl
means-append (x ∷ xs) ys = ap (λ (zs : List Record). means x ∷ zs) (means-append xs ys)

module _ (W A : ℕ) where
  pub replies-append : (cs : List Candidate) (xs ys : List Record)
      → replies W A cs (xs ++ ys) ≡ replies W A cs xs ++ replies W A (leaves W A cs xs) ys
  replies-append cs [] ys = refl
  replies-append cs (x ∷ xs) ys =
      ap (λ (rs : List Reply). reply W A cs x ∷ rs) (replies-append (next W A cs x) xs ys)

  pub leaves-append : (cs : List Candidate) (xs ys : List Record)
      → leaves W A cs (xs ++ ys) ≡ leaves W A (leaves W A cs xs) ys
  leaves-append cs [] ys = refl
  leaves-append cs (x ∷ xs) ys = leaves-append (next W A cs x) xs ys

bytes-append : (xs ys : List Reply) → replies_bytes (xs ++ ys) ≡ replies_bytes xs ++ replies_bytes ys
bytes-append [] ys = refl
bytes-append (x ∷ xs) ys =
    ap (λ (bs : List ℕ). reply_bytes x ++ bs) (bytes-append xs ys) ∙ sym (append_assoc (reply_bytes x) (replies_bytes xs) _)

-- what records leave on a table, a table may hold
leaves_holds : (W : ℕ) (w : W < 256) (A : ℕ) (cs : List Candidate) (xs : List Record) → Holds W w A cs
    → Holds W w A (leaves W A cs xs)
leaves_holds W w A cs [] t = t
leaves_holds W w A cs (update u ∷ xs) t = leaves_holds W w A (after W A cs u) xs (after_holds W w A cs u t)
leaves_holds W w A cs (lookup a ∷ xs) t = leaves_holds W w A cs xs t

-- ---- a feed with two neighbours in its midst

-- x and y, which ask for u and v, between other records
abbrev pub neighbours : List Sent → Sent → Sent → List Sent → List Sent
neighbours xs x y zs = xs ++ (x ∷ y ∷ zs)

-- a run of it on a table of A arrays that holds cs, with room enough for the replies
pub record FeedRun (F : Family) (A : ℕ) (cs : List Candidate) (ss : List Sent) : Type 0 where
  pub fits : AllFit F ss
  pub rest : List ℕ
  pub closes : Closes rest
  pub room : ℕ
  pub enough : (run F A cs (bytes F ss rest) room).stop ≢ 4

abbrev pub outcome : {F : Family} {A : ℕ} {cs : List Candidate} {ss : List Sent} → FeedRun F A cs ss → Ran
outcome {F} {A} {cs} {ss} f = run F A cs (bytes F ss f.rest) f.room

module _ {F : Family} {A : ℕ} {cs : List Candidate} {ss : List Sent} (f : FeedRun F A cs ss) where
  of_rest : (t : List ℕ)
      → ((closed t (ended F A (fresh cs) ss)).end.replies ≡ replies_bytes (replies (width F) A cs (meanings ss)))
      × ((closed t (ended F A (fresh cs) ss)).end.list ≡ leaves (width F) A cs (meanings ss))
  of_rest [] = (refl, refl)
  of_rest (k ∷ t) = (refl, refl)

  is : outcome f ≡ closed f.rest (ended F A (fresh cs) ss)
  is = run_enough F A cs ss f.fits f.rest f.closes f.room f.enough

  pub feed-replies : (outcome f).end.replies ≡ replies_bytes (replies (width F) A cs (meanings ss))
  feed-replies = ap (λ (o : Ran). o.end.replies) is ∙ (of_rest f.rest).0

  pub feed_list : (outcome f).end.list ≡ leaves (width F) A cs (meanings ss)
  feed_list = ap (λ (o : Ran). o.end.list) is ∙ (of_rest f.rest).1

-- the reply bytes of a run: those to the records before the two neighbours, to each of these, and to the records after them
pub record Parts (before : List ℕ) (one two : Reply) (later : List ℕ) (o : Ran) : Type 0 where
  pub replies : o.end.replies ≡ before ++ (reply_bytes one ++ (reply_bytes two ++ later))

-- what the two runs come to: the bytes before and after the neighbours are the same, their own replies but for cells
pub record FeedsSwapped (o p : Ran) : Type 0 where
  pub before : List ℕ
  pub later : List ℕ
  pub x_first : Reply
  pub y_second : Reply
  pub y_first : Reply
  pub x_second : Reply
  pub one_run : Parts before x_first y_second later o
  pub other_run : Parts before y_first x_second later p
  pub x_alike : plain x_first ≡ plain x_second
  pub y_alike : plain y_second ≡ plain y_first
  pub list : o.end.list ≡ p.end.list

module _ (F : Family) (A : ℕ) (cs : List Candidate) (xs zs : List Sent) (u v : Update) where
  abbrev W : ℕ
  W = width F

  abbrev ds : List Candidate
  ds = leaves W A cs (meanings xs)

  -- the replies to such a feed, and its list
  parts : (x y : Sent) → means x ≡ update u → means y ≡ update v → (f : FeedRun F A cs (neighbours xs x y zs))
      → Parts (replies_bytes (replies W A cs (meanings xs))) (answer W A ds u) (answer W A (after W A ds u) v)
      (replies_bytes (replies W A (after W A (after W A ds u) v) (meanings zs))) (outcome f)
  parts x y ex ey f = record {
    replies = feed-replies f
        ∙ ap (λ (rs : List Record). replies_bytes (replies W A cs rs))
        (means-append xs (x ∷ y ∷ zs) ∙ ap₂ (λ (a b : Record). meanings xs ++ (a ∷ b ∷ meanings zs)) ex ey)
        ∙ ap replies_bytes (replies-append W A cs (meanings xs) (update u ∷ update v ∷ meanings zs))
        ∙ bytes-append (replies W A cs (meanings xs)) _;
  }

  left : (x y : Sent) → means x ≡ update u → means y ≡ update v → (f : FeedRun F A cs (neighbours xs x y zs))
      → (outcome f).end.list ≡ leaves W A (after W A (after W A ds u) v) (meanings zs)
  left x y ex ey f =
      feed_list f
      ∙ ap (leaves W A cs) (means-append xs (x ∷ y ∷ zs) ∙ ap₂ (λ (a b : Record). meanings xs ++ (a ∷ b ∷ meanings zs)) ex ey)
      ∙ leaves-append W A cs (meanings xs) (update u ∷ update v ∷ meanings zs)

pub feeds_swapped : (F : Family) (A : ℕ) (cs : List Candidate) (xs zs : List Sent) (u v : Update) (x y : Sent)
    → Table (width F) A cs → Move (width F) A (leaves (width F) A cs (meanings xs)) u v → means x ≡ update u → means y ≡ update v
    → (f : FeedRun F A cs (neighbours xs x y zs)) (g : FeedRun F A cs (neighbours xs y x zs))
    → FeedsSwapped (outcome f) (outcome g)
feeds_swapped F A cs xs zs u v x y t m ex ey f g =
    let W : ℕ = width F in
    let ds = leaves W A cs (meanings xs) in
    let h = leaves_holds W (width_low F) A cs (meanings xs) (table_holds W (width_low F) A cs t) in
    let s = swap W (width_low F) A ds u v h m in
    let late : (es : List Candidate) → List ℕ = λ es. replies_bytes (replies W A es (meanings zs)) in
    record {
      before = replies_bytes (replies W A cs (meanings xs));
      later = late (after W A (after W A ds v) u);
      x_first = answer W A ds u;
      y_second = answer W A (after W A ds u) v;
      y_first = answer W A ds v;
      x_second = answer W A (after W A ds v) u;
      one_run = rw (← s.list) (parts F A cs xs zs u v x y ex ey f);
      other_run = parts F A cs xs zs v u y x ey ex g;
      x_alike = s.one;
      y_alike = s.other;
      list =
          left F A cs xs zs u v x y ex ey f ∙ ap (λ (es : List Candidate). leaves W A es (meanings zs)) s.list
          ∙ sym (left F A cs xs zs v u y x ey ex g);
    }
