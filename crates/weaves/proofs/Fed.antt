-- Demand 3 of bytes: the two feeds and an interleaving of them, each as bytes, each run on a cleared table of A arrays with reply
-- room enough. Assumes nothing.
use Rattle.std.specs.Prelude.{◌≡◌, refl, Bool, cond, List, [], ◌∷◌, ℕ, ◌+◌, ◌*◌, ◌≤◌, length}
use Rattle.std.proofs.Common.{sym, ap, ap₂, ◌∙◌, append-nil, arith}
use Rattle.routes.specs.Family.{Family, width}
use Rattle.routes.specs.Answers.{Reply, done, found, none, refused, is_done, is_refused, count}
use Rattle.routes.specs.Bytes.{replies_bytes}
use Rattle.candidates.specs.Answers.{Update, plain, plains, records, replies, leaves}
use Rattle.candidates.specs.Bytes.{Sent, meanings, AllFit}
use Rattle.candidates.specs.Runs.{fresh}
use Rattle.rivals.specs.Updates.{plain_done}
use Rattle.encoded.specs.Encoded.{ended}
use Rattle.weaves.specs.Feeds.{Weave, flip, heard, join, said, Meets, Independent, Closes}
use Rattle.weaves.specs.Feeds.{read_back, Answered}
use Rattle.weaves.specs.Enough.{closed}
use Rattle.weaves.specs.Fed.{Fed, outcome, replied, read_said, heard-count, Together}
use Rattle.weaves.proofs.Joined.{demand_3_family}
use Rattle.weaves.proofs.Enough.{run_enough, enough}

pub answered : {F : Family} {A : ℕ} {us : List Update} (f : Fed F A us) → Answered F A us f.sent f.rest (outcome f)
answered {F} {A} {us} f = rw (run_enough F A [] f.sent f.fits f.rest f.closes f.room f.enough) (of f.rest)
  where
    says : replies (width F) A [] (meanings f.sent) ≡ said (width F) A us
    says = ap (replies (width F) A []) f.meant

    of : (t : List ℕ) → Answered F A us f.sent t (closed t (ended F A (fresh []) f.sent))
    of [] =
        record {
          stop = refl;
          consumed = omega arith;
          replies = ap replies_bytes says;
          accepted = rw says (omega arith);
          refused = rw says (omega arith);
          list = ap (leaves (width F) A []) f.meant;
        }
    of (k ∷ t) =
        record {
          stop = refl;
          consumed = omega arith;
          replies = ap replies_bytes says;
          accepted = rw says (omega arith);
          refused = rw says (omega arith);
          list = ap (leaves (width F) A []) f.meant;
        }

-- five reply bytes for each record are enough
abbrev pub roomy : {F : Family} {A : ℕ} {us : List Update} (ss : List Sent) → meanings ss ≡ records us → AllFit F ss
    → (rest : List ℕ)
    → Closes rest → (room : ℕ) → 5 * length ss ≤ room → Fed F A us
roomy {F} {A} {us} ss m f rest c room h =
    record { sent = ss; meant = m; fits = f; rest = rest; closes = c; room = room; enough = enough F A [] ss f rest c room h }

replied-said : {F : Family} {A : ℕ} {us : List Update} (f : Fed F A us) → replied f ≡ said (width F) A us
replied-said {F} {A} {us} f =
    let bs : List ℕ = replies_bytes (said (width F) A us) in
    ap (read_back us) ((answered f).replies ∙ sym (append-nil bs)) ∙ read_said F A us []

-- ---- the counts

-- counts do not see cells
plain-count : (p : Reply → Bool) → ((y : Reply) → p (plain y) ≡ p y) → (ys : List Reply) → count p (plains ys) ≡ count p ys
plain-count p h [] = refl
plain-count p h (y ∷ ys) = ap₂ (λ (b : Bool) (n : ℕ). cond b 1 0 + n) (h y) (plain-count p h ys)

plain_refused : (y : Reply) → is_refused (plain y) ≡ is_refused y
plain_refused (done h c) = refl
plain_refused (found h l q) = refl
plain_refused (none q) = refl
plain_refused (refused n) = refl

counted : (F : Family) (A : ℕ) {xs ys zs : List Update} (w : Weave xs ys zs) → Independent (width F) A w → (p : Reply → Bool)
    → ((y : Reply) → p (plain y) ≡ p y)
    → count p (said (width F) A zs) ≡ count p (said (width F) A xs) + count p (said (width F) A ys)
counted F A {xs} {ys} {zs} w i p q =
    heard-count F p A [] w
    ∙ ap₂ ◌+◌ (alike (heard w (said (width F) A zs)) (said (width F) A xs) i.first_heard)
    (alike (heard (flip w) (said (width F) A zs)) (said (width F) A ys) i.second-heard)
  where
    alike : (a b : List Reply) → plains a ≡ plains b → count p a ≡ count p b
    alike a b e = sym (plain-count p q a) ∙ ap (count p) e ∙ plain-count p q b

-- ---- demand 3

pub demand_3_fed : {F : Family} {A : ℕ} {xs ys zs : List Update} (w : Weave xs ys zs) → Meets (width F) A xs ys
    → (j : Fed F A zs) (f : Fed F A xs) (s : Fed F A ys) → Together w j f s
demand_3_fed {F} {A} {xs} {ys} {zs} w m j f s =
    record {
      joint = answered j;
      first = answered f;
      second = answered s;
      first_read = rw (replied-said j, replied-said f) i.first_heard;
      second_read = rw (replied-said j, replied-said s) i.second-heard;
      independent = i;
      list = (answered j).list ∙ i.joined ∙ sym (ap₂ join (answered f).list (answered s).list);
      accepted =
          (answered j).accepted ∙ counted F A w i is_done plain_done ∙ sym (ap₂ ◌+◌ (answered f).accepted (answered s).accepted);
      refused =
          (answered j).refused
          ∙ counted F A w i is_refused plain_refused
          ∙ sym (ap₂ ◌+◌ (answered f).refused (answered s).refused);
    }
  where
    i : Independent (width F) A w
    i = demand_3_family F A xs ys zs w m
