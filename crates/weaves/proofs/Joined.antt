-- Demand 3 of records. A joint list is followed beside the list of one feed alone: at that feed's numbers the two hold the same
-- candidates, and at no other does the feed's own list hold any. The other feed is the same, called the other way round.
-- Assumes nothing.
use Rattle.std.specs.Prelude.{◌≡◌, refl, ◌≢◌, ◌⊎◌, Bool, true, false, cond, not, List, [], ◌∷◌, ◌++◌, ℕ, ◌%◌, ◌≤◌, ◌<◌, eqb}
use Rattle.std.proofs.Common.{sym, ap, ap₂, ◌∙◌, inl, inr, ⊎_elim, true≢false, arith, eq-eqb, ne_eqb}
use Rattle.std.proofs.Math.Option.{Option, none, some, none-ne-some}
use Rattle.routes.specs.Family.{Family, v4, v6, width}
use Rattle.routes.specs.Route.{Route}
use Rattle.routes.specs.Room.{mem, need}
use Rattle.logic.specs.Cases.{bool, same}
use Rattle.logic.specs.Bools.{or_left, or_right}
use Rattle.laws.specs.Families.{width_low}
use Rattle.candidates.specs.Keyed.{Ordered, find, Every}
use Rattle.candidates.specs.Candidate.{Candidate, key, hop_of}
use Rattle.candidates.specs.Answers.{Update, sound, target, answer, after, plain, plains, looked_up, records, replies, leaves}
use Rattle.candidates.specs.Bytes.{written}
use Rattle.rivals.specs.Maps.{every_map, ext}
use Rattle.rivals.specs.Updates.{at, newly, same_done, sound-target, after_other, after_same, unsound_after, unsound_plain}
use Rattle.rivals.specs.Updates.{plainly}
use Rattle.weaves.specs.Feeds.{Weave, nothing, left, right, flip, heard, Apart, named, join, Union, kept, Independent}
use Rattle.weaves.specs.Feeds.{Demand3}
use Rattle.weaves.specs.Steps.{Names}
use Rattle.weaves.specs.Joined.{Owned, Beside, beside_empty, join_same, join_other, join_ordered}
use Rattle.weaves.proofs.Steps.{names_first, names_second, after_fair, fair_plain}

-- ---- a joint run beside the run of one of its feeds

-- N is all that is named, and it fits; `mine` tells the keys of the feed from those of the other
module _ (W : ℕ) (w : W < 256) (A : ℕ) (N : List Route) (fits : need W N ≤ A) (mine : ℕ → Bool) where
  -- an update changes nothing at a key that is not of its feed
  elsewhere : (b : Bool) (u : Update) (cs : List Candidate) (k : ℕ) → Owned W w A N fits mine b u → mine k ≢ b
      → find key (after W A cs u) k ≡ find key cs k
  elsewhere b u cs k o n =
      bool (sound W u)
      (λ p. after_other W A cs u k (λ q. n (ap mine (sym q) ∙ o.owner p)))
      (λ p. ap (λ (ds : List Candidate). find key ds k) (unsound_after W A cs u p))

  -- an update of the other feed
  beside_other : (u : Update) (js ss : List Candidate) → Owned W w A N fits mine false u → Beside W w A N fits mine js ss
      → Beside W w A N fits mine (after W A js u) ss
  beside_other u js ss o b =
      record {
        joint = after_fair W w A N js u o.names b.joint;
        alone = b.alone;
        own = λ k e. elsewhere false u js k o (λ d. true≢false (sym e ∙ d)) ∙ b.own k e;
        others = b.others;
      }

  -- an update of the feed itself is answered alike
  module _ (u : Update) (js ss : List Candidate) (o : Owned W w A N fits mine true u) (b : Beside W w A N fits mine js ss) where
    alike : plain (answer W A js u) ≡ plain (answer W A ss u)
    alike =
        fair_plain W w A N js u fits o.names b.joint
        ∙ bool (sound W u)
        (λ p. ap (λ (x : Option Candidate). plainly W (hop_of x) u) (b.own (at u) (o.owner p)))
        (λ p. unsound_plain W _ _ u p)
        ∙ sym (fair_plain W w A N ss u fits o.names b.alone)

    own-after : (k : ℕ) → mine k ≡ true → find key (after W A js u) k ≡ find key (after W A ss u) k
    own-after k d =
        same (at u) k
        (λ q _. rw (← q) (after_same W A js u b.joint.ordered
        ∙ ap₂ (λ (t : Bool) (x : Option Candidate). cond t (newly u) x) (same_done (answer W A js u) (answer W A ss u) alike)
        (ap (find key js) q ∙ b.own k d ∙ ap (find key ss) (sym q))
        ∙ sym (after_same W A ss u b.alone.ordered)))
        (λ n _. after_other W A js u k n ∙ b.own k d ∙ sym (after_other W A ss u k n))

    beside_own : Beside W w A N fits mine (after W A js u) (after W A ss u)
    beside_own =
        record {
          joint = after_fair W w A N js u o.names b.joint;
          alone = after_fair W w A N ss u o.names b.alone;
          own = own-after;
          others = λ k d. elsewhere true u ss k o (λ e. true≢false (sym e ∙ d)) ∙ b.others k d;
        }

  -- the whole of an interleaving
  pub beside_heard : {xs ys zs : List Update} (v : Weave xs ys zs) (js ss : List Candidate)
      → Every (Owned W w A N fits mine true) xs
      → Every (Owned W w A N fits mine false) ys → Beside W w A N fits mine js ss
      → plains (heard v (replies W A js (records zs))) ≡ plains (replies W A ss (records xs))
  beside_heard nothing js ss o p b = refl
  beside_heard (left x v) js ss o p b =
      ap₂ ◌∷◌ (alike x js ss o.0 b) (beside_heard v (after W A js x) (after W A ss x) o.1 p (beside_own x js ss o.0 b))
  beside_heard (right y v) js ss o p b = beside_heard v (after W A js y) ss o p.1 (beside_other y js ss p.0 b)

  pub beside_leaves : {xs ys zs : List Update} (v : Weave xs ys zs) (js ss : List Candidate)
      → Every (Owned W w A N fits mine true) xs
      → Every (Owned W w A N fits mine false) ys → Beside W w A N fits mine js ss
      → Beside W w A N fits mine (leaves W A js (records zs)) (leaves W A ss (records xs))
  beside_leaves nothing js ss o p b = b
  beside_leaves (left x v) js ss o p b = beside_leaves v (after W A js x) (after W A ss x) o.1 p (beside_own x js ss o.0 b)
  beside_leaves (right y v) js ss o p b = beside_leaves v (after W A js y) ss o p.1 (beside_other y js ss p.0 b)

-- ---- joined lists

-- where something is found, or nothing
option : {P : Type 0} (o : Option Candidate) → (o ≡ none → P) → ((c : Candidate) → o ≡ some c → P) → P
option {P} o x y = go o refl
  where
    go : (q : Option Candidate) → o ≡ q → P
    go none e = x e
    go (some c) e = y c e

-- of two lists that hold no candidate in common
pub join_union : (xs ys : List Candidate) → Ordered key 0 ys → ((k : ℕ) → (find key xs k ≡ none) ⊎ (find key ys k ≡ none))
    → Union xs ys (join xs ys)
join_union xs ys f d =
    record {
      sorted = join_ordered xs ys f;
      apart = d;
      first = λ k c e. join_same xs ys k c e;
      second =
          λ k c e. ⊎_elim (λ (n : find key xs k ≡ none). join_other xs ys k n ∙ e)
          (λ (n : find key ys k ≡ none). absurd (none-ne-some c (sym n ∙ e))) (d k);
      only =
          λ k c e. option (find key xs k) (λ n. inr (sym (join_other xs ys k n) ∙ e))
          (λ x t. inl (t ∙ sym (join_same xs ys k x t) ∙ e));
    }

-- ---- who uses which number

numbers : ℕ → List Update → List ℕ
numbers W [] = []
numbers W (u ∷ us) = cond (sound W u) ((target u).feed ∷ numbers W us) (numbers W us)

-- the feed us uses the number n
uses : ℕ → List Update → ℕ → Bool
uses W us n = mem n (numbers W us)

own-number : (W : ℕ) (ys : List Update) → Every (λ y. sound W y ≡ true → uses W ys (target y).feed ≡ true) ys
unfolding uses numbers
own-number W [] = tt
own-number W (y ∷ ys) = (
  (λ e. rw e (or_left (eqb (target y).feed (target y).feed) _ (eq-eqb (target y).feed (target y).feed refl))),
  every_map (λ u. sound W u ≡ true → uses W ys (target u).feed ≡ true)
      (λ u. sound W u ≡ true → uses W (y ∷ ys) (target u).feed ≡ true)
      (λ u h e. bool (sound W y) (λ d. rw d (or_right (eqb (target y).feed (target u).feed) _ (h e))) (λ d. rw d (h e))) ys
      (own-number W ys),
)

other_number : (W : ℕ) (x : Update) (ys : List Update) → sound W x ≡ true
    → Every (λ y. sound W x ≡ true → sound W y ≡ true → (target x).feed ≢ (target y).feed) ys → uses W ys (target x).feed ≡ false
unfolding uses numbers
other_number W x [] p d = refl
other_number W x (y ∷ ys) p d =
    bool (sound W y)
    (λ e. rw (e, ne_eqb (target y).feed (target x).feed (λ q. d.0 p e (sym q))) (other_number W x ys p d.1))
    (λ e. rw e (other_number W x ys p d.1))

-- the number in a key
key-feed : (c : Candidate) → c.feed < 8 → key c % 8 ≡ c.feed
key-feed c h = omega arith

-- ---- demand 3

module _ (W : ℕ) (w : W < 256) (A : ℕ) (xs ys zs : List Update) (v : Weave xs ys zs)
    (d : Apart W xs ys) (r : need W (named W xs ++ named W ys) ≤ A) where
  abbrev N : List Route
  N = named W xs ++ named W ys

  -- f tells whose a key is, by whether the second feed uses its number
  module _ (f : Bool → Bool) where
    abbrev mine : ℕ → Bool
    mine k = f (uses W ys (k % 8))

    number : (u : Update) → sound W u ≡ true → mine (at u) ≡ f (uses W ys (target u).feed)
    number u e = ap (λ (n : ℕ). f (uses W ys n)) (key-feed (target u) (omega (arith, (sound-target W u e).2)))

    owned : (b : Bool) (us : List Update) → Every (Names W N) us → Every (λ u. sound W u ≡ true → mine (at u) ≡ b) us
        → Every (Owned W w A N r mine b) us
    owned b [] m o = tt
    owned b (u ∷ us) m o = (record { names = m.0; owner = o.0 }, owned b us m.1 o.1)

    firsts : Every (Owned W w A N r mine (f false)) xs
    firsts =
        owned (f false) xs (names_first W xs ys)
        (every_map (λ x. Every (λ y. sound W x ≡ true → sound W y ≡ true → (target x).feed ≢ (target y).feed) ys)
        (λ u. sound W u ≡ true → mine (at u) ≡ f false)
        (λ x h p. number x p ∙ ap f (other_number W x ys p h)) xs d)

    seconds : Every (Owned W w A N r mine (f true)) ys
    seconds =
        owned (f true) ys (names_second W xs ys)
        (every_map (λ y. sound W y ≡ true → uses W ys (target y).feed ≡ true) (λ u. sound W u ≡ true → mine (at u) ≡ f true)
        (λ y h p. number y p ∙ ap f (h p)) ys (own-number W ys))

  abbrev J : List Candidate
  J = kept W A zs

  abbrev F : List Candidate
  F = kept W A xs

  abbrev S : List Candidate
  S = kept W A ys

  abbrev self : Bool → Bool
  self b = b

  first_beside : Beside W w A N r (mine not) J F
  first_beside = beside_leaves W w A N r (mine not) v [] [] (firsts not) (seconds not) (beside_empty W w A N r (mine not))

  second_beside : Beside W w A N r (mine self) J S
  second_beside =
      beside_leaves W w A N r (mine self) (flip v) [] [] (seconds self) (firsts self) (beside_empty W w A N r (mine self))

  none_common : (k : ℕ) → (find key F k ≡ none) ⊎ (find key S k ≡ none)
  none_common k = bool (uses W ys (k % 8)) (λ e. inl (first_beside.others k (ap not e))) (λ e. inr (second_beside.others k e))

  is_join : J ≡ join F S
  is_join =
      ext key 0 J (join F S) first_beside.joint.ordered (join_ordered F S second_beside.alone.ordered) (λ k.
      bool (uses W ys (k % 8))
      (λ e. second_beside.own k e ∙ sym (join_other F S k (first_beside.others k (ap not e))))
      (λ e. first_beside.own k (ap not e) ∙ option (find key F k)
      (λ n. n ∙ sym (join_other F S k n ∙ second_beside.others k e))
      (λ c t. t ∙ sym (join_same F S k c t))))

  independent : Independent W A v
  independent =
      record {
        first_heard = beside_heard W w A N r (mine not) v [] [] (firsts not) (seconds not) (beside_empty W w A N r (mine not));
        second-heard =
            beside_heard W w A N r (mine self) (flip v) [] [] (seconds self) (firsts self) (beside_empty W w A N r (mine self));
        joined = is_join;
        union = join_union F S second_beside.alone.ordered none_common;
        lookups = λ a. ap (λ (cs : List Candidate). looked_up W cs a) is_join;
        out = λ F. ap (written F) is_join;
      }

pub demand_3 : (W : ℕ) → W < 256 → Demand3 W
demand_3 W w A xs ys zs v m = independent W w A xs ys zs v m.apart (omega arith)

-- in both families
pub demand_3_family : (F : Family) → Demand3 (width F)
demand_3_family F = demand_3 (width F) (width_low F)

pub demand_3_ipv4 : Demand3 32
demand_3_ipv4 = demand_3_family v4

pub demand_3_ipv6 : Demand3 128
demand_3_ipv6 = demand_3_family v6
