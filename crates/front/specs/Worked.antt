-- Document 02's worked cases of item 14: rows under one statement, decided by computation. A cleared table of `room` arrays
-- behind a cleared front takes the events. Assumes nothing.
use Rattle.std.specs.Prelude.{◌≡◌, refl, true, false, cond, List, [], ◌∷◌, ℕ, ◌+◌}
use Rattle.std.specs.Int.Count.{count_leading_zeros}
use Rattle.routes.specs.Room.{need_to}
use Rattle.routes.specs.Cells.{cells, shown}
use Rattle.routes.specs.Answers.{Reply, done, found, none, refused, is_refused, count}
use Rattle.routes.specs.Small.{ip}
use Rattle.candidates.specs.Candidate.{Candidate, candidate}
use Rattle.candidates.specs.Answers.{announce, withdraw, update, lookup, answer}
use Rattle.front.specs.Place.{mark, Place, placed, backs}
use Rattle.front.specs.Front.{Event, asks, tick, Both, both, taken, leaves, replies, accepts}

-- the replies, how many are held back after each tick, accepted updates and refused records, and the candidates and places then
pub record Case : Type 0 where
  pub number : ℕ
  pub room : ℕ
  pub sent : List Event
  pub gives : List Reply
  pub back : List ℕ
  pub accepted : ℕ
  pub refusals : ℕ
  pub list : List Candidate
  pub places : List Place

-- ---- what the definitions give

-- n in front, after a tick
abbrev told : Event → ℕ → List ℕ → List ℕ
told (asks r) n ns = ns
told tick n ns = n ∷ ns

abbrev backs_of : ℕ → Both → List Event → List ℕ
backs_of A b [] = []
backs_of A b (e ∷ es) = told e (backs (taken 32 A b e).left.places) (backs_of A (taken 32 A b e).left es)

abbrev accepted_of : List Event → List Reply → ℕ
accepted_of [] ys = 0
accepted_of (e ∷ es) [] = 0
accepted_of (e ∷ es) (y ∷ ys) = cond (accepts e y) 1 0 + accepted_of es ys

abbrev got : Case → Case
got c =
    record {
      number = c.number;
      room = c.room;
      sent = c.sent;
      gives = replies 32 c.room (both [] []) c.sent;
      back = backs_of c.room (both [] []) c.sent;
      accepted = accepted_of c.sent (replies 32 c.room (both [] []) c.sent);
      refusals = count is_refused (replies 32 c.room (both [] []) c.sent);
      list = (leaves 32 c.room (both [] []) c.sent).list;
      places = (leaves 32 c.room (both [] []) c.sent).places;
    }

abbrev gots : List Case → List Case
gots [] = []
gots (c ∷ cs) = got c ∷ gots cs

-- ---- what is sent

abbrev ten : ℕ
ten = ip 10 0 0 0

-- kinds 1, 2 and 3, and 4 and 5
abbrev in1 : ℕ → ℕ → ℕ → Event
in1 a l h = asks (update (announce a l h 1 0))

abbrev out1 : ℕ → ℕ → Event
out1 a l = asks (update (withdraw a l 1))

abbrev ask : ℕ → Event
ask a = asks (lookup a)

abbrev in4 : ℕ → ℕ → ℕ → ℕ → ℕ → Event
in4 a l h f p = asks (update (announce a l h f p))

abbrev out5 : ℕ → ℕ → ℕ → Event
out5 a l f = asks (update (withdraw a l f))

-- four flaps of a prefix by hop 5, of 10.0.0.0 most often, and the replies
abbrev flap_of : ℕ → ℕ → List Event → List Event
flap_of a l es = in1 a l 5 ∷ out1 a l ∷ es

abbrev flaps_of : ℕ → ℕ → List Event → List Event
flaps_of a l es = flap_of a l (flap_of a l (flap_of a l (flap_of a l es)))

abbrev flap : ℕ → List Event → List Event
flap l es = flap_of ten l es

abbrev flaps : ℕ → List Event → List Event
flaps l es = flaps_of ten l es

abbrev flapped : ℕ → List Reply → List Reply
flapped c ys = done 5 c ∷ done 5 c ∷ done 5 c ∷ done 5 c ∷ done 5 c ∷ done 5 c ∷ done 5 c ∷ done 5 c ∷ ys

-- ---- the rows

-- 14.1 four flaps hold back, three ticks let go; 14.3 a withdrawal of what is kept adds 1,000; 14.5 no room at its tick, tried
-- again; 14.7 candidates of one prefix are apart, faults come first; 14.9 held back again before it is let go; 14.11 750 is not
-- below 750
abbrev pub worked : List Case
worked =
    record {
      number = 1;
      room = 3;
      sent =
          flaps 8
          (out1 ten 8 ∷ in1 ten 8 6 ∷ ask (ten + 1) ∷ in1 ten 8 7
          ∷ tick ∷ tick ∷ ask (ten + 1) ∷ tick ∷ ask (ten + 1) ∷ []);
      gives =
          flapped 1
          (refused 7 ∷ done 6 0 ∷ none 0 ∷ done 7 0 ∷ done 0 0 ∷ done 0 0 ∷ none 0 ∷ done 0 0 ∷ found 7 8 8 ∷ []);
      back = 1 ∷ 1 ∷ 0 ∷ [];
      accepted = 10;
      refusals = 1;
      list = candidate ten 8 1 0 7 ∷ [];
      places = placed ten 8 1 (mark 500 false 0) ∷ [];
    }
    ∷ record {
      number = 3;
      room = 3;
      sent = flaps 8 (in1 ten 8 6 ∷ out1 ten 8 ∷ out1 ten 8 ∷ tick ∷ tick ∷ tick ∷ in1 ten 8 8 ∷ []);
      gives = flapped 1 (done 6 0 ∷ done 6 0 ∷ refused 7 ∷ done 0 0 ∷ done 0 0 ∷ done 0 0 ∷ done 8 1 ∷ []);
      back = 1 ∷ 1 ∷ 0 ∷ [];
      accepted = 11;
      refusals = 1;
      list = candidate ten 8 1 0 8 ∷ [];
      places = placed ten 8 1 (mark 625 false 0) ∷ [];
    }
    ∷ record {
      number = 5;
      room = 2;
      sent =
          flaps 9
          (in1 ten 9 6 ∷ in1 (ip 11 0 0 0) 9 1 ∷ tick ∷ tick ∷ tick ∷ tick ∷ out1 (ip 11 0 0 0) 9
          ∷ in4 (ip 12 0 0 0) 9 2 2 0 ∷ tick ∷ out5 (ip 12 0 0 0) 9 2 ∷ tick ∷ ask (ten + 1) ∷ []);
      gives =
          flapped 128
          (done 6 0 ∷ done 1 128 ∷ done 0 0 ∷ done 0 0 ∷ done 0 0 ∷ done 0 0 ∷ done 1 128
          ∷ done 2 128 ∷ done 0 0 ∷ done 2 128 ∷ done 0 0 ∷ found 6 9 9 ∷ []);
      back = 1 ∷ 1 ∷ 1 ∷ 1 ∷ 1 ∷ 0 ∷ [];
      accepted = 13;
      refusals = 0;
      list = candidate ten 9 1 0 6 ∷ [];
      places =
          placed ten 9 1 (mark 62 false 0) ∷ placed (ip 11 0 0 0) 9 1 (mark 250 false 0)
          ∷ placed (ip 12 0 0 0) 9 2 (mark 500 false 0) ∷ [];
    }
    ∷ record {
      number = 7;
      room = 3;
      sent =
          flaps 8
          (in1 ten 8 0 ∷ in1 ten 33 6 ∷ in4 ten 8 6 5 0 ∷ in4 ten 8 6 2 9 ∷ out5 ten 8 3 ∷ in4 ten 8 7 1 3
          ∷ ask (ten + 1) ∷ tick ∷ tick ∷ tick ∷ ask (ten + 1) ∷ out5 ten 8 1 ∷ []);
      gives =
          flapped 1
          (refused 5 ∷ refused 3 ∷ refused 10 ∷ done 6 1 ∷ refused 7 ∷ done 7 0
          ∷ found 6 8 8 ∷ done 0 0 ∷ done 0 0 ∷ done 0 0 ∷ found 7 8 8 ∷ done 7 1 ∷ []);
      back = 1 ∷ 1 ∷ 0 ∷ [];
      accepted = 11;
      refusals = 4;
      list = candidate ten 8 2 9 6 ∷ [];
      places = placed ten 8 1 (mark 1500 false 0) ∷ [];
    }
    ∷ record {
      number = 9;
      room = 3;
      sent = flaps 8 (in1 ten 8 6 ∷ tick ∷ tick ∷ out1 ten 8 ∷ in1 ten 8 7 ∷ tick ∷ tick ∷ ask (ten + 1) ∷ []);
      gives = flapped 1 (done 6 0 ∷ done 0 0 ∷ done 0 0 ∷ done 6 0 ∷ done 7 0 ∷ done 0 0 ∷ done 0 0 ∷ found 7 8 8 ∷ []);
      back = 1 ∷ 1 ∷ 1 ∷ 0 ∷ [];
      accepted = 11;
      refusals = 0;
      list = candidate ten 8 1 0 7 ∷ [];
      places = placed ten 8 1 (mark 500 false 0) ∷ [];
    }
    ∷ record {
      number = 11;
      room = 3;
      sent =
          flaps 8
          (flap 8 (flap 8 (tick ∷ tick ∷ tick ∷ in1 ten 8 6 ∷ ask (ten + 1) ∷ tick ∷ ask (ten + 1) ∷ [])));
      gives =
          flapped 1
          (done 5 0 ∷ done 5 0 ∷ done 5 0 ∷ done 5 0 ∷ done 0 0 ∷ done 0 0 ∷ done 0 0
          ∷ done 6 0 ∷ none 0 ∷ done 0 0 ∷ found 6 8 8 ∷ []);
      back = 1 ∷ 1 ∷ 1 ∷ 0 ∷ [];
      accepted = 13;
      refusals = 0;
      list = candidate ten 8 1 0 6 ∷ [];
      places = placed ten 8 1 (mark 375 false 0) ∷ [];
    }
    -- further ones, number 0: the preference that was kept loses to that of another feed; 12,000 is the most, and five ticks; of
    -- two with room for one, the first in the order of writing out is installed, though the other's place is older
    ∷ record {
      number = 0;
      room = 3;
      sent = flaps 8 (in4 ten 8 6 2 9 ∷ in4 ten 8 7 1 20 ∷ tick ∷ tick ∷ tick ∷ ask (ten + 1) ∷ []);
      gives = flapped 1 (done 6 1 ∷ done 7 0 ∷ done 0 0 ∷ done 0 0 ∷ done 0 0 ∷ found 6 8 8 ∷ []);
      back = 1 ∷ 1 ∷ 0 ∷ [];
      accepted = 10;
      refusals = 0;
      list = candidate ten 8 1 20 7 ∷ candidate ten 8 2 9 6 ∷ [];
      places = placed ten 8 1 (mark 500 false 0) ∷ [];
    }
    ∷ record {
      number = 0;
      room = 3;
      sent =
          flaps 8
          (flaps 8 (flaps 8 (flap 8 (in1 ten 8 6 ∷ tick ∷ tick ∷ tick ∷ tick ∷ ask (ten + 1) ∷ tick ∷ ask (ten + 1) ∷ []))));
      gives =
          flapped 1
          (flapped 0 (flapped 0 (done 5 0 ∷ done 5 0 ∷ done 6 0 ∷ done 0 0 ∷ done 0 0 ∷ done 0 0 ∷ done 0 0
          ∷ none 0 ∷ done 0 0 ∷ found 6 8 8 ∷ [])));
      back = 1 ∷ 1 ∷ 1 ∷ 1 ∷ 0 ∷ [];
      accepted = 27;
      refusals = 0;
      list = candidate ten 8 1 0 6 ∷ [];
      places = placed ten 8 1 (mark 375 false 0) ∷ [];
    }
    ∷ record {
      number = 0;
      room = 2;
      sent =
          flaps_of (ip 11 0 0 0) 9
          (flaps 9 (in1 (ip 11 0 0 0) 9 6 ∷ in1 ten 9 7 ∷ tick ∷ tick ∷ tick ∷ ask (ten + 1) ∷ ask (ip 11 0 0 0) ∷ []));
      gives =
          flapped 128
          (flapped 128 (done 6 0 ∷ done 7 0 ∷ done 0 0 ∷ done 0 0 ∷ done 0 0 ∷ found 7 9 9 ∷ none 8 ∷ []));
      back = 2 ∷ 2 ∷ 1 ∷ [];
      accepted = 18;
      refusals = 0;
      list = candidate ten 9 1 0 7 ∷ [];
      places = placed ten 9 1 (mark 500 false 0) ∷ placed (ip 11 0 0 0) 9 1 (mark 500 true 6) ∷ [];
    }
    ∷ []

pub worked_fronts : gots worked ≡ worked
unfolding answer cells shown need_to count_leading_zeros
worked_fronts = refl
