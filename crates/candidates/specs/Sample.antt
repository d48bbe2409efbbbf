-- Document 01's feed of 52 bytes with its records, its 34 reply bytes and its counts, and each way a run can stop: rows of a
-- table, decided by computation. The program's table of 3 arrays runs them; kinds 1 and 2 are of feed 1, preference 0.
-- Assumes nothing.
use Rattle.std.specs.Prelude.{◌≡◌, refl, List, [], ◌∷◌, ℕ}
use Rattle.std.specs.Int.Count.{count_leading_zeros}
use Rattle.numbers.specs.Number.{number}
use Rattle.routes.specs.Family.{v4}
use Rattle.routes.specs.Room.{need, need_to}
use Rattle.routes.specs.Cells.{cells, shown}
use Rattle.routes.specs.Small.{ip}
use Rattle.candidates.specs.Candidate.{candidate}
use Rattle.candidates.specs.Winners.{winners}
use Rattle.candidates.specs.Answers.{announce, withdraw, update, lookup, answer}
use Rattle.candidates.specs.Runs.{Ran, run, runs, halts, records_from, records_of}

-- a cleared table of `room` arrays runs a feed with `replies` reply bytes
pub record Feed : Type 0 where
  pub room : ℕ
  pub sent : List ℕ
  pub replies : ℕ
  pub gives : Ran
  pub arrays : ℕ

abbrev ran : Feed → Feed
ran f =
    record {
      room = f.room;
      sent = f.sent;
      replies = f.replies;
      gives = run v4 f.room [] f.sent f.replies;
      arrays = need 32 (winners (run v4 f.room [] f.sent f.replies).end.list);
    }

abbrev rans : List Feed → List Feed
rans [] = []
rans (f ∷ fs) = ran f ∷ rans fs

-- the 52 bytes of document 01
abbrev pub sample : List ℕ
sample =
    0x01 ∷ 0x0A ∷ 0x00 ∷ 0x00 ∷ 0x00 ∷ 0x08 ∷ 0x00 ∷ 0x01
    ∷ 0x01 ∷ 0x0A ∷ 0x01 ∷ 0x04 ∷ 0x00 ∷ 0x16 ∷ 0x00 ∷ 0x02
    ∷ 0x01 ∷ 0x0A ∷ 0x01 ∷ 0x00 ∷ 0x00 ∷ 0x14 ∷ 0x00 ∷ 0x03
    ∷ 0x03 ∷ 0x0A ∷ 0x01 ∷ 0x05 ∷ 0x09
    ∷ 0x02 ∷ 0x0A ∷ 0x01 ∷ 0x04 ∷ 0x00 ∷ 0x16
    ∷ 0x03 ∷ 0x0A ∷ 0x01 ∷ 0x05 ∷ 0x09
    ∷ 0x02 ∷ 0x0A ∷ 0x01 ∷ 0x04 ∷ 0x00 ∷ 0x17
    ∷ 0x03 ∷ 0x0B ∷ 0x00 ∷ 0x00 ∷ 0x01
    ∷ 0x00 ∷ []

-- a run that stops on an empty list, with the reply bytes ys to n refused records
abbrev idle : ℕ → ℕ → List ℕ → ℕ → Ran
idle stop at ys n = record { stop = stop; end = record { list = []; consumed = at; replies = ys; accepted = 0; refused = n } }

abbrev feed : List ℕ → ℕ → Ran → Feed
feed xs b g = record { room = 3; sent = xs; replies = b; gives = g; arrays = 1 }

abbrev pub feeds : List Feed
feeds =
    record {
      room = 3;
      sent = sample;
      replies = 4096;
      gives = record {
        stop = 0;
        end = record {
          list = candidate (ip 10 0 0 0) 8 1 0 1 ∷ candidate (ip 10 1 0 0) 20 1 0 3 ∷ [];
          consumed = 52;
          replies =
              16 ∷ 0 ∷ 1 ∷ 0 ∷ 1
              ∷ 16 ∷ 0 ∷ 2 ∷ 0 ∷ 4
              ∷ 16 ∷ 0 ∷ 3 ∷ 0 ∷ 12
              ∷ 17 ∷ 0 ∷ 2 ∷ 22 ∷ 22
              ∷ 16 ∷ 0 ∷ 2 ∷ 0 ∷ 4
              ∷ 17 ∷ 0 ∷ 3 ∷ 20 ∷ 20
              ∷ 19 ∷ 7
              ∷ 18 ∷ 8 ∷ [];
          accepted = 4;
          refused = 1;
        };
      };
      arrays = 3;
    }
    -- no byte at all; an unknown kind; a record cut short; an end, and what follows it
    ∷ feed [] 4096 (idle 1 0 [] 0)
    ∷ feed (3 ∷ 0 ∷ 0 ∷ 0 ∷ 0 ∷ 6 ∷ []) 4096 (idle 2 5 (18 ∷ 0 ∷ []) 0)
    ∷ feed (3 ∷ 0 ∷ 0 ∷ 0 ∷ []) 4096 (idle 3 0 [] 0)
    ∷ feed (0 ∷ 3 ∷ []) 0 (idle 0 1 [] 0)
    -- four reply bytes are too few for any record, five are enough for one, and a refused one is replied to
    ∷ feed (3 ∷ 0 ∷ 0 ∷ 0 ∷ 0 ∷ []) 4 (idle 4 0 [] 0)
    ∷ feed (2 ∷ 0 ∷ 0 ∷ 0 ∷ 0 ∷ 40 ∷ 3 ∷ 0 ∷ 0 ∷ 0 ∷ 0 ∷ []) 6 (idle 4 6 (19 ∷ 3 ∷ []) 1)
    -- short comes before no room
    ∷ feed (3 ∷ 0 ∷ []) 0 (idle 3 0 [] 0)
    ∷ []

pub feed-cases : rans feeds ≡ feeds
unfolding answer cells shown need_to runs halts count_leading_zeros number
feed-cases = refl

-- the records that the 52 bytes are, all taken; and of two, the one that there is reply room for
pub sample-records : records_of v4 3 [] sample 4096
    ≡ update (announce (ip 10 0 0 0) 8 1 1 0)
    ∷ update (announce (ip 10 1 4 0) 22 2 1 0)
    ∷ update (announce (ip 10 1 0 0) 20 3 1 0)
    ∷ lookup (ip 10 1 5 9)
    ∷ update (withdraw (ip 10 1 4 0) 22 1)
    ∷ lookup (ip 10 1 5 9)
    ∷ update (withdraw (ip 10 1 4 0) 23 1)
    ∷ lookup (ip 11 0 0 1)
    ∷ []
unfolding answer cells shown need_to records_from halts number
sample-records = refl

pub stopped-records : records_of v4 3 [] (3 ∷ 0 ∷ 0 ∷ 0 ∷ 0 ∷ 3 ∷ 0 ∷ 0 ∷ 0 ∷ 0 ∷ []) 5 ≡ lookup (ip 0 0 0 0) ∷ []
unfolding records_from halts number
stopped-records = refl
