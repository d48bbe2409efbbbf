-- What any lent words are seen to be, and what each call then answers and leaves: by this view, and by nothing of the layout.
-- The order of refusals is 1, 3, 4, 5, 10, 2, 7, 8 or 9. Assumes nothing.
use Rattle.std.specs.Prelude.{cond, List, [], ◌++◌, ℕ, ◌+◌, ◌*◌, length, drop, ltb}
use Rattle.routes.specs.Family.{Family, levels, width}
use Rattle.routes.specs.Room.{need}
use Rattle.routes.specs.Answers.{Reply, refused}
use Rattle.routes.specs.Seen.{Answer, gives, refuses, Counts}
pub use Rattle.routes.specs.Seen.{misfits, arrays}
use Rattle.candidates.specs.Candidate.{Candidate}
use Rattle.candidates.specs.Winners.{winners}
use Rattle.candidates.specs.Answers.{Update, Record, faulty, answer, after, looked_up, replies}
use Rattle.candidates.specs.Bytes.{written}
use Rattle.candidates.specs.Runs.{Ran, run, records_of}

-- ---- what words are seen to be

-- a wrong number of words; words that are no table; a table of A arrays that stands for a list
pub data Seen : Type 0 where
  misfit : Seen
  foreign : Seen
  table : (arrays : ℕ) → List Candidate → Seen

-- ---- updates and lookups

abbrev pub answer_on : ℕ → Seen → Update → Reply
answer_on W misfit u = refused 1
answer_on W foreign u = faulty W u (refused 2)
answer_on W (table A cs) u = answer W A cs u

abbrev pub after_on : ℕ → Seen → Update → Seen
after_on W misfit u = misfit
after_on W foreign u = foreign
after_on W (table A cs) u = table A (after W A cs u)

-- a lookup does not check: on words that are no table it gives what the layout's walk gives
abbrev pub lookup_on : ℕ → Seen → Reply → ℕ → Reply
lookup_on W misfit walked a = refused 1
lookup_on W foreign walked a = walked
lookup_on W (table A cs) walked a = looked_up W cs a

-- ---- clearing n words, and the check: its routes are candidates, its arrays those of the prefixes

abbrev pub clear_on : ℕ → Answer (Unit {0})
clear_on n = cond (misfits n) (refuses 1) (gives tt)

abbrev pub cleared_on : ℕ → Seen
cleared_on n = cond (misfits n) misfit (table (arrays n) [])

abbrev pub check_on : ℕ → Seen → Answer Counts
check_on W misfit = refuses 1
check_on W foreign = refuses 2
check_on W (table A cs) = gives (record { routes = length cs; arrays = need W (winners cs) })

-- ---- writing out into a buffer of `room` bytes

-- the bytes of n candidates and the end
abbrev pub bytes_for : Family → ℕ → ℕ
bytes_for F n = (levels F + 6) * n + 1

-- the call beside it: the number of bytes
abbrev pub count_on : Family → Seen → ℕ → Answer ℕ
count_on F misfit room = refuses 1
count_on F foreign room = refuses 2
count_on F (table A cs) room = cond (ltb room (bytes_for F (length cs))) (refuses 9) (gives (bytes_for F (length cs)))

-- the front that is written, empty exactly where that one refuses
abbrev pub front_on : Family → Seen → ℕ → List ℕ
front_on F misfit room = []
front_on F foreign room = []
front_on F (table A cs) room = cond (ltb room (bytes_for F (length cs))) [] (written F cs)

-- ---- the run of a feed, on a lent reply of bytes b

abbrev pub run_on : Family → Seen → List ℕ → List ℕ → Answer Ran
run_on F misfit feed b = refuses 1
run_on F foreign feed b = refuses 2
run_on F (table A cs) feed b = gives (run F A cs feed (length b))

abbrev pub ran_on : Family → Seen → List ℕ → List ℕ → Seen
ran_on F misfit feed b = misfit
ran_on F foreign feed b = foreign
ran_on F (table A cs) feed b = table A (run F A cs feed (length b)).end.list

-- the replies at the front, the bytes past them untouched
abbrev pub replied_on : Family → Seen → List ℕ → List ℕ → List ℕ
replied_on F misfit feed b = b
replied_on F foreign feed b = b
replied_on F (table A cs) feed b =
    (run F A cs feed (length b)).end.replies ++ drop (length (run F A cs feed (length b)).end.replies) b

-- the records that it takes, and the answers to them
abbrev pub records_on : Family → Seen → List ℕ → List ℕ → List Record
records_on F misfit feed b = []
records_on F foreign feed b = []
records_on F (table A cs) feed b = records_of F A cs feed (length b)

abbrev pub answers_on : Family → Seen → List ℕ → List ℕ → List Reply
answers_on F misfit feed b = []
answers_on F foreign feed b = []
answers_on F (table A cs) feed b = replies (width F) A cs (records_of F A cs feed (length b))
