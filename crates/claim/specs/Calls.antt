-- What each C call of a family promises, by its contract in toggleash/src, as relations between what goes in and what comes out;
-- and calls in a row. The names are those of IPv4, and toggleash_v6_clear and so on are meant as well. Assumes nothing.
--
--     Clears  Checks  Looks  Counts  Updates  Writes  Runs         ws, vs   the lent words before and after
--     ws ── announce ──▶ . ── a run of many ──▶ . ── withdraw ──▶ vs            `Session`
use Rattle.std.specs.Prelude.{◌≡◌, ◌≢◌, List, [], ◌∷◌, ◌++◌, ℕ}
use Rattle.routes.specs.Family.{Family, levels, width}
use Rattle.routes.specs.Answers.{Reply}
use Rattle.candidates.specs.Answers.{Update, update, records}
use Rattle.candidates.specs.Bytes.{Sent, meanings, AllFit}
use Rattle.candidates.specs.Seen.{lookup_on, check_on}
use Rattle.inside.specs.Seen.{within_on}
use Rattle.words.specs.Table.{seen}
use Rattle.lookup.specs.Walk.{walk}
use Rattle.within.specs.Walk as total
use Rattle.weaves.specs.Feeds.{Closes, bytes, read_back}
use Rattle.answers.specs.Numbers.{counted, looked, totalled}
use Rattle.toggleash.specs.Face.{HasCleared, HasUpdated, HasWritten, HasRun}
use Rattle.toggleash.specs.Local.{HasUpdatedLocally, HasRunLocally}
use Rattle.answers.specs.declared.Counted.{Counted}
use Rattle.answers.specs.declared.Found.{Found}
use Rattle.answers.specs.declared.Total.{Total}
use Rattle.answers.specs.declared.Updated.{Updated}
use Rattle.answers.specs.declared.Written.{Written}
use Rattle.answers.specs.declared.Ran.{Ran}
use Rattle.calls.specs.Exported.{Cleared, Asked}

-- ---- one call

-- toggleash_clear
abbrev pub Clears : Family → List ℕ → List ℕ → ℕ → Type 0
Clears F ws vs r = HasCleared F ws vs r

-- toggleash_check
abbrev pub Checks : Family → List ℕ → Counted → Type 0
Checks F ws r = r ≡ counted (check_on (width F) (seen (levels F) ws))

-- toggleash_lookup of an address
abbrev pub Looks : Family → List ℕ → ℕ → Found → Type 0
Looks F ws a r = r ≡ looked (lookup_on (width F) (seen (levels F) ws) (walk (levels F) ws a) a)

-- toggleash_within of an address and a length
abbrev pub Counts : Family → List ℕ → ℕ → ℕ → Total → Type 0
Counts F ws a l r = r ≡ totalled (within_on (width F) (seen (levels F) ws) (total.walk (levels F) ws a l) a l)

-- toggleash_announce and toggleash_withdraw, and those that test what they touch, toggleash_announce_local, ..
abbrev pub Updates : Family → List ℕ → List ℕ → Update → Updated → Type 0
Updates F ws vs u r = HasUpdated F ws vs u r

abbrev pub UpdatesLocally : Family → List ℕ → List ℕ → Update → Updated → Type 0
UpdatesLocally F ws vs u r = HasUpdatedLocally F ws vs u r

-- toggleash_write_out into the buffer b, which becomes c
abbrev pub Writes : Family → List ℕ → List ℕ → List ℕ → Written → Type 0
Writes F ws b c r = HasWritten F ws b c r

-- toggleash_run and toggleash_run_local of a feed, with the reply bytes b, which become c
abbrev pub Runs : Family → List ℕ → List ℕ → List ℕ → List ℕ → List ℕ → Ran → Type 0
Runs F ws feed b vs c r = HasRun F ws feed b vs c r

abbrev pub RunsLocally : Family → List ℕ → List ℕ → List ℕ → List ℕ → List ℕ → Ran → Type 0
RunsLocally F ws feed b vs c r = HasRunLocally F ws feed b vs c r

-- ---- calls in a row

-- updates sent as the bytes of one feed: records that mean them, then nothing or an end. The run had reply room enough, and the
-- replies are read back from the reply bytes
pub record Fed (F : Family) (ws : List ℕ) (us : List Update) (ys : List Reply) (vs : List ℕ) : Type 0 where
  pub sent : List Sent
  pub meant : meanings sent ≡ records us
  pub fits : AllFit F sent
  pub rest : List ℕ
  pub closes : Closes rest
  pub reply : List ℕ
  pub reply' : List ℕ
  pub ran : Ran
  pub runs : Runs F ws (bytes F sent rest) reply vs reply' ran
  pub enough : ran.stop ≢ 4
  pub heard : ys ≡ read_back us reply'

-- updates sent by any runs and single calls, one after the other, and the reply to each
pub data Session (F : Family) : List ℕ → List Update → List Reply → List ℕ → Type 0 where
  nothing : {ws : List ℕ} → Session F ws [] [] ws
  call : {ws vs ws' : List ℕ} {u : Update} {us : List Update} {y : Reply} {ys : List Reply}
      → Asked F ws (update u) y vs → Session F vs us ys ws' → Session F ws (u ∷ us) (y ∷ ys) ws'
  feed : {ws vs ws' : List ℕ} {us us' : List Update} {ys ys' : List Reply}
      → Fed F ws us ys vs → Session F vs us' ys' ws' → Session F ws (us ++ us') (ys ++ ys') ws'

-- a session on words that toggleash_clear left, a table of A arrays
pub record Begun (F : Family) (A : ℕ) (us : List Update) : Type 0 where
  pub words : List ℕ
  pub cleared : Cleared F A words
  pub replies : List Reply
  pub words' : List ℕ
  pub session : Session F words us replies words'
