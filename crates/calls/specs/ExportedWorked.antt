-- Worked cases that are feeds said of the C face, of items 7 and 9: whatever toggleash_clear, toggleash_run, toggleash_check and
-- toggleash_write_out of the case's family may give by their contracts, it is what the case says. Assumes nothing.
--
--     toggleash_clear ──▶ words ── toggleash_run ──▶ words' ── toggleash_check ──────▶ the routes, the arrays
--            0                     stop, counts,        └───── toggleash_write_out ──▶ the bytes of the list
--                                  reply bytes
use Rattle.std.specs.Prelude.{◌≡◌, List, [], ◌∷◌, ◌++◌, map, ℕ, ◌≤◌, ◌<◌, length, get_or, take, drop}
use Rattle.std.proofs.Common.{sym, ap, ◌∙◌, lt-ltb, le-ltb}
use Rattle.std.proofs.Math.Seq.{take-append_seam}
use Rattle.routes.specs.Family.{Family, v4, v6, levels, width}
use Rattle.candidates.specs.Keyed.{Every}
use Rattle.candidates.specs.Candidate.{Candidate}
use Rattle.candidates.specs.Answers.{announce}
use Rattle.candidates.specs.Bytes.{written}
use Rattle.candidates.specs.Runs.{Ran, run}
use Rattle.candidates.specs.Seen.{table, check_on, bytes_for}
use Rattle.candidates.specs.Cases.{Case, gots}
use Rattle.candidates.specs.Worked as seven
use Rattle.candidates.specs.IPv6 as nine
use Rattle.candidates.specs.IPv6.{Stop}
use Rattle.encoded.specs.Round.{written_long}
use Rattle.words.specs.Table.{seen}
use Rattle.answers.specs.Numbers.{counted, updated}
use Rattle.toggleash.specs.Face.{HasUpdated, HasWritten, HasRun}
use Rattle.answers.specs.declared.Counted.{Counted}
use Rattle.answers.specs.declared.Updated.{Updated}
use Rattle.answers.specs.declared.Written.{Written}
use Rattle.answers.specs.declared.Ran.{Ran as Fields}
use Rattle.calls.specs.Exported.{Cleared, cleared}

-- ---- a feed

-- toggleash_run of a feed on cleared words of A arrays, with that many reply bytes, as its contract allows
pub record Fed (F : Family) (A : ℕ) (feed : List ℕ) (free : ℕ) : Type 0 where
  pub words : List ℕ
  pub cleared : Cleared F A words
  pub reply : List ℕ
  pub size : length reply ≡ free
  pub words' : List ℕ
  pub reply' : List ℕ
  pub ran : Fields
  pub runs : HasRun F words feed reply words' reply' ran

module _ {F : Family} {A : ℕ} {feed : List ℕ} {free : ℕ} (p : Fed F A feed free) where
  -- the run of the definitions
  abbrev o : Ran
  o = run F A [] feed free

  ran_is : p.ran ≡ record {
    refusal = 0;
    stop = o.stop;
    consumed = o.end.consumed;
    written = length o.end.replies;
    accepted = o.end.accepted;
    refused = o.end.refused;
  }
  ran_is = p.runs.answer ∙ rw (cleared p.cleared, p.size)

  replies_are : p.reply' ≡ o.end.replies ++ drop (length o.end.replies) p.reply
  replies_are = p.runs.replies ∙ rw (cleared p.cleared, p.size)

  list_is : seen (levels F) p.words' ≡ table A o.end.list
  list_is = p.runs.list ∙ rw (cleared p.cleared, p.size)

-- ---- a case

-- its feed, and then the check and the writing out into a buffer that is large enough
pub record Played (F : Family) (c : Case) : Type 0 where
  pub fed : Fed F c.room c.sent c.free
  pub counts : Counted
  pub checks : counts ≡ counted (check_on (width F) (seen (levels F) fed.words'))
  pub buffer : List ℕ
  pub fits : length c.out ≤ length buffer
  pub buffer' : List ℕ
  pub wrote : Written
  pub writes : HasWritten F fed.words' buffer buffer' wrote

-- it goes as the case says
pub record AsSaid {F : Family} (c : Case) (p : Played F c) : Type 0 where
  pub ran : p.fed.ran ≡ record {
    refusal = 0;
    stop = c.stop;
    consumed = c.consumed;
    written = length c.replies;
    accepted = c.accepted;
    refused = c.refused;
  }
  pub replies : p.fed.reply' ≡ c.replies ++ drop (length c.replies) p.fed.reply
  pub counts : p.counts ≡ record { refusal = 0; routes = c.routes; arrays = c.arrays }
  pub wrote : p.wrote ≡ record { refusal = 0; bytes = length c.out }
  pub out : take p.wrote.bytes p.buffer' ≡ c.out
  -- a buffer of fewer bytes gets 9
  pub short : (b b' : List ℕ) (r : Written) → length b < length c.out → HasWritten F p.fed.words' b b' r
      → r ≡ record { refusal = 9; bytes = 0 }

-- by what the definitions give for it
as_said : {F : Family} (c : Case) → get_or (gots F (written F) (c ∷ [])) 0 c ≡ c → (p : Played F c) → AsSaid c p
as_said {F} c e p =
    let cs : List Candidate = (o p.fed).end.list in
    let w : written F cs ≡ c.out = ap (λ (d : Case). d.out) e in
    let n : bytes_for F (length cs) ≡ length c.out = sym (written_long F cs) ∙ ap length w in
    let t = le-ltb (length p.buffer) (bytes_for F (length cs)) (rw n p.fits) in
    let y : p.wrote ≡ record { refusal = 0; bytes = length c.out } = p.writes.answer ∙ rw (list_is p.fed, t, n) in
    let z : p.buffer' ≡ c.out ++ drop (length c.out) p.buffer = p.writes.front ∙ rw (list_is p.fed, t, w) in
    record {
      ran =
          ran_is p.fed
          ∙ ap (λ (d : Case). record {
            refusal = 0;
            stop = d.stop;
            consumed = d.consumed;
            written = length d.replies;
            accepted = d.accepted;
            refused = d.refused;
          }) e;
      replies =
          replies_are p.fed ∙ ap (λ (d : Case). d.replies ++ drop (length d.replies) p.fed.reply) e;
      counts =
          p.checks ∙ rw (list_is p.fed) (ap (λ (d : Case). record { refusal = 0; routes = d.routes; arrays = d.arrays }) e);
      wrote = y;
      out = rw (y, z) (take-append_seam c.out _);
      short = λ b b' r h q.
          q.answer ∙ rw (list_is p.fed, lt-ltb (length b) (bytes_for F (length cs)) (rw n h));
    }

each : (F : Family) (cs : List Case) → gots F (written F) cs ≡ cs → Every (λ c. (p : Played F c) → AsSaid c p) cs
each F [] e = tt
each F (c ∷ cs) e = (as_said c (cc), each F cs (cc))

-- 7.1, 7.3, 7.5, 7.7 and 7.9
pub candidates_exported : Every (λ c. (p : Played v4 c) → AsSaid c p) seven.worked
candidates_exported = each v4 seven.worked (seven.candidate-cases).feeds

-- 9.1, 9.3 and 9.5
pub ipv6_exported : Every (λ c. (p : Played v6 c) → AsSaid c p) nine.worked
ipv6_exported = each v6 nine.worked (nine.ipv6-cases).feeds

-- 9.3, by toggleash_v6_announce of FF00::1: fifteen arrays are too few, and a length of 129 is too long
abbrev deep : ℕ
deep = 338953138925153547590470800371487866881

pub few_exported : (words vs : List ℕ) (r : Updated) → Cleared v6 15 words → HasUpdated v6 words vs (announce deep 128 7 4 9) r
    → r ≡ record { refusal = 8; hop = 0; cells = 0 }
few_exported words vs r c u = u.answer ∙ rw (cleared c) (ap updated (nine.ipv6-cases).few)

pub long_exported : (words vs : List ℕ) (r : Updated) → Cleared v6 16 words → HasUpdated v6 words vs (announce deep 129 7 4 9) r
    → r ≡ record { refusal = 3; hop = 0; cells = 0 }
long_exported words vs r c u = u.answer ∙ rw (cleared c) (ap updated (nine.ipv6-cases).long)

-- ---- 9.7: feeds of no byte or one, to a table of each family

-- the stop and the bytes consumed of a run with 4,096 reply bytes on cleared words of 3 arrays
pub record Stops (s : Stop) (p : Fed s.family 3 s.sent 4096) : Type 0 where
  pub stop : p.ran.stop ≡ s.stop
  pub consumed : p.ran.consumed ≡ s.consumed

-- the row with what the definitions give
abbrev got : Stop → Stop
got s =
    let r : Ran = run s.family 3 [] s.sent 4096 in
    record { family = s.family; sent = s.sent; stop = r.stop; consumed = r.end.consumed }

each_stop : (ss : List Stop) → map got ss ≡ ss → Every (λ s. (p : Fed s.family 3 s.sent 4096) → Stops s p) ss
each_stop [] e = tt
each_stop (s ∷ ss) e = (
  λ p. record {
    stop = ap (λ (x : Fields). x.stop) (ran_is p) ∙ ap (λ (x : Stop). x.stop) q;
    consumed = ap (λ (x : Fields). x.consumed) (ran_is p) ∙ ap (λ (x : Stop). x.consumed) q;
  },
  each_stop ss (cc),
)
  where
    q : got s ≡ s
    q = cc

pub kinds_exported : Every (λ s. (p : Fed s.family 3 s.sent 4096) → Stops s p) nine.stops
kinds_exported = each_stop nine.stops (nine.ipv6-cases).kinds
