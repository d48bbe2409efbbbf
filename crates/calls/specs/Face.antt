-- How sharp the contracts of the C face are: its calls answer in plain numbers, and two outcomes that a contract allows agree as
-- in Sharp. Assumes nothing.
use Rattle.std.specs.Prelude.{◌≡◌, List, ℕ, length}
use Rattle.std.proofs.Common.{sym, ◌∙◌}
use Rattle.routes.specs.Family.{Family, levels, width}
use Rattle.routes.specs.Route.{Route}
use Rattle.routes.specs.Answers.{Reply, refused}
use Rattle.routes.specs.Seen.{Answer, refuses}
use Rattle.candidates.specs.Answers.{Update}
use Rattle.candidates.specs.Seen.{answer_on, lookup_on, clear_on, check_on, run_on}
use Rattle.words.specs.Table.{seen}
use Rattle.lookup.specs.Walk.{walk}
use Rattle.inside.specs.Seen.{within_on}
use Rattle.within.specs.Walk as total
use Rattle.lengths.specs.Marks.{words_for}
use Rattle.listing.specs.Listed.{listed, listed_in}
use Rattle.lengths_build.specs.Answer.{need_on, build_on}
use Rattle.listing.specs.Records.{Bytes}
use Rattle.lengths.specs.Layout as copy
use Rattle.lengths_build.specs.Sharp.{Alike}
use Rattle.lengths_build.proofs.Sharp.{words_sharp}
use Rattle.answers.specs.Numbers.{counted, looked, totalled}
use Rattle.toggleash.specs.Face.{HasCleared, HasUpdated, HasWritten, HasRun}
use Rattle.answers.specs.Numbers.{needed, matched}
use Rattle.toggleash.specs.Copies.{HasBuilt}
use Rattle.answers.specs.declared.Counted.{Counted}
use Rattle.answers.specs.declared.Found.{Found}
use Rattle.answers.specs.declared.Total.{Total}
use Rattle.answers.specs.declared.Updated.{Updated}
use Rattle.answers.specs.declared.Written.{Written}
use Rattle.answers.specs.declared.Ran.{Ran as Fields}
use Rattle.answers.specs.declared.Needed.{Needed}
use Rattle.toggleash.specs.declared.copies.Built.{Built}
use Rattle.answers.specs.declared.Matched.{Matched}

-- one answer, one view of the words left, and one content of them where the call refused
pub record Agree (F : Family) {T : Type 0} (Refused : Type 0) (vs vs' : List ℕ) (r r' : T) : Type 0 where
  pub answer : r ≡ r'
  pub seen : seen (levels F) vs ≡ seen (levels F) vs'
  pub words : Refused → vs ≡ vs'

-- refused with some number
pub record By {T : Type 0} (a : Answer T) : Type 0 where
  pub number : ℕ
  pub is : a ≡ refuses number

pub record ByReply (y : Reply) : Type 0 where
  pub number : ℕ
  pub is : y ≡ refused number

pub clear_agrees : (F : Family) (ws vs vs' : List ℕ) (r r' : ℕ) → HasCleared F ws vs r → HasCleared F ws vs' r'
    → Agree F (By (clear_on (length ws))) vs vs' r r'
clear_agrees F ws vs vs' r r' p q = record {
  answer = p.answer ∙ sym q.answer;
  seen = p.left ∙ sym q.left;
  words = λ b. p.kept b.number b.is ∙ sym (q.kept b.number b.is);
}

pub check_agrees : (F : Family) (ws : List ℕ) (r r' : Counted) → r ≡ counted (check_on (width F) (seen (levels F) ws))
    → r' ≡ counted (check_on (width F) (seen (levels F) ws)) → r ≡ r'
check_agrees F ws r r' p q = p ∙ sym q

pub lookup_agrees : (F : Family) (ws : List ℕ) (a : ℕ) (r r' : Found)
    → r ≡ looked (lookup_on (width F) (seen (levels F) ws) (walk (levels F) ws a) a)
    → r' ≡ looked (lookup_on (width F) (seen (levels F) ws) (walk (levels F) ws a) a) → r ≡ r'
lookup_agrees F ws a r r' p q = p ∙ sym q

pub within_agrees : (F : Family) (ws : List ℕ) (a l : ℕ) (r r' : Total)
    → r ≡ totalled (within_on (width F) (seen (levels F) ws) (total.walk (levels F) ws a l) a l)
    → r' ≡ totalled (within_on (width F) (seen (levels F) ws) (total.walk (levels F) ws a l) a l) → r ≡ r'
within_agrees F ws a l r r' p q = p ∙ sym q

pub update_agrees : (F : Family) (ws : List ℕ) (u : Update) (vs vs' : List ℕ) (r r' : Updated) → HasUpdated F ws vs u r
    → HasUpdated F ws vs' u r'
    → Agree F (ByReply (answer_on (width F) (seen (levels F) ws) u)) vs vs' r r'
update_agrees F ws u vs vs' r r' p q = record {
  answer = p.answer ∙ sym q.answer;
  seen = p.list ∙ sym q.list;
  words = λ b. p.kept b.number b.is ∙ sym (q.kept b.number b.is);
}

pub write_out_agrees : (F : Family) (ws b c c' : List ℕ) (r r' : Written) → HasWritten F ws b c r
    → HasWritten F ws b c' r' → (r ≡ r') × (c ≡ c')
write_out_agrees F ws b c c' r r' p q = (p.answer ∙ sym q.answer, p.front ∙ sym q.front)

pub run_agrees : (F : Family) (ws bytes b vs vs' c c' : List ℕ) (r r' : Fields) → HasRun F ws bytes b vs c r
    → HasRun F ws bytes b vs' c' r' → Agree F (By (run_on F (seen (levels F) ws) bytes b)) vs vs' r r' × (c ≡ c')
run_agrees F ws bytes b vs vs' c c' r r' p q = (
  record {
    answer = p.answer ∙ sym q.answer;
    seen = p.list ∙ sym q.list;
    words = λ d. p.kept d.number d.is ∙ sym (q.kept d.number d.is);
  },
  p.replies ∙ sym q.replies,
)

-- ---- the copy

pub copy_need_agrees : (bytes : List ℕ) (r r' : Needed) → r ≡ needed (need_on (listed_in bytes))
    → r' ≡ needed (need_on (listed_in bytes)) → r ≡ r'
copy_need_agrees bytes r r' p q = p ∙ sym q

pub copy_lookup_agrees : (ws : List ℕ) (a : ℕ) (r r' : Matched) → r ≡ matched (copy.walk ws a) → r' ≡ matched (copy.walk ws a)
    → r ≡ r'
copy_lookup_agrees ws a r r' p q = p ∙ sym q

-- one answer, one content of the words where the call refused, and words that no lookup tells apart
pub record AgreeBuilt (bytes ws vs vs' : List ℕ) (r r' : Built) : Type 0 where
  pub answer : r ≡ r'
  pub words : By (build_on (listed_in bytes) (length ws)) → vs ≡ vs'
  pub alike : (rs : List Route) → listed_in bytes ≡ listed rs → Alike (words_for rs) vs vs'

pub copy_build_agrees : (bytes ws vs vs' : List ℕ) (r r' : Built) → Bytes bytes → HasBuilt bytes ws vs r
    → HasBuilt bytes ws vs' r'
    → AgreeBuilt bytes ws vs vs' r r'
copy_build_agrees bytes ws vs vs' r r' b p q = record {
  answer = p.answer ∙ sym q.answer;
  words = λ d. p.kept d.number d.is ∙ sym (q.kept d.number d.is);
  alike = λ rs e. words_sharp bytes ws vs vs' rs b e p.left q.left;
}
