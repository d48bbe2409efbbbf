-- Swapped neighbours, by the answers in the logs: what was accepted is read off the calls' own numbers, and not off a list that
-- nobody has. The three moves, and an example that shows why the fourth is missing. Assumes nothing.
--
--     one router's log      announce 10.1.0.0/16 done    withdraw 10.2.0.0/16 done
--     the other's           withdraw 10.2.0.0/16 done    announce 10.1.0.0/16 done        the tables hold one list
use Rattle.std.specs.Prelude.{◌≡◌, ◌≢◌, true, List, [], ◌∷◌, ℕ}
use Rattle.std.proofs.Common.{sym, ap, ◌∙◌, arith}
use Rattle.routes.specs.Family.{Family, v4}
use Rattle.routes.specs.Answers.{done, refused, is_done}
use Rattle.candidates.specs.Candidate.{Candidate, candidate}
use Rattle.candidates.specs.Answers.{Update, announce, withdraw, target}
use Rattle.candidates.specs.Seen.{table}
use Rattle.rivals.specs.Updates.{plain_done}
use Rattle.words.specs.Table.{seen}
use Rattle.swaps.specs.Moves.{withdrawals, announcements, ahead}
use Rattle.swaps.specs.Fourth as fourth
use Rattle.calls.specs.Swapped.{first_is, second_is, end_is}
use Rattle.calls.specs.ExportedSwapped.{InTurn, CallsSwapped}
use Rattle.calls.proofs.ExportedSwapped.{under, calls_swapped_exported}

-- each update is accepted in the one order where it is in the other
record Done {F : Family} {A : ℕ} {cs : List Candidate} {u v : Update}
    (t : InTurn F A cs u v) (s : InTurn F A cs v u) : Type 0 where
  one : is_done s.second ≡ is_done t.first
  other : is_done s.first ≡ is_done t.second

alike : {F : Family} {A : ℕ} {cs : List Candidate} {u v : Update} (t : InTurn F A cs u v) (s : InTurn F A cs v u)
    → CallsSwapped t s → Done t s
alike t s c = record {
  one = sym (plain_done s.second) ∙ ap is_done (sym c.one) ∙ plain_done t.first;
  other = sym (plain_done s.first) ∙ ap is_done (sym c.other) ∙ plain_done t.second;
}

module _ {F : Family} {A : ℕ} {cs : List Candidate} where
  -- two withdrawals swap freely
  pub withdrawn : (a l f b m g : ℕ) → target (withdraw a l f) ≢ target (withdraw b m g)
      → (t : InTurn F A cs (withdraw a l f) (withdraw b m g)) (s : InTurn F A cs (withdraw b m g) (withdraw a l f))
      → CallsSwapped t s
  withdrawn a l f b m g n t s = calls_swapped_exported (withdrawals a l f b m g n) t s

  -- two announcements both accepted in one order are both accepted in the other
  pub announced : (a l h f p b m i g q : ℕ) → target (announce a l h f p) ≢ target (announce b m i g q)
      → (t : InTurn F A cs (announce a l h f p) (announce b m i g q))
      (s : InTurn F A cs (announce b m i g q) (announce a l h f p))
      → is_done t.first ≡ true → is_done t.second ≡ true
      → (is_done s.first ≡ true) × (is_done s.second ≡ true) × CallsSwapped t s
  announced a l h f p b m i g q n t s x y =
      let c =
      calls_swapped_exported
      (announcements a l h f p b m i g q n (rw (first_is (under t)) at x) (rw (second_is (under t)) at y)) t s in
      let d = alike t s c in
      (d.other ∙ y, d.one ∙ x, c)

  -- a withdrawal moved ahead of an accepted announcement leaves it accepted
  pub moved_ahead : (a l h f p b m g : ℕ) → target (announce a l h f p) ≢ target (withdraw b m g)
      → (t : InTurn F A cs (announce a l h f p) (withdraw b m g)) (s : InTurn F A cs (withdraw b m g) (announce a l h f p))
      → is_done t.first ≡ true → (is_done s.second ≡ true) × CallsSwapped t s
  moved_ahead a l h f p b m g n t s x =
      let c = calls_swapped_exported (ahead a l h f p b m g n (rw (first_is (under t)) at x)) t s in
      ((alike t s c).one ∙ x, c)

-- an accepted announcement moved ahead of a withdrawal may be refused with 8: two arrays, 0.0.0.0/9 withdrawn and 1.0.0.0/9
-- announced, each order by two calls
pub fourth_missing : (p : InTurn v4 2 fourth.cs fourth.go fourth.come) (q : InTurn v4 2 fourth.cs fourth.come fourth.go)
    → (p.first ≡ done 7 128) × (p.second ≡ done 8 128) × (q.first ≡ refused 8)
    × (seen 4 p.words' ≢ seen 4 q.words')
fourth_missing p q = (
  first_is (under p) ∙ (fourth.fourth).0,
  second_is (under p) ∙ (fourth.fourth).1,
  first_is (under q) ∙ (fourth.fourth).2,
  λ e. no (sym (end_is (under p) ∙ ap (table 2) (fourth.fourth).3) ∙ e ∙ end_is (under q) ∙ ap (table 2) (fourth.fourth).4),
)
  where
    no : table 2 (candidate 16777216 9 1 0 8 ∷ []) ≢ table 2 []
    no e = let z : ◌≡◌ {A = ℕ} 1 0 = cc in omega arith
