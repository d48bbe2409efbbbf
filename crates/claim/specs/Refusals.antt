-- Demand 1 of a family's calls: each refusal has the number of the first reason that holds, and changes nothing. Assumes nothing.
use Rattle.std.specs.Prelude.{◌≡◌, ◌≢◌, Bool, true, false, List, ltb, eqb, length}
use Rattle.std.proofs.Math.Path.{refl, ap}
use Rattle.std.proofs.Common.{sym, ◌∙◌, arith}
use Prim.Native.Nat.{ℕ, zero, suc, ◌+◌, ◌-◌, ◌*◌, ◌/◌, ◌^◌}
use Rattle.logic.specs.Cases.{bool, same}
use Rattle.sizes.specs.Sizes.{hop_bound, last_slot}
use Rattle.routes.specs.Family.{Family, levels, width}
use Rattle.routes.specs.Route.{too_long, stray, bad_hop}
use Rattle.routes.specs.Match.{Match, longest}
use Rattle.routes.specs.Match as best
use Rattle.routes.specs.Block.{block}
use Rattle.routes.specs.Room.{level}
use Rattle.routes.specs.Answers.{Reply, done, found, none, refused, refuse, is_refused, lacking, matched}
use Rattle.routes.specs.Seen.{Answer, gives, refuses, misfits, arrays}
use Rattle.candidates.specs.Candidate.{Candidate, bad_feed, held}
use Rattle.candidates.specs.Winners.{winners}
use Rattle.candidates.specs.Answers.{Update, announce, withdraw, Record, faulty, verdict, answer}
use Rattle.candidates.specs.Runs.{first}
use Rattle.candidates.specs.Seen.{Seen, misfit, foreign, table, bytes_for, clear_on, check_on, lookup_on, answer_on, count_on}
use Rattle.candidates.specs.Seen.{run_on}
use Rattle.laws.specs.Families.{levels_some, levels_few}
use Rattle.inside.specs.Inside.{prefixes_inside}
use Rattle.inside.specs.Seen.{asked, within_on}
use Rattle.numbers.specs.Front.{byte_of, value}
use Rattle.tree.specs.Arrays.{depth_of}
use Rattle.words.specs.Words.{arrays_of, array_count, bests_of, blocks_of, totals_of}
use Rattle.words.specs.Table.{seen}
use Rattle.words.specs.View.{seen-cases}
use Rattle.lookup.specs.Walk.{deeper, turn, walk_from, walk}
use Rattle.within.specs.Walk as total
use Rattle.replies.specs.Said.{said_reply}
use Rattle.update.specs.Anywhere.{local_fault, local_answer, done_answer}
use Rattle.feed.specs.Series.{Series}
use Rattle.feed.specs.Series as rattle
use Rattle.feed.specs.Runs.{Ran as Outcome, reported, run_answer}
use Rattle.feed.specs.Kept.{asked-kept}
use Rattle.writing.specs.Answer.{front_none}
use Rattle.answers.specs.Numbers.{refusal, counted, looked, totalled, updated, wrote, ran}
use Rattle.answers.specs.declared.Counted.{Counted}
use Rattle.answers.specs.declared.Found.{Found}
use Rattle.answers.specs.declared.Total.{Total}
use Rattle.answers.specs.declared.Updated.{Updated}
use Rattle.answers.specs.declared.Written.{Written}
use Rattle.answers.specs.declared.Ran.{Ran}
use Rattle.calls.specs.Held.{held as known}
use Rattle.claim.specs.Calls.{Clears, Updates, UpdatesLocally, Writes, Runs, RunsLocally}
use Rattle.claim.specs.Demands.{is_foreign, list_in, strays, strays_to, Spared, nothing, more, Demand1}

-- ---- the view, by the number of words

-- what is said of words by what they are seen to be, said by their number first
module _ (F : Family) (ws : List ℕ) where
  pub by_size : (P : Bool → Seen → Type 0) → P true misfit → P false foreign
      → ((A : ℕ) (cs : List Candidate) → seen (levels F) ws ≡ table A cs → P false (table A cs))
      → P (misfits (length ws)) (seen (levels F) ws)
  by_size P m f t =
      seen-cases (levels F) ws (levels_some F) (omega (arith, levels_few F))
      (λ e s. rw (e, s) m)
      (λ e b s. rw (e, s) f)
      (λ e b o s. rw (e, s) (t _ _ s))

-- ---- a refusal's number

-- of a reply, 0 for none
abbrev number_of : Reply → ℕ
number_of (done h c) = 0
number_of (found h l q) = 0
number_of (none q) = 0
number_of (refused n) = n

updated-number : (y : Reply) → (updated y).refusal ≡ number_of y
updated-number (done h c) = refl
updated-number (found h l q) = refl
updated-number (none q) = refl
updated-number (refused n) = refl

looked-number : (y : Reply) → (looked y).refusal ≡ number_of y
looked-number (done h c) = refl
looked-number (found h l q) = refl
looked-number (none q) = refl
looked-number (refused n) = refl

matched-number : (m : Match) (q : ℕ) → (looked (matched m q)).refusal ≡ 0
matched-number best.none q = refl
matched-number (best.found h l) q = refl

refuse-number : (n : ℕ) (b : Bool) (y : Reply) → number_of (refuse n b y) ≡ first n b (number_of y)
refuse-number n true y = refl
refuse-number n false y = refl

-- ---- a walk is refused with 2 alone

abbrev Two : Reply → Type 0
Two y = number_of y ≡ first 2 (is_refused y) 0

two_refuse : (b : Bool) (y : Reply) → Two y → Two (refuse 2 b y)
two_refuse true y p = refl
two_refuse false y p = p

two_matched : (m : Match) (q : ℕ) → Two (matched m q)
two_matched best.none q = refl
two_matched (best.found h l) q = refl

walk_two : (L : ℕ) (ws : List ℕ) (x n a : ℕ) (m : Match) → Two (walk_from L ws x n a m)
unfolding walk_from
walk_two L ws x zero a m = refl
walk_two L ws x (suc n) a m =
    let k = L - suc n in
    let i = byte_of L x k in
    let b = bests_of ws a i in
    let c = (arrays_of ws).link a i in
    two_refuse (ltb 8 (b / hop_bound)) _
    (bool (eqb c 0)
    (λ e. rw e (two_refuse (ltb 8 (blocks_of ws a i)) _ (two_matched (deeper (8 * k) m b) _)))
    (λ e. rw e (two_refuse (ltb (array_count ws) c) _ (walk_two L ws x n c (deeper (8 * k) m b)))))

-- the same of a total
abbrev TwoTo : Answer ℕ → Type 0
TwoTo r = (totalled r).refusal ≡ first 2 (strays_to foreign r) 0

turn_two : (A c : ℕ) (on : ℕ → Answer ℕ) → ((c : ℕ) → TwoTo (on c)) → TwoTo (total.turn A c on)
turn_two A c on p =
    bool (eqb c 0) (λ e. rw e refl) (λ e. bool (ltb A c) (λ d. rw (e, d) refl) (λ d. rw (e, d) (p c)))

total_two : (L : ℕ) (ws : List ℕ) (x s k n a : ℕ) → TwoTo (total.walk_from L ws x s k n a)
unfolding total.walk_from
total_two L ws x s k zero a =
    bool (ltb (last_slot * array_count ws) (totals_of ws a s)) (λ e. rw e refl) (λ e. rw e refl)
total_two L ws x s k (suc n) a =
    turn_two (array_count ws) ((arrays_of ws).link a (byte_of L x (k - suc n))) (total.walk_from L ws x s k n)
    (total_two L ws x s k n)

-- ---- the reasons

module _ (F : Family) (ws : List ℕ) where
  abbrev W : ℕ
  W = width F

  check_number : (counted (check_on W (seen (levels F) ws))).refusal
      ≡ first 1 (misfits (length ws)) (first 2 (is_foreign (seen (levels F) ws)) 0)
  check_number =
      by_size F ws (λ m s. (counted (check_on W s)).refusal ≡ first 1 m (first 2 (is_foreign s) 0)) refl refl (λ A cs e. refl)

  lookup_number : (a : ℕ) (y : Reply) → Two y → (looked (lookup_on W (seen (levels F) ws) y a)).refusal
      ≡ first 1 (misfits (length ws)) (first 2 (strays (seen (levels F) ws) y) 0)
  lookup_number a y p =
      by_size F ws (λ m s. (looked (lookup_on W s y a)).refusal ≡ first 1 m (first 2 (strays s y) 0))
      refl (looked-number y ∙ p) (λ A cs e. matched-number (longest W a (winners cs)) (block W (winners cs) a))

  within_number : (a l : ℕ) (r : Answer ℕ) → TwoTo r → (totalled (within_on W (seen (levels F) ws) r a l)).refusal
      ≡ first 1 (misfits (length ws)) (first 3 (too_long W l) (first 4 (stray W a l)
      (first 2 (strays_to (seen (levels F) ws) r) 0)))
  within_number a l r p =
      by_size F ws (λ m s. (totalled (within_on W s r a l)).refusal
      ≡ first 1 m (first 3 (too_long W l) (first 4 (stray W a l) (first 2 (strays_to s r) 0))))
      refl (asked-number r ∙ ap past p)
      (λ A cs e.
      asked-number (gives (prefixes_inside W cs a l)) ∙ ap (λ (b : Bool). past (first 2 b 0)) (sym (none_strays A cs r)))
    where
      past : ℕ → ℕ
      past n = first 3 (too_long W l) (first 4 (stray W a l) n)

      asked-number : (t : Answer ℕ) → (totalled (asked W a l t)).refusal ≡ past (totalled t).refusal
      asked-number t =
          bool (too_long W l) (λ e. rw e refl) (λ e. bool (stray W a l) (λ d. rw (e, d) refl) (λ d. rw (e, d) refl))

      none_strays : (A : ℕ) (cs : List Candidate) (t : Answer ℕ) → strays_to (table A cs) t ≡ false
      none_strays A cs (gives n) = refl
      none_strays A cs (refuses n) = refl

  write_number : (n : ℕ) → (wrote (count_on F (seen (levels F) ws) n)).refusal
      ≡ first 1 (misfits (length ws)) (first 2 (is_foreign (seen (levels F) ws))
      (first 9 (ltb n (bytes_for F (length (list_in (seen (levels F) ws))))) 0))
  write_number n =
      by_size F ws (λ m s. (wrote (count_on F s n)).refusal
      ≡ first 1 m (first 2 (is_foreign s) (first 9 (ltb n (bytes_for F (length (list_in s)))) 0)))
      refl refl (λ A cs e. bool (ltb n (bytes_for F (length cs))) (λ d. rw d refl) (λ d. rw d refl))

  run-number : (feed b : List ℕ) → (ran (reported (run_on F (seen (levels F) ws) feed b))).refusal
      ≡ first 1 (misfits (length ws)) (first 2 (is_foreign (seen (levels F) ws)) 0)
  run-number feed b =
      by_size F ws (λ m s. (ran (reported (run_on F s feed b))).refusal ≡ first 1 m (first 2 (is_foreign s) 0))
      refl refl (λ A cs e. refl)

  -- ---- updates

  -- of a table of A arrays, A is read from the number of words
  arrays_are : (A : ℕ) (cs : List Candidate) → seen (levels F) ws ≡ table A cs → arrays (length ws) ≡ A
  arrays_are A cs e = (known F A cs ws e).arrays

  announce_number : (a l h f p : ℕ) → (updated (answer_on W (seen (levels F) ws) (announce a l h f p))).refusal
      ≡ first 1 (misfits (length ws)) (first 3 (too_long W l) (first 4 (stray W a l) (first 5 (bad_hop h) (first 10 (bad_feed f)
      (first 2 (is_foreign (seen (levels F) ws))
      (first 8 (lacking W (arrays (length ws)) (winners (list_in (seen (levels F) ws))) a l h) 0))))))
  unfolding answer
  announce_number a l h f p =
      updated-number (answer_on W (seen (levels F) ws) (announce a l h f p))
      ∙ by_size F ws (λ m s. number_of (answer_on W s (announce a l h f p))
      ≡ first 1 m (past (first 2 (is_foreign s) (first 8 (lacking W (arrays (length ws)) (winners (list_in s)) a l h) 0))))
      refl (faulty-number (refused 2))
      (λ A cs e. faulty-number (verdict W A cs (announce a l h f p))
      ∙ ap past (refuse-number 8 (lacking W A (winners cs) a l h) _
      ∙ ap (λ (n : ℕ). first 8 (lacking W n (winners cs) a l h) 0) (sym (arrays_are A cs e))))
    where
      past : ℕ → ℕ
      past n = first 3 (too_long W l) (first 4 (stray W a l) (first 5 (bad_hop h) (first 10 (bad_feed f) n)))

      faulty-number : (y : Reply) → number_of (faulty W (announce a l h f p) y) ≡ past (number_of y)
      faulty-number y =
          refuse-number 3 (too_long W l) _
          ∙ ap (first 3 (too_long W l)) (refuse-number 4 (stray W a l) _
          ∙ ap (first 4 (stray W a l)) (refuse-number 5 (bad_hop h) _
          ∙ ap (first 5 (bad_hop h)) (refuse-number 10 (bad_feed f) y)))

  withdraw_number : (a l f : ℕ) → (updated (answer_on W (seen (levels F) ws) (withdraw a l f))).refusal
      ≡ first 1 (misfits (length ws)) (first 3 (too_long W l) (first 4 (stray W a l) (first 10 (bad_feed f)
      (first 2 (is_foreign (seen (levels F) ws)) (first 7 (eqb (held (list_in (seen (levels F) ws)) a l f) 0) 0)))))
  unfolding answer
  withdraw_number a l f =
      updated-number (answer_on W (seen (levels F) ws) (withdraw a l f))
      ∙ by_size F ws (λ m s. number_of (answer_on W s (withdraw a l f))
      ≡ first 1 m (past (first 2 (is_foreign s) (first 7 (eqb (held (list_in s) a l f) 0) 0))))
      refl (faulty-number (refused 2))
      (λ A cs e. faulty-number (verdict W A cs (withdraw a l f))
      ∙ ap past (refuse-number 7 (eqb (held cs a l f) 0) _))
    where
      past : ℕ → ℕ
      past n = first 3 (too_long W l) (first 4 (stray W a l) (first 10 (bad_feed f) n))

      faulty-number : (y : Reply) → number_of (faulty W (withdraw a l f) y) ≡ past (number_of y)
      faulty-number y =
          refuse-number 3 (too_long W l) _
          ∙ ap (first 3 (too_long W l)) (refuse-number 4 (stray W a l) _
          ∙ ap (first 4 (stray W a l)) (refuse-number 10 (bad_feed f) y))

-- ---- the calls that test what they touch

done_number : (L : ℕ) (ws : List ℕ) (u : Update) → number_of (done_answer L ws u) ≡ 0
unfolding done_answer
done_number L ws (announce a l h f p) = refl
done_number L ws (withdraw a l f) = refl

local_number : (L : ℕ) (ws : List ℕ) (u : Update) → number_of (local_answer L ws u) ≡ local_fault L ws u
local_number L ws u =
    same (local_fault L ws u) 0 (λ q e. rw e (done_number L ws u ∙ sym q)) (λ q e. rw e refl)

-- ---- nothing changes

module _ (F : Family) where
  clear_kept : (ws vs : List ℕ) (r : ℕ) → Clears F ws vs r → r ≢ 0 → vs ≡ ws
  clear_kept ws vs r p n = go (clear_on (length ws)) refl
    where
      go : (a : Answer (Unit {0})) → clear_on (length ws) ≡ a → vs ≡ ws
      go (gives u) e = absurd (n (p.answer ∙ ap refusal e))
      go (refuses m) e = p.kept m e

  clear_number_fact : (n : ℕ) → refusal (clear_on n) ≡ first 1 (misfits n) 0
  clear_number_fact n = bool (misfits n) (λ e. rw e refl) (λ e. rw e refl)

  update_kept : (ws vs : List ℕ) (u : Update) (r : Updated) → Updates F ws vs u r → r.refusal ≢ 0 → vs ≡ ws
  update_kept ws vs u r p n = go (answer_on (width F) (seen (levels F) ws) u) refl
    where
      told : (y : Reply) → answer_on (width F) (seen (levels F) ws) u ≡ y → r.refusal ≡ (updated y).refusal
      told y e = ap (λ (x : Updated). x.refusal) (p.answer ∙ ap updated e)

      go : (y : Reply) → answer_on (width F) (seen (levels F) ws) u ≡ y → vs ≡ ws
      go (done h c) e = absurd (n (told (done h c) e))
      go (found h l q) e = absurd (n (told (found h l q) e))
      go (none q) e = absurd (n (told (none q) e))
      go (refused m) e = p.kept m e

  local_kept : (ws vs : List ℕ) (u : Update) (r : Updated) → UpdatesLocally F ws vs u r → r.refusal ≢ 0 → vs ≡ ws
  local_kept ws vs u r p n = p.call.kept (told (said_reply p.said) refl)
    where
      told : (y : Reply) → said_reply p.said ≡ y → is_refused (said_reply p.said) ≡ true
      told (done h c) e = absurd (n (ap (λ (x : Updated). x.refusal) (p.answer ∙ ap updated e)))
      told (found h l q) e = absurd (n (ap (λ (x : Updated). x.refusal) (p.answer ∙ ap updated e)))
      told (none q) e = absurd (n (ap (λ (x : Updated). x.refusal) (p.answer ∙ ap updated e)))
      told (refused m) e = ap is_refused e

  write_kept : (ws b c : List ℕ) (r : Written) → Writes F ws b c r → r.refusal ≢ 0 → c ≡ b
  write_kept ws b c r p n = go (count_on F (seen (levels F) ws) (length b)) refl
    where
      go : (a : Answer ℕ) → count_on F (seen (levels F) ws) (length b) ≡ a → c ≡ b
      go (gives m) e = absurd (n (ap (λ (x : Written). x.refusal) (p.answer ∙ ap wrote e)))
      go (refuses m) e = p.front ∙ rw (front_none F (seen (levels F) ws) (length b) m e)

  run-kept : (ws feed b vs c : List ℕ) (r : Ran) → Runs F ws feed b vs c r → r.refusal ≢ 0 → (vs ≡ ws) × (c ≡ b)
  run-kept ws feed b vs c r p n = go (seen (levels F) ws) refl
    where
      go : (s : Seen) → seen (levels F) ws ≡ s → (vs ≡ ws) × (c ≡ b)
      go misfit e = (p.kept 1 (rw e), p.replies ∙ rw e)
      go foreign e = (p.kept 2 (rw e), p.replies ∙ rw e)
      go (table A cs) e = absurd (n (ap (λ (x : Ran). x.refusal) (rw e at p.answer)))

  local_run-kept : (ws feed b vs c : List ℕ) (r : Ran) → RunsLocally F ws feed b vs c r → r.refusal ≢ 0
      → (vs ≡ ws) × (c ≡ b)
  local_run-kept ws feed b vs c r p n =
      bool (misfits (length ws))
      (λ m. ((p.call.wrong m).1, (p.call.wrong m).2))
      (λ m. absurd (n (ap (λ (x : Ran). x.refusal) (p.answer ∙ ap (λ (o : Outcome). ran (run_answer o)) (p.call.right m).0))))

  local_run-number : (ws feed b vs c : List ℕ) (r : Ran) → RunsLocally F ws feed b vs c r
      → r.refusal ≡ first 1 (misfits (length ws)) 0
  local_run-number ws feed b vs c r p =
      bool (misfits (length ws))
      (λ m. rw m (told (p.call.wrong m).0))
      (λ m. rw m (told (p.call.right m).0))
    where
      told : {o : Outcome} → p.said ≡ o → r.refusal ≡ (ran (run_answer o)).refusal
      told e = ap (λ (x : Ran). x.refusal) (p.answer ∙ ap (λ (o : Outcome). ran (run_answer o)) e)

  spared : {ws vs : List ℕ} {xs : List Record} {ys : List Reply} → Series (levels F) ws xs ys vs → Spared ws ys vs
  spared rattle.nothing = nothing
  spared (rattle.more a s) = more (asked-kept a) (spared s)

  -- ---- the demand

  pub demand_1 : Demand1 F
  demand_1 = record {
    clear = λ ws vs r p. p.answer ∙ clear_number_fact (length ws);
    check = λ ws r p. ap (λ (x : Counted). x.refusal) p ∙ check_number F ws;
    lookup = λ ws a r p.
        ap (λ (x : Found). x.refusal) p
        ∙ lookup_number F ws a (walk (levels F) ws a) (walk_two (levels F) ws a (levels F) 1 best.none);
    within = λ ws a l r p.
        ap (λ (x : Total). x.refusal) p
        ∙ within_number F ws a l (total.walk (levels F) ws a l)
        (total_two (levels F) ws a (2 ^ depth_of l + value (levels F) a (level l) (depth_of l)) (level l) (level l) 1);
    announce = λ ws vs a l h f p r q. ap (λ (x : Updated). x.refusal) q.answer ∙ announce_number F ws a l h f p;
    withdraw = λ ws vs a l f r q. ap (λ (x : Updated). x.refusal) q.answer ∙ withdraw_number F ws a l f;
    write = λ ws b c r p. ap (λ (x : Written). x.refusal) p.answer ∙ write_number F ws (length b);
    run = λ ws feed b vs c r p. ap (λ (x : Ran). x.refusal) p.answer ∙ run-number F ws feed b;
    local = λ ws vs u r p.
        ap (λ (x : Updated). x.refusal) (p.answer ∙ ap updated p.call.answer)
        ∙ updated-number (local_answer (levels F) ws u) ∙ local_number (levels F) ws u;
    local_run_fact = λ ws feed b vs c r p. local_run-number ws feed b vs c r p;
    clear_kept = clear_kept;
    update_kept = update_kept;
    local_kept = local_kept;
    write_kept = write_kept;
    run-kept = run-kept;
    local_run-kept = local_run-kept;
    inside = λ ws feed b vs c r p. spared p.series;
  }
