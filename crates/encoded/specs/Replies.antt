-- Replies read back from their bytes: what a list of candidates answers fits its bytes, so it is read back as it was.
-- Assumes nothing.
use Rattle.std.specs.Prelude.{◌≡◌, refl, List, [], ◌∷◌, ◌++◌, true, ℕ, suc, ◌+◌, ◌*◌, ◌≤◌, ◌<◌, eqb, length}
use Rattle.std.proofs.Common.{sym, ap, ◌∙◌, arith, ltb-false}
use Rattle.std.proofs.Math.Option.{Option, none, some}
use Rattle.routes.specs.Family.{Family, width}
use Rattle.routes.specs.Route.{route, All, too_long, stray, bad_hop}
use Rattle.routes.specs.Block.{block}
use Rattle.routes.specs.Answers.{is_done, lacking}
use Rattle.routes.specs.Bytes.{replies_bytes, ReplyFits, RepliesFit, replies_at}
use Rattle.logic.specs.Cases.{bool}
use Rattle.laws.specs.Families.{width_low}
use Rattle.laws.specs.Sorted.{all_insert, all_map}
use Rattle.laws.specs.Cells.{cells_most}
use Rattle.laws.specs.Block.{Short, short_block}
use Rattle.laws.specs.Replies.{match_fits, refuse-fits, hop_low, replies_back}
use Rattle.laws.specs.Replies as routes
use Rattle.candidates.specs.Keyed.{find, Every}
use Rattle.candidates.specs.Candidate.{Candidate, candidate, bad_feed, prefix_key, place, key, hop_of, held, IsCandidate}
use Rattle.candidates.specs.Winners.{best, winning, winners}
use Rattle.candidates.specs.Answers.{Update, announce, withdraw, Record, update, lookup, changed, reloaded, answer, reply, next}
use Rattle.candidates.specs.Answers.{replies}
use Rattle.rivals.specs.Maps.{every_map, every_put, every_cut}
use Rattle.rivals.specs.Won.{Just, best_head}
use Rattle.rivals.specs.Updates.{announce_passes, done_sound}

-- hops and lengths that fit a reply: those of every candidate that was accepted
pub record Low (W : ℕ) (c : Candidate) : Type 0 where
  pub len : c.len ≤ W
  pub hop : c.hop ≤ 65535

list_low : (W : ℕ) (cs : List Candidate) → Every (IsCandidate W) cs → Every (Low W) cs
list_low W cs p = every_map (IsCandidate W) (Low W) (λ c i. record { len = i.route.wf.fits; hop = i.route.low }) cs p

winners-low : (W : ℕ) (cs : List Candidate) → Every (Low W) cs → All (routes.Low W) (winners cs)
winners-low W [] p = tt
winners-low W (c ∷ cs) p =
    all_insert (routes.Low W) (route c.addr c.len (winning (c ∷ cs) (prefix_key c))) (winners cs)
    (record { len = p.0.len; hop = low (best (c ∷ cs) (prefix_key c)) (best_head (Low W) c cs (prefix_key c) refl p) })
    (winners-low W cs p.1)
  where
    low : (o : Option Candidate) → Just (Low W) o → hop_of o ≤ 65535
    low none q = absurd q
    low (some d) q = q.hop

module _ (W : ℕ) (w : W < 256) where
  held_low : (cs : List Candidate) (k : ℕ) → Every (Low W) cs → hop_of (find key cs k) ≤ 65535
  held_low [] k p = omega arith
  held_low (c ∷ cs) k p = bool (eqb (key c) k) (λ e. rw e p.0.hop) (λ e. rw e (held_low cs k p.1))

  reloaded_few : (cs ds : List Candidate) (a l : ℕ) → reloaded W cs ds a l < 65536
  reloaded_few cs ds a l =
      bool (eqb (winning cs (a * 256 + l)) (winning ds (a * 256 + l)))
      (λ e. rw e (omega arith))
      (λ e. rw e (omega (arith, cells_most W (route a l 0) (winners cs))))

  -- ---- what the list answers fits

  answer-fits : (A : ℕ) (cs : List Candidate) (u : Update) → Every (Low W) cs → ReplyFits (answer W A cs u)
  unfolding answer
  answer-fits A cs (announce a l h f p) q =
      refuse-fits W w 3 (too_long W l) _ (omega arith) (λ _.
      refuse-fits W w 4 (stray W a l) _ (omega arith) (λ _.
      refuse-fits W w 5 (bad_hop h) _ (omega arith) (λ e.
      refuse-fits W w 10 (bad_feed f) _ (omega arith) (λ _.
      refuse-fits W w 8 (lacking W A (winners cs) a l h) _ (omega arith) (λ _.
      (omega (arith, hop_low W w h e), reloaded_few cs (changed (announce a l h f p) cs) a l))))))
  answer-fits A cs (withdraw a l f) q =
      refuse-fits W w 3 (too_long W l) _ (omega arith) (λ _.
      refuse-fits W w 4 (stray W a l) _ (omega arith) (λ _.
      refuse-fits W w 10 (bad_feed f) _ (omega arith) (λ _.
      refuse-fits W w 7 (eqb (held cs a l f) 0) _ (omega arith) (λ _.
      (omega (arith, held_low cs (place a l f) q), reloaded_few cs (changed (withdraw a l f) cs) a l)))))

  reply-fits : (A : ℕ) (cs : List Candidate) (x : Record) → Every (Low W) cs → ReplyFits (reply W A cs x)
  reply-fits A cs (update u) p = answer-fits A cs u p
  reply-fits A cs (lookup a) p =
      let q = winners-low W cs p in
      let s = all_map (routes.Low W) (Short W) (λ r i. i.len) (winners cs) q in
      match_fits W w (block W (winners cs) a) (short_block W a (winners cs) s) a (winners cs) q

  -- ---- whatever the record, such a list stays one

  done_low : (A : ℕ) (cs : List Candidate) (a l h f p : ℕ) → is_done (answer W A cs (announce a l h f p)) ≡ true
      → Low W (candidate a l f p h)
  done_low A cs a l h f p e =
      let x = announce_passes W a l h f p (done_sound W A cs (announce a l h f p) e) in
      record { len = ltb-false W l x.0.short; hop = hop_low W w h x.1 }

  next_low : (A : ℕ) (cs : List Candidate) (x : Record) → Every (Low W) cs → Every (Low W) (next W A cs x)
  next_low A cs (update (announce a l h f p)) q =
      bool (is_done (answer W A cs (announce a l h f p)))
      (λ e. rw e (every_put key (Low W) (candidate a l f p h) cs (done_low A cs a l h f p e) q))
      (λ e. rw e q)
  next_low A cs (update (withdraw a l f)) q =
      bool (is_done (answer W A cs (withdraw a l f))) (λ e. rw e (every_cut key (Low W) (place a l f) cs q)) (λ e. rw e q)
  next_low A cs (lookup a) q = q

  -- so all of a table's replies fit
  pub replies_fit : (A : ℕ) (cs : List Candidate) (xs : List Record) → Every (Low W) cs → RepliesFit (replies W A cs xs)
  replies_fit A cs [] p = tt
  replies_fit A cs (x ∷ xs) p = (reply-fits A cs x p, replies_fit A (next W A cs x) xs (next_low A cs x p))

-- one for each record
replies_many : (W A : ℕ) (cs : List Candidate) (xs : List Record) → length (replies W A cs xs) ≡ length xs
replies_many W A cs [] = refl
replies_many W A cs (x ∷ xs) = ap suc (replies_many W A (next W A cs x) xs)

-- the replies of a list to records, read back from where their bytes stand
pub answers_back : (F : Family) (A : ℕ) (cs : List Candidate) (xs : List Record) (pre rest : List ℕ)
    → Every (IsCandidate (width F)) cs
    → replies_at (length xs) (pre ++ (replies_bytes (replies (width F) A cs xs) ++ rest)) (length pre) ≡ replies (width F) A cs xs
answers_back F A cs xs pre rest p =
    let W = width F in
    let bs : List ℕ = pre ++ (replies_bytes (replies W A cs xs) ++ rest) in
    ap (λ (n : ℕ). replies_at n bs (length pre)) (sym (replies_many W A cs xs))
    ∙ replies_back pre (replies W A cs xs) rest (replies_fit W (width_low F) A cs xs (list_low W cs p))
