-- Routes written out as kind 1 records and run, with reply room enough, on a cleared table that has room for them are taken
-- whole: each is held then, as a candidate of feed 1. So the shortest list, run on a cleared table of the same room, forwards as
-- before. Assumes nothing.
use Rattle.std.specs.Prelude.{◌≡◌, refl, true, List, [], ◌∷◌, ℕ, suc, ◌*◌, ◌^◌, ◌≤◌, ◌<◌, length}
use Rattle.std.proofs.Common.{ap, ◌∙◌, arith, length-append}
use Rattle.routes.specs.Family.{v4}
use Rattle.routes.specs.Route.{Route, All, IsRoute, IsList, held}
use Rattle.routes.specs.Room.{need}
use Rattle.routes.specs.Answers.{is_done, is_refused, count}
use Rattle.laws.specs.Longest.{wfs}
use Rattle.candidates.specs.Candidate.{Candidate}
use Rattle.candidates.specs.Winners.{winners}
use Rattle.candidates.specs.Answers.{announce, Record, update, leaves, replies}
use Rattle.candidates.specs.Bytes.{announces, meanings, sent_bytes, all_bytes, AllFit, announced, plainly, written_plainly}
use Rattle.candidates.specs.Runs.{Ran, run}
use Rattle.encoded.specs.Encoded.{size_back}
use Rattle.encoded.proofs.Encoded.{run-ended}
use Rattle.encoded.specs.Round.{Loaded}
use Rattle.encoded.proofs.Round.{loaded}
use Rattle.shortest.specs.Shortest.{forwards, IsShortest, upto}
use Rattle.shortest.specs.Proved.{upto_all}
use Rattle.shortest.proofs.Proved.{shortest_of}
use Rattle.shortest.proofs.Room.{shortest_room}
use Rattle.shortest.specs.Seen.{shortest4, bytes_for}
use Rattle.listing.specs.Plain.{plain, plain-kind, plain-routes, plain_list, winners-plain}

-- ---- the records

meant : (rs : List Route) → meanings (plainly rs) ≡ meanings (announced (plain rs))
meant [] = refl
meant (r ∷ rs) = ap (◌∷◌ (update (announce r.addr r.len r.hop 1 0))) (meant rs)

fit : (rs : List Route) → All (IsRoute 32) rs → AllFit v4 (plainly rs)
fit [] p = tt
fit (r ∷ rs) p = (
  record {
    kind = omega arith;
    address = p.0.wf.inside;
    tail = (omega (arith, p.0.wf.fits), omega (arith, p.0.low));
  },
  fit rs p.1,
)

as_many : (rs : List Route) → length (plainly rs) ≡ length rs
as_many [] = refl
as_many (r ∷ rs) = ap suc (as_many rs)

pub plain_many : (rs : List Route) → length (plain rs) ≡ length rs
plain_many [] = refl
plain_many (r ∷ rs) = ap suc (plain_many rs)

plain-winners : (rs : List Route) → IsList 32 rs → winners (plain rs) ≡ rs
plain-winners rs l = winners-plain 0 (plain rs) (plain_list rs l).sorted (plain-kind rs) ∙ plain-routes rs

pub plain_long : (rs : List Route) → length (written_plainly rs) ≡ bytes_for (length rs)
plain_long rs = length-append (all_bytes v4 (plainly rs)) (0 ∷ []) ∙ omega (arith, go rs)
  where
    go : (rs : List Route) → length (all_bytes v4 (plainly rs)) ≡ 8 * length rs
    go [] = refl
    go (r ∷ rs) =
        length-append (sent_bytes v4 (announces r.addr r.len r.hop)) (all_bytes v4 (plainly rs))
        ∙ omega (arith, go rs, size_back v4 (announces r.addr r.len r.hop))

-- ---- the run

-- the bytes of the routes, run on a cleared table of A arrays with so many reply bytes
pub record TakenWhole (A : ℕ) (rs : List Route) (room : ℕ) : Type 0 where
  pub stop : (run v4 A [] (written_plainly rs) room).stop ≡ 0
  pub list : (run v4 A [] (written_plainly rs) room).end.list ≡ plain rs
  pub accepted : (run v4 A [] (written_plainly rs) room).end.accepted ≡ length rs
  pub refused : (run v4 A [] (written_plainly rs) room).end.refused ≡ 0

pub routes-taken : (A : ℕ) (rs : List Route) (room : ℕ) → IsList 32 rs → need 32 rs ≤ A → 5 * length rs ≤ room
    → TakenWhole A rs room
routes-taken A rs room l h g =
    let w = plain-winners rs l in
    let e = run-ended v4 A [] (plainly rs) [] room (fit rs l.routes) (rw (as_many rs) g) in
    let q : Loaded 32 (omega arith) A [] (plain rs) = loaded 32 (omega arith) A (plain rs) (plain_list rs l) (rw w h) in
    let m = meant rs in
    record {
      stop = ap (λ (o : Ran). o.stop) e;
      list = ap (λ (o : Ran). o.end.list) e ∙ ap (leaves 32 A []) m ∙ q.list;
      accepted =
          ap (λ (o : Ran). o.end.accepted) e
          ∙ omega (arith, ap (λ (xs : List Record). count is_done (replies 32 A [] xs)) m, q.accepted, plain_many rs);
      refused =
          ap (λ (o : Ran). o.end.refused) e
          ∙ omega (arith, ap (λ (xs : List Record). count is_refused (replies 32 A [] xs)) m, q.refused);
    }

-- ---- the shortest list

module _ (A : ℕ) (qs : List Route) (room : ℕ) (l : IsList 32 qs) (h : need 32 qs ≤ A) (d : 1 ≤ held qs 0 0)
    (u : upto 32 qs ≡ true) (g : 5 * length (shortest4 qs) ≤ room) where
  is : IsShortest 32 qs (shortest4 qs)
  is = shortest_of qs l d u

  pub shortest-taken : TakenWhole A (shortest4 qs) room
  shortest-taken =
      routes-taken A (shortest4 qs) room is.list
      (omega (arith, h, shortest_room 32 32 (omega arith) qs (wfs 32 qs l.routes) d (upto_all 32 qs u))) g

  -- every address gets the same hop
  pub shortest-forwards : (a : ℕ) → a < 2 ^ 32
      → forwards 32 (winners (run v4 A [] (written_plainly (shortest4 qs)) room).end.list) a ≡ forwards 32 qs a
  shortest-forwards a b =
      ap (λ (cs : List Candidate). forwards 32 (winners cs) a) shortest-taken.list
      ∙ ap (λ (rs : List Route). forwards 32 rs a) (plain-winners (shortest4 qs) is.list)
      ∙ is.alike a b
