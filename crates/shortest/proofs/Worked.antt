-- Document 02's worked cases of item 12 are as the definitions say: the list is found from the routes, and the rows are decided
-- by computation. Assumes nothing.
use Rattle.std.specs.Prelude.{◌≡◌, refl, Bool, true, false, cond, ◌&&◌, List, [], ◌∷◌, ℕ, ◌-◌, ◌%◌, ◌^◌, eqb, leb, ltb}
use Rattle.std.specs.Prelude.{length}
use Rattle.std.proofs.Common.{ap, ◌∙◌, arith, leb-true, ltb-true, eqb-true}
use Rattle.std.specs.Int.Count.{count_trailing_zeros}
use Rattle.std.proofs.lemmas.Bool.{eqb-false}
use Rattle.logic.specs.Bools.{and_to}
use Rattle.logic.specs.Cases.{bool}
use Rattle.numbers.specs.Digits.{digits}
use Rattle.routes.specs.Route.{Route, All, Wf, held}
use Rattle.routes.specs.Seen.{Answer, gives, refuses}
use Rattle.candidates.specs.Winners.{winners}
use Rattle.candidates.specs.Seen.{Seen, misfit, foreign, table}
use Rattle.shortest.specs.HopSet.{bit, has}
use Rattle.shortest.specs.Shortest.{upto}
use Rattle.shortest.specs.Proved.{upto_all}
use Rattle.shortest.specs.Flat.{holds_b}
use Rattle.shortest.specs.Found.{known, set_by, routes_by}
use Rattle.shortest.specs.Seen.{bytes_for, short_for, short_on, left_in}
use Rattle.shortest.specs.Worked.{Case, row, rows, AllHold, Stand}
use Rattle.shortest.proofs.Found.{shortest_by}

-- ---- the answer, found from the routes

found_for : List Route → ℕ → Answer (List Route)
found_for rs room =
    cond (eqb (held rs 0 0) 0) (refuses 23)
    (cond (upto 32 rs)
    (cond (ltb room (bytes_for (length (routes_by 32 32 rs 32 0 0 0)))) (refuses 9) (gives (routes_by 32 32 rs 32 0 0 0)))
    (refuses 24))

-- each route is one of 32 bits
well_b : Route → Bool
well_b r = leb r.len 32 && (ltb r.addr (2 ^ 32) && (eqb (r.addr % 2 ^ (32 - r.len)) 0 && leb 1 r.hop))

wells_b : List Route → Bool
wells_b [] = true
wells_b (r ∷ rs) = well_b r && wells_b rs

wells : (rs : List Route) → wells_b rs ≡ true → All (Wf 32) rs
unfolding wells_b well_b
wells [] e = tt
wells (r ∷ rs) e =
    let a = and_to (well_b r) (wells_b rs) e in
    let b = and_to (leb r.len 32) _ a.0 in
    let c = and_to (ltb r.addr (2 ^ 32)) _ b.1 in
    let d = and_to (eqb (r.addr % 2 ^ (32 - r.len)) 0) _ c.1 in (
      record {
        fits = leb-true r.len 32 b.0;
        inside = ltb-true r.addr (2 ^ 32) c.0;
        clean = eqb-true (r.addr % 2 ^ (32 - r.len)) 0 d.0;
        some = leb-true 1 r.hop d.1;
      },
      wells rs a.1,
    )

found_for_lem : (rs : List Route) (room : ℕ) → wells_b rs ≡ true → short_for rs room ≡ found_for rs room
unfolding found_for
found_for_lem rs room e =
    bool (eqb (held rs 0 0) 0)
    (λ q. rw q)
    (λ q. bool (upto 32 rs)
    (λ u. (let n = eqb-false (held rs 0 0) 0 q in
    rw (q, u, shortest_by 32 32 (omega arith) rs (wells rs e) (omega arith) (upto_all 32 rs u))))
    (λ u. rw (q, u)))

-- ---- each row is as the definitions say, and none of the five cases is left out

-- the answer for words seen so, that of a table found from its routes
answer_by : Seen → Bool → ℕ → Answer (List Route)
answer_by s true room = refuses 1
answer_by misfit false room = refuses 1
answer_by foreign false room = refuses 2
answer_by (table A cs) false room = found_for (winners cs) room

well_seen : Seen → Bool
well_seen misfit = true
well_seen foreign = true
well_seen (table A cs) = wells_b (winners cs)

answer_by_lem : (s : Seen) (l : Bool) (room : ℕ) → well_seen s ≡ true → short_on s l room ≡ answer_by s l room
unfolding answer_by well_seen
answer_by_lem s true room w = refl
answer_by_lem misfit false room w = refl
answer_by_lem foreign false room w = refl
answer_by_lem (table A cs) false room w = found_for_lem (winners cs) room w

-- a row with what is found
found : Case → Case
found c =
    let r = answer_by c.words (ltb c.scratch 12288) c.room in
    row c.number c.words c.scratch c.room r (left_in r [])

founds : List Case → List Case
founds [] = []
founds (c ∷ cs) = found c ∷ founds cs

well_rows : List Case → Bool
well_rows [] = true
well_rows (c ∷ cs) = well_seen c.words && well_rows cs

-- rows that are as they are found hold
first : Case → List Case → Case
first d [] = d
first d (c ∷ cs) = c

rest : List Case → List Case
rest [] = []
rest (c ∷ cs) = cs

found_hold : (cs : List Case) → well_rows cs ≡ true → founds cs ≡ cs → AllHold cs
unfolding well_rows founds found first rest
found_hold [] w e = tt
found_hold (c ∷ cs) w e =
    let v = and_to (well_seen c.words) (well_rows cs) w in
    let l = ltb c.scratch 12288 in
    let h : found c ≡ c = ap (first c) e in
    let a : answer_by c.words l c.room ≡ c.answer = ap (λ (d : Case). d.answer) h in
    let o : left_in (answer_by c.words l c.room) [] ≡ c.out = ap (λ (d : Case). d.out) h in (
      record { answers = answer_by_lem c.words l c.room v.0 ∙ a; writes = rw (← a) o },
      found_hold cs v.1 (ap rest e),
    )

pub shortest-cases : Stand
unfolding wells_b well_b well_seen well_rows found_for answer_by found founds known holds_b set_by routes_by bit has
    count_trailing_zeros digits
shortest-cases = record { all = found_hold rows refl refl; numbers = refl }
