-- Why the fourth move is missing: an announcement moved ahead of a withdrawal may lack the room that the withdrawal frees. With
-- one array it never does: a prefix that fits there needs no array of its own. Assumes nothing.
--
--     two arrays, 0.0.0.0/9 held     withdraw 0.0.0.0/9, announce 1.0.0.0/9     both accepted
--                                    announce 1.0.0.0/9, withdraw 0.0.0.0/9     the announcement refused by 8
use Rattle.std.specs.Prelude.{◌≡◌, refl, ◌≢◌, true, false, List, [], ◌∷◌, ℕ, zero, suc, ◌-◌, ◌*◌, ◌/◌, ◌≤◌, ◌<◌, eqb}
use Rattle.std.proofs.Common.{sym, ap, ◌∙◌, true≢false, arith, lit≤, lit<, eqb-true}
use Rattle.std.proofs.lemmas.Bool.{false≢true}
use Rattle.routes.specs.Route.{Route, route}
use Rattle.routes.specs.Room.{mem, distinct, heads, need_to, need}
use Rattle.routes.specs.Cells.{cells, shown}
use Rattle.routes.specs.Answers.{done, refused, is_done}
use Rattle.routes.specs.Small.{ip}
use Rattle.logic.specs.Cases.{bool, same}
use Rattle.logic.specs.Bools.{or_case, or_false}
use Rattle.laws.specs.Room.{has_head, distinct_le}
use Rattle.candidates.specs.Keyed.{put}
use Rattle.candidates.specs.Candidate.{Candidate, candidate, key}
use Rattle.candidates.specs.Winners.{winners}
use Rattle.candidates.specs.Answers.{Update, announce, withdraw, target, answer, after}
use Rattle.rivals.specs.Won.{Good}
use Rattle.rivals.specs.Need.{heads-put}
use Rattle.rivals.specs.Updates.{done_sound, sound_good}
use Rattle.swaps.specs.Moves.{Table, Swapped}
use Rattle.swaps.specs.Proved.{Holds, table_holds, after_holds, swap_with_room}

-- ---- two arrays, 0.0.0.0/9 held

abbrev pub cs : List Candidate
cs = candidate (ip 0 0 0 0) 9 1 0 7 ∷ []

abbrev pub go : Update
go = withdraw (ip 0 0 0 0) 9 1

abbrev pub come : Update
come = announce (ip 1 0 0 0) 9 8 1 0

pub table : Table 32 2 cs
unfolding need_to
table =
    record {
      list = record {
        sorted = (lit≤ tt, tt);
        candidates = (
          record {
            route = record { wf = record { fits = lit≤ tt; inside = lit< tt; clean = refl; some = lit≤ tt }; low = lit≤ tt };
            low = lit≤ tt;
            high = lit≤ tt;
            byte = lit< tt;
          },
          tt,
        );
      };
      fits = omega arith;
    }

pub apart : target go ≢ target come
apart e = omega (arith, ap (λ (c : Candidate). c.addr) e)

-- the withdrawal first, and both are accepted; the announcement first, and it is refused by 8
pub fourth : (answer 32 2 cs go ≡ done 7 128)
    × (answer 32 2 (after 32 2 cs go) come ≡ done 8 128)
    × (answer 32 2 cs come ≡ refused 8)
    × (after 32 2 (after 32 2 cs go) come ≡ candidate (ip 1 0 0 0) 9 1 0 8 ∷ [])
    × (after 32 2 (after 32 2 cs come) go ≡ [])
unfolding answer cells shown need_to
fourth = (refl, refl, refl, refl, refl)

-- so these two do not swap
pub not_swapped : Swapped 32 2 cs go come → ⊥
unfolding answer cells shown need_to
not_swapped s = true≢false s.other_done

-- ---- one array

-- no head at the first j levels below the root
abbrev pub Flat : ℕ → ℕ → List Route → Type 0
Flat W j rs = (i z : ℕ) → i < j → mem z (heads W (8 * suc i) rs) ≡ false

need_one : (W j : ℕ) (rs : List Route) → 1 ≤ need_to W j rs
unfolding need_to
need_one W zero rs = omega arith
need_one W (suc j) rs = omega (arith, need_one W j rs)

-- a number that is there counts
counts : (z : ℕ) (xs : List ℕ) → mem z xs ≡ true → 1 ≤ distinct xs
counts z xs e =
    distinct_le (z ∷ []) xs (λ y m. or_case (eqb z y) false m (λ t. rw (← (eqb-true z y t)) e) (λ t. absurd (false≢true t)))

pub need-flat : (W j : ℕ) (rs : List Route) → need_to W j rs ≤ 1 → Flat W j rs
unfolding need_to
need-flat W zero rs h i z l = absurd (omega arith)
need-flat W (suc j) rs h i z l =
    same i j
    (λ e _. rw e (bool (mem z (heads W (8 * suc j) rs))
    (λ m. absurd (omega (arith, counts z (heads W (8 * suc j) rs) m, need_one W j rs)))
    (λ m. m)))
    (λ n _. need-flat W j rs (omega (arith, need_one W j rs)) i z (omega arith))

pub flat-need : (W j : ℕ) (rs : List Route) → Flat W j rs → need_to W j rs ≤ 1
unfolding need_to
flat-need W zero rs f = omega arith
flat-need W (suc j) rs f =
    let d = distinct_le (heads W (8 * suc j) rs) [] (λ z m. absurd (true≢false (sym m ∙ f j z (omega arith)))) in
    omega (arith, d, flat-need W j rs (λ i z l. f i z (omega arith)))
