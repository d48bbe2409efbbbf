-- Why the fourth move is missing: an announcement moved ahead of a withdrawal may lack the room that the withdrawal frees. With
-- one array it never does: a prefix that fits there needs no array of its own. Assumes nothing.
--
--     two arrays, 0.0.0.0/9 held     withdraw 0.0.0.0/9, announce 1.0.0.0/9     both accepted
--                                    announce 1.0.0.0/9, withdraw 0.0.0.0/9     the announcement refused by 8
use Rattle.std.specs.Prelude.{◌≡◌, refl, ◌≢◌, true, false, List, [], ◌∷◌, ℕ, zero, suc, ◌-◌, ◌*◌, ◌/◌, ◌≤◌, ◌<◌, eqb}
use Rattle.std.proofs.Common.{sym, ap, ◌∙◌, true≢false, arith, lit≤, lit<, eqb-true}
use Rattle.std.proofs.lemmas.Bool.{false≢true}
use Rattle.routes.specs.Route.{Route, route}
use Rattle.routes.specs.Room.{mem, distinct, heads, need_to, need}
use Rattle.routes.specs.Cells.{cells, shown}
use Rattle.routes.specs.Answers.{done, refused, is_done}
use Rattle.routes.specs.Small.{ip}
use Rattle.logic.specs.Cases.{bool, same}
use Rattle.logic.specs.Bools.{or_case, or_false}
use Rattle.laws.specs.Room.{has_head, distinct_le}
use Rattle.candidates.specs.Keyed.{put}
use Rattle.candidates.specs.Candidate.{Candidate, candidate, key}
use Rattle.candidates.specs.Winners.{winners}
use Rattle.candidates.specs.Answers.{Update, announce, withdraw, target, answer, after}
use Rattle.rivals.specs.Won.{Good}
use Rattle.rivals.specs.Need.{heads-put}
use Rattle.rivals.specs.Updates.{done_sound, sound_good}
use Rattle.rivals.proofs.Updates.{done_room}
use Rattle.swaps.specs.Moves.{Table, Swapped}
use Rattle.swaps.specs.Proved.{Holds, table_holds, after_holds, swap_with_room}
use Rattle.swaps.specs.Fourth.{cs, Flat, need-flat, flat-need}

-- with one array, an announcement that is accepted after a withdrawal is accepted before it
pub fourth_of_one : (W : ℕ) (w : W < 256) (cs : List Candidate) (a l h f p b m g : ℕ) → Table W 1 cs
    → target (announce a l h f p) ≢ target (withdraw b m g)
    → is_done (answer W 1 (after W 1 cs (withdraw b m g)) (announce a l h f p)) ≡ true
    → Swapped W 1 cs (announce a l h f p) (withdraw b m g)
fourth_of_one W w cs a l h f p b m g t n d = swap_with_room W w 1 cs a l h f p b m g hs n (λ s. room)
  where
    ds : List Candidate
    ds = after W 1 cs (withdraw b m g)

    hs : Holds W w 1 cs
    hs = table_holds W w 1 cs t

    hd : Holds W w 1 (after W 1 cs (withdraw b m g))
    hd = after_holds W w 1 cs (withdraw b m g) hs

    c : Candidate
    c = candidate a l f p h

    gc : Good (candidate a l f p h)
    gc = sound_good W w a l h f p (done_sound W 1 (after W 1 cs (withdraw b m g)) (announce a l h f p) d)

    flat : Flat W (W / 8 - 1) (winners (put key (candidate a l f p h) (after W 1 cs (withdraw b m g))))
    flat = need-flat W (W / 8 - 1) (winners (put key c ds)) (done_room W w 1 ds a l h f p hd.good hd.fits d)

    none : (i z : ℕ) → i < W / 8 - 1 → has_head W (8 * suc i) z (route a l 0) ≡ false
    none i z e =
        or_false (has_head W (8 * suc i) z (route a l 0)) _ (sym (heads-put W (8 * suc i) z c ds gc hd.good) ∙ flat i z e)

    room : need W (winners (put key (candidate a l f p h) cs)) ≤ 1
    room =
        flat-need W (W / 8 - 1) (winners (put key c cs)) (λ i z e.
        heads-put W (8 * suc i) z c cs gc hs.good ∙ rw (none i z e) (need-flat W (W / 8 - 1) (winners cs) hs.fits i z e))
