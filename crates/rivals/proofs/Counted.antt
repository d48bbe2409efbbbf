-- The cells of a prefix are counted alike before and after a change at it. Assumes nothing.
use Rattle.std.specs.Prelude.{◌≡◌, refl, List, ℕ, zero, suc, ◌+◌, ◌-◌, ◌*◌, ◌/◌, ◌^◌, ◌<◌}
use Rattle.std.proofs.Common.{ap, ◌∙◌}
use Rattle.routes.specs.Route.{Route, route, All}
use Rattle.routes.specs.Room.{level}
use Rattle.routes.specs.Cells.{shown, cells}
use Rattle.laws.specs.Sorted as sorted
use Rattle.candidates.specs.Keyed.{put, cut, Every}
use Rattle.candidates.specs.Candidate.{Candidate, place}
use Rattle.candidates.specs.Candidate as candidate
use Rattle.candidates.specs.Winners.{winning, winners}
use Rattle.rivals.specs.Won.{Good, settle, winners_good}
use Rattle.rivals.proofs.Won.{winners-settled, winners_cut}
use Rattle.rivals.specs.Counted.{hidden-settle}

shown-settle : (W k first n a l h : ℕ) (rs : List Route) → l < 256 → All sorted.Good rs
    → shown W k first n (route a l 0) (settle a l h rs) ≡ shown W k first n (route a l 0) rs
unfolding shown
shown-settle W k first zero a l h rs s p = refl
shown-settle W k first (suc n) a l h rs s p =
    rw (hidden-settle W k (first + n) a l h rs s p, shown-settle W k first n a l h rs s p)

cells-settle : (W a l h : ℕ) (rs : List Route) → l < 256 → All sorted.Good rs
    → cells W (route a l 0) (settle a l h rs) ≡ cells W (route a l 0) rs
unfolding cells
cells-settle W a l h rs s p = shown-settle W (level l) (a / 2 ^ (W - 8 * level l) * 256) 256 a l h rs s p

-- before or after a removal
pub cells_cut : (W a l f : ℕ) (cs : List Candidate) → f < 8 → l < 256 → Every Good cs
    → cells W (route a l 0) (winners (cut candidate.key (place a l f) cs)) ≡ cells W (route a l 0) (winners cs)
cells_cut W a l f cs h s p =
    ap (cells W (route a l 0)) (winners_cut a l f cs h s p)
    ∙ cells-settle W a l (winning (cut candidate.key (place a l f) cs) (a * 256 + l)) (winners cs) s (winners_good cs p)

-- or an announcement
pub cells-put : (W : ℕ) (c : Candidate) (cs : List Candidate) → Good c → Every Good cs
    → cells W (route c.addr c.len 0) (winners (put candidate.key c cs)) ≡ cells W (route c.addr c.len 0) (winners cs)
cells-put W c cs g p =
    ap (cells W (route c.addr c.len 0)) (winners-settled c cs g p)
    ∙ cells-settle W c.addr c.len (winning (put candidate.key c cs) (candidate.prefix_key c)) (winners cs) g.short
    (winners_good cs p)
