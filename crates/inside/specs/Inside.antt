-- How many prefixes of a list lie inside a given one, itself included. Assumes nothing.
--
--     10.0.0.0/8  10.1.0.0/20  10.1.0.0/22  192.0.2.0/24        inside 10.1.0.0/16: 2, inside 10.1.0.0/20: 2, inside 0.0.0.0/0: 4
use Rattle.std.specs.Prelude.{Bool, cond, ◌&&◌, List, [], ◌∷◌, ℕ, ◌+◌, ◌-◌, ◌/◌, ◌^◌, leb, eqb}
use Rattle.routes.specs.Route.{Route}
use Rattle.candidates.specs.Candidate.{Candidate}
use Rattle.candidates.specs.Winners.{winners}

-- r is as long as l or longer, and its first l bits are those of a
abbrev pub lies : ℕ → ℕ → ℕ → Route → Bool
lies W a l r = leb l r.len && eqb (r.addr / 2 ^ (W - l)) (a / 2 ^ (W - l))

abbrev pub one : Bool → ℕ
one b = cond b 1 0

unfoldable pub inside : ℕ → List Route → ℕ → ℕ → ℕ
inside W [] a l = 0
inside W (r ∷ rs) a l = one (lies W a l r) + inside W rs a l

-- of candidates: a prefix counts once, however many it has
abbrev pub prefixes_inside : ℕ → List Candidate → ℕ → ℕ → ℕ
prefixes_inside W cs a l = inside W (winners cs) a l
