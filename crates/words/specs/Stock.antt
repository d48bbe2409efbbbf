-- The header's count is the need of the list, and says whether an array is free. Assumes nothing.
use Rattle.std.specs.Prelude.{◌≡◌, ℕ, zero, suc, ◌-◌, ◌*◌, ◌/◌, List, slice_index, refl}
use Rattle.std.proofs.Common.{◌∙◌, arith}
use Rattle.routes.specs.Collect.{routes}
use Rattle.routes.specs.Room.{need_to, need}
use Rattle.candidates.specs.Winners.{winners}
use Rattle.tree.specs.Arrays.{held}
use Rattle.tree.proofs.Need.{used-need}
use Rattle.gather.proofs.Views.{tree_winners}
use Rattle.words.specs.Words.{feeds_of, arrays_of, array_count}
use Rattle.words.specs.TableBut.{TableBut, Table}
use Rattle.words.specs.Table.{list_of}

pub count-need : (J : ℕ) (ws : List ℕ) → TableBut (suc J) 0 ws
    → slice_index ws 0 ≡ need_to (8 * suc J) J (routes (8 * suc J) (held (arrays_of ws)))
count-need J ws ok =
    ok.header.count ∙ used-need (array_count ws) (suc J) (arrays_of ws) ok.shape ok.filled J refl

-- the winners of a table's list are the routes of the winning hops
pub table_winners : (L : ℕ) (ws : List ℕ) → Table L ws → winners (list_of L ws) ≡ routes (8 * L) (held (arrays_of ws))
table_winners L ws ok =
    tree_winners (array_count ws) L (feeds_of ws) ok.shape ok.words (8 * L) (omega (arith, ok.shape.levels))

-- the arrays used are the need of the winners: for the levels below the first, and for all
pub table_count_lem : (L : ℕ) (ws : List ℕ) → Table L ws → slice_index ws 0 ≡ need_to (8 * L) (L - 1) (winners (list_of L ws))
table_count_lem zero ws ok = absurd (omega (arith, ok.shape.some_level))
table_count_lem (suc J) ws ok =
    let e : suc J - 1 ≡ J = omega arith in rw (e, table_winners (suc J) ws ok) (count-need J ws ok)

pub table_need : (L : ℕ) (ws : List ℕ) → Table L ws → slice_index ws 0 ≡ need (8 * L) (winners (list_of L ws))
table_need L ws ok = let e : 8 * L / 8 - 1 ≡ L - 1 = omega arith in rw e (table_count_lem L ws ok)
