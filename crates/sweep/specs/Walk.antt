-- The two passes over a table's slots: the sets from below, kept in a scratch by slot, then the routes from above. A slot is
-- named by the place of its first word, and a prefix by its slot and how many bits are below it. Assumes nothing.
use Rattle.std.specs.Prelude.{Bool, true, cond, ◌&&◌, List, [], ◌++◌, ℕ, zero, suc, ◌+◌, ◌-◌, ◌*◌, eqb, leb, get_or, set}
use Rattle.sizes.specs.Sizes.{slot_words}
use Rattle.routes.specs.Route.{Route}
use Rattle.routes.specs.Collect.{own}
use Rattle.slots.specs.Winner.{won_hop}
use Rattle.slots.specs.Page.{words_at}
use Rattle.words.specs.Half.{half_of}
use Rattle.words.specs.Empty.{total_in}
use Rattle.shortest.specs.HopSet.{only}
use Rattle.shortest.specs.Chosen.{meet, pick, under}
use Rattle.shortest.specs.Inside.{apart}

-- the winning hop of slot p
abbrev pub won_at : List ℕ → ℕ → ℕ
won_at ws p = won_hop (words_at ws p)

-- the hop below it, where h comes from above
abbrev pub hop_in : List ℕ → ℕ → ℕ → ℕ
hop_in ws p h = under (won_at ws p) h

-- the slot of the lower half of the prefix in slot p with d bits below, 0 where there is none
abbrev pub low_of : List ℕ → ℕ → ℕ → ℕ
low_of ws zero p = 0
low_of ws (suc d) p = half_of ws p

-- no winning hop of the prefix in slot p and of all below it is over 32; nothing is held there where the total is 0
unfoldable pub small_at : List ℕ → ℕ → ℕ → Bool
small_at ws zero p = cond (eqb (total_in ws p) 0) true (leb (won_at ws p) 32)
small_at ws (suc d) p =
    cond (eqb (total_in ws p) 0) true
    (leb (won_at ws p) 32
    && cond (eqb (half_of ws p) 0) true (small_at ws d (half_of ws p) && small_at ws d (half_of ws p + slot_words)))

-- ---- from below

-- the set of the prefix in slot p
unfoldable pub set_at : List ℕ → ℕ → ℕ → ℕ → ℕ
set_at ws zero p h = only (hop_in ws p h)
set_at ws (suc d) p h =
    let g = hop_in ws p h in
    cond (eqb (half_of ws p) 0) (only g) (meet (set_at ws d (half_of ws p) g) (set_at ws d (half_of ws p + slot_words) g))

-- its cost
unfoldable pub cost_at : List ℕ → ℕ → ℕ → ℕ → ℕ
cost_at ws zero p h = 0
cost_at ws (suc d) p h =
    let g = hop_in ws p h in
    cond (eqb (half_of ws p) 0) 0
    (cost_at ws d (half_of ws p) g + cost_at ws d (half_of ws p + slot_words) g
    + apart (set_at ws d (half_of ws p) g) (set_at ws d (half_of ws p + slot_words) g))

-- the scratch ms once the sets of slot p and of all below it are kept
unfoldable pub store_at : List ℕ → ℕ → ℕ → ℕ → List ℕ → List ℕ
store_at ws zero p h ms = set ms p (set_at ws zero p h)
store_at ws (suc d) p h ms =
    let g = hop_in ws p h in
    cond (eqb (half_of ws p) 0) (set ms p (set_at ws (suc d) p h))
    (set (store_at ws d (half_of ws p + slot_words) g (store_at ws d (half_of ws p) g ms)) p (set_at ws (suc d) p h))

-- and once one set is kept for all of them
unfoldable pub spread_at : List ℕ → ℕ → ℕ → ℕ → List ℕ → List ℕ
spread_at ws zero p m ms = set ms p m
spread_at ws (suc d) p m ms =
    cond (eqb (half_of ws p) 0) (set ms p m)
    (set (spread_at ws d (half_of ws p + slot_words) m (spread_at ws d (half_of ws p) m ms)) p m)

-- ---- from above

-- the routes of the prefix v in slot p and of all below it, where h comes from above, by the sets ms; where the total is 0 one
-- set serves all, and there is none below
unfoldable pub routes_at : List ℕ → List ℕ → ℕ → ℕ → ℕ → ℕ → List Route
routes_at ws ms zero p v h = own zero v 32 (pick 32 (get_or ms p 0) h)
routes_at ws ms (suc d) p v h =
    let r = pick 32 (get_or ms p 0) h in
    own (suc d) v (32 - suc d) r
    ++ cond (eqb (total_in ws p) 0) [] (cond (eqb (half_of ws p) 0) []
    (routes_at ws ms d (half_of ws p) (2 * v) (under r h)
    ++ routes_at ws ms d (half_of ws p + slot_words) (2 * v + 1) (under r h)))
