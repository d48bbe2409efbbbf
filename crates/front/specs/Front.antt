-- A front before a table of A arrays: what an update, a lookup and a tick are answered through it, and the candidates and places
-- then. Assumes nothing.
--
--     update ──▶ is the candidate held back? ──yes──▶ kept, dropped, or refused with 7       the table stays
--                          └──no──▶ the table's own answer; an accepted withdrawal is charged
--     tick   ──▶ penalties halved ──▶ what is kept below 750 tried, in order ──▶ let go ──▶ places freed
use Rattle.std.specs.Prelude.{Bool, false, cond, not, ◌&&◌, ◌||◌, List, [], ◌∷◌, ℕ, ◌+◌, ◌/◌, min, length, ltb, eqb}
use Rattle.routes.specs.Answers.{Reply, done, refused, is_done}
use Rattle.candidates.specs.Keyed.{put}
use Rattle.candidates.specs.Candidate.{Candidate, place}
use Rattle.candidates.specs.Answers.{Update, announce, withdraw, Record, update, lookup, sound, answer, after, looked_up}
use Rattle.front.specs.Place.{Mark, mark, Place, placed, key, marked, mark_at, has, kept_of, kept_hop, kept_preference}
use Rattle.front.specs.Place.{most_places, per_withdrawal, most_penalty, held_over, free_below}

-- ---- what comes, and what is left

-- a record of the table's own kinds, or a tick
pub data Event : Type 0 where
  asks : Record → Event
  tick : Event

-- the table's list, and the front's places
pub record Both : Type 0 where
  pub list : List Candidate
  pub places : List Place

abbrev pub both : List Candidate → List Place → Both
both cs ps = record { list = cs; places = ps }

-- a reply, and what is left with it
pub record Step : Type 0 where
  pub reply : Reply
  pub left : Both

abbrev pub step : Reply → List Candidate → List Place → Step
step r cs ps = record { reply = r; left = both cs ps }

-- ---- an accepted withdrawal

-- 1,000 more, up to 12,000; over 3,000 it is held back; nothing is kept
abbrev pub raised : ℕ → ℕ
raised n = min (n + per_withdrawal) most_penalty

abbrev pub charged : Mark → Mark
charged m = mark (raised m.penalty) (m.back || ltb held_over (raised m.penalty)) 0

-- in the candidate's place, or in a new one if one is free
abbrev pub charge : ℕ → ℕ → ℕ → List Place → List Place
charge a l f ps =
    cond (has ps (place a l f) || ltb (length ps) most_places)
    (put key (placed a l f (charged (mark_at ps (place a l f)))) ps)
    ps

-- ---- updates

-- the mark with something else kept
abbrev pub keeping : Mark → ℕ → Mark
keeping m k = mark m.penalty m.back k

module _ (W A : ℕ) (cs : List Candidate) (ps : List Place) where
  -- the table's own answer
  abbrev pub passed : Update → Step
  passed u = step (answer W A cs u) (after W A cs u) ps

  -- an announcement of a candidate that is held back
  abbrev pub kept : ℕ → ℕ → ℕ → ℕ → ℕ → Step
  kept a l h f p = step (done h 0) cs (put key (placed a l f (keeping (mark_at ps (place a l f)) (kept_of p h))) ps)

  -- a withdrawal of one, of which k is kept
  abbrev pub dropped : ℕ → ℕ → ℕ → ℕ → Step
  dropped a l f k = cond (eqb k 0) (step (refused 7) cs ps) (step (done (kept_hop k) 0) cs (charge a l f ps))

  -- a withdrawal of any other: charged where the table accepts it
  abbrev pub removed : ℕ → ℕ → ℕ → Step
  removed a l f =
      step (answer W A cs (withdraw a l f)) (after W A cs (withdraw a l f))
      (cond (is_done (answer W A cs (withdraw a l f))) (charge a l f ps) ps)

  abbrev pub damped : Update → Step
  damped (announce a l h f p) =
      cond (mark_at ps (place a l f)).back (kept a l h f p) (passed (announce a l h f p))
  damped (withdraw a l f) =
      cond (mark_at ps (place a l f)).back (dropped a l f (mark_at ps (place a l f)).kept) (removed a l f)

  -- an update with a fault of its own (3, 4, 5, 10) is refused by the table, whatever the front holds
  abbrev pub updated : Update → Step
  updated u = cond (sound W u) (damped u) (passed u)

-- ---- a tick, of one place

abbrev pub halved : Mark → Mark
halved m = mark (m.penalty / 2) m.back m.kept

-- below 750 with nothing kept it is let go
abbrev pub released : Mark → Mark
released m = cond (ltb m.penalty free_below && eqb m.kept 0) (mark m.penalty false m.kept) m

-- at penalty 0 with nothing kept its place is free
abbrev pub spent : Mark → Bool
spent m = eqb m.penalty 0 && eqb m.kept 0

abbrev pub halve : Place → Place
halve p = marked p (halved p.mark)

abbrev pub let_go : Place → Place
let_go p = marked p (released p.mark)

-- the announcement that was kept
abbrev pub again : Place → Update
again p = announce p.addr p.len (kept_hop p.mark.kept) p.feed (kept_preference p.mark.kept)

-- something is kept below 750
abbrev pub due : Place → Bool
due p = ltb p.mark.penalty free_below && not (eqb p.mark.kept 0)

-- it is then announced to the table, and kept on where that lacks room
abbrev pub installs : ℕ → ℕ → List Candidate → Place → Bool
installs W A cs p = due p && is_done (answer W A cs (again p))

abbrev pub tried : ℕ → ℕ → List Candidate → Place → Place
tried W A cs p = marked p (cond (installs W A cs p) (keeping p.mark 0) p.mark)

abbrev pub tried_list : ℕ → ℕ → List Candidate → Place → List Candidate
tried_list W A cs p = cond (installs W A cs p) (after W A cs (again p)) cs

-- ---- a tick, of all places, in four passes

abbrev pub each : (Place → Place) → List Place → List Place
each g [] = []
each g (p ∷ ps) = g p ∷ each g ps

abbrev pub unspent : List Place → List Place
unspent [] = []
unspent (p ∷ ps) = cond (spent p.mark) (unspent ps) (p ∷ unspent ps)

-- each against the table as it then is
abbrev pub tries : ℕ → ℕ → List Candidate → List Place → List Place
tries W A cs [] = []
tries W A cs (p ∷ ps) = tried W A cs p ∷ tries W A (tried_list W A cs p) ps

abbrev pub tries_list : ℕ → ℕ → List Candidate → List Place → List Candidate
tries_list W A cs [] = cs
tries_list W A cs (p ∷ ps) = tries_list W A (tried_list W A cs p) ps

abbrev pub tick_places : ℕ → ℕ → List Candidate → List Place → List Place
tick_places W A cs ps = unspent (each let_go (tries W A cs (each halve ps)))

abbrev pub tick_list : ℕ → ℕ → List Candidate → List Place → List Candidate
tick_list W A cs ps = tries_list W A cs (each halve ps)

-- ---- what comes, one after the other

module _ (W A : ℕ) where
  abbrev pub taken : Both → Event → Step
  taken b (asks (update u)) = updated W A b.list b.places u
  taken b (asks (lookup a)) = step (looked_up W b.list a) b.list b.places
  taken b tick = step (done 0 0) (tick_list W A b.list b.places) (tick_places W A b.list b.places)

  abbrev pub replies : Both → List Event → List Reply
  replies b [] = []
  replies b (e ∷ es) = (taken b e).reply ∷ replies (taken b e).left es

  abbrev pub leaves : Both → List Event → Both
  leaves b [] = b
  leaves b (e ∷ es) = leaves (taken b e).left es

-- a tick counts as no update, and neither does what it installs
abbrev pub accepts : Event → Reply → Bool
accepts (asks r) y = is_done y
accepts tick y = false
