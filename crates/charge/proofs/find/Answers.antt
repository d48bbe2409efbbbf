-- The rank's row has the candidate, or no row has. Assumes nothing.
use Rattle.std.proofs.Common.{sym, ap, subst, ◌∙◌}
use Rattle.charge.specs.Search.{found_end, found-unused, found_other, found_here}
use Rattle.charge.specs.Calls.{Found}
use Rattle.front.specs.Place.{key}
use Rattle.rows.specs.Row.{Row, decode}
use Rattle.charge.proofs.find.Goals as goal
use Rattle.charge.proofs.find.Goals.{then-row-eq0-via-then-row-eq0, then-row-eq0-via-else-row-eq0+then-key-k}

pub returns-then-at-eq-MOST_PLACES : goal.returns-then-at-eq-MOST_PLACES
returns-then-at-eq-MOST_PLACES c =
    let r = c.rank_of-at in
    rw (← c.key-k.ensures)
    (found_end c.args.words.now c.key-k.result r.result c.requires r.ensures.0 r.ensures.1 c.if-at-eq-MOST_PLACES.true)

pub returns-then-row-eq0 : goal.returns-then-row-eq0
returns-then-row-eq0 c =
    let ws = c.args.words.now in
    let r = c.rank_of-at in
    let e = c.row_at-row.ensures in
    rw (← c.key-k.ensures)
    (elim c.then-row-eq0.branch [
      | then-row-eq0-via-then-row-eq0 w ↦
          found-unused ws c.key-k.result r.result c.requires r.ensures.0 r.ensures.1
          (ap (λ (x : Row). x.x) (sym e) ∙ w.if-row-eq0.true)
      | then-row-eq0-via-else-row-eq0+then-key-k w ↦
          found_other ws c.key-k.result r.result c.requires r.ensures.0 r.ensures.1 w.key.result
          (w.key.ensures ∙ ap (λ (x : Row). key (decode x)) e) w.if-key-k.true
    ])

pub returns : goal.returns
returns c =
    let ws = c.args.words.now in
    let r = c.rank_of-at in
    let e = c.row_at-row.ensures in
    let h = found_here ws c.key-k.result r.result c.requires r.ensures.0 r.ensures.1 c.key.result c.if-at-eq-MOST_PLACES.false
    (λ z. c.if-row-eq0.false (ap (λ (x : Row). x.x) e ∙ z)) (c.key.ensures ∙ ap (λ (x : Row). key (decode x)) e)
    c.if-key-k.false in
    rw (← c.key-k.ensures)
    (let P : Row → Type 0 = λ x. Found ws c.key-k.result r.result x.x x.k in subst P (sym e) h)
