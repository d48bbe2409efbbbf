-- Whether a place is free is told by the last row. Assumes nothing.
use Rattle.std.specs.Prelude.{◌≡◌, refl, ◌≢◌, true, false, List, [], ◌∷◌, ℕ, zero, suc, ◌+◌, ◌<◌, ◌≤◌, length}
use Rattle.std.proofs.Common.{sym, ap, ◌∙◌, true≢false, arith, eq-eqb}
use Rattle.logic.specs.Cases.{bool, less, tri}
use Rattle.candidates.specs.Keyed.{put}
use Rattle.rivals.specs.Maps.{find_head, find_skip}
use Rattle.front.specs.Place.{Place, key, is_there, has, most_places}
use Rattle.rows.specs.Row.{Row, row_at, used, collect, places_of, IsWords}
use Rattle.shelf.specs.Shift.{rank}

pub put_new : (p : Place) (ps : List Place) → has ps (key p) ≡ false → length (put key p ps) ≡ suc (length ps)
put_new p [] e = refl
put_new p (q ∷ ps) e =
    tri (key p) (key q)
    (λ l d. rw d)
    (λ h d t. absurd (true≢false (sym (ap is_there (find_head key q ps (key p) (sym h))) ∙ e)))
    (λ l d t. rw (d, t) (ap suc (put_new p ps (sym (ap is_there (find_skip key q ps (key p) (omega arith))) ∙ e))))

pub rank_few : (ps : List Place) (k : ℕ) → rank ps k ≤ length ps
rank_few [] k = omega arith
rank_few (p ∷ ps) k = less (key p) k (λ l d. rw d (omega (arith, rank_few ps k))) (λ l d. rw d (omega arith))

module _ (ws : List ℕ) (w : IsWords ws) where
  -- a used row is one of the places
  pub used_low : (i : ℕ) → i < most_places → used (row_at ws i) ≡ true → i < length (places_of ws)
  used_low i h u =
      less i (length (places_of ws)) (λ l d. l) (λ l d. absurd (true≢false (sym u ∙ ap used (w.zeros i l h))))

  pub room_none : (row_at ws 255).x ≢ 0 → length (places_of ws) ≡ most_places
  room_none n =
      less (length (places_of ws)) most_places
      (λ l d. absurd (n (ap (λ (r : Row). r.x) (w.zeros 255 (omega arith) (omega arith)))))
      (λ l d. omega (arith, w.front.few))

full-used : (g : ℕ → Row) (i n d : ℕ) → length (collect g i n) ≡ n → d < n → used (g (i + d)) ≡ true
unfolding collect
full-used g i zero d e h = absurd (omega arith)
full-used g i (suc n) zero e h =
    let z : i + 0 ≡ i = omega arith in
    rw z (bool (used (g i)) (λ u. u) (λ u. absurd (omega (arith, rw u at e))))
full-used g i (suc n) (suc d) e h =
    let z : i + suc d ≡ suc i + d = omega arith in
    rw z (bool (used (g i))
    (λ u. full-used g (suc i) n d (omega (arith, rw u at e)) (omega arith))
    (λ u. absurd (omega (arith, rw u at e))))

pub room_some : (ws : List ℕ) (w : IsWords ws) → (row_at ws 255).x ≡ 0 → length (places_of ws) < most_places
room_some ws w e =
    less (length (places_of ws)) most_places (λ l d. l)
    (λ l d.
    (let u : used (row_at ws (0 + 255)) ≡ true = full-used (row_at ws) 0 256 255 (omega (arith, w.front.few)) (omega arith) in
    absurd (true≢false (sym u ∙ rw (eq-eqb (row_at ws 255).x 0 e)))))
