-- The rank's row has the candidate, or no row has. Assumes nothing.
use Rattle.std.specs.Prelude.{◌≡◌, refl, ◌≢◌, true, false, List, ℕ, ◌+◌, ◌<◌, ◌≤◌}
use Rattle.std.proofs.Common.{sym, ◌∙◌, true≢false, arith, eq-eqb, ne_eqb}
use Rattle.front.specs.Place.{key, has, most_places}
use Rattle.restraint.specs.Places.{has_not}
use Rattle.rows.specs.Row.{row_at, decode, used, places_of, IsWords}
use Rattle.shelf.specs.Shift.{rank}
use Rattle.shelf.specs.Lists.{hit, miss}
use Rattle.charge.specs.Calls.{Found}

module _ (ws : List ℕ) (k at : ℕ) (w : IsWords ws) (r : at ≡ rank (places_of ws) k) (b : at ≤ most_places) where
  no_row : (at < most_places → used (row_at ws at) ≡ true → key (decode (row_at ws at)) ≢ k) → has (places_of ws) k ≡ false
  no_row n = miss (row_at ws) k 0 0 256 at w.front.sorted (sym r) (let z : 0 + at ≡ at = omega arith in rw z n)

  absent : has (places_of ws) k ≡ false → Found ws k at 0 0
  absent e = record { rank = r; told = e; mark = has_not (places_of ws) k e; stands = λ n. absurd (n refl) }

  pub found_end : at ≡ most_places → Found ws k at 0 0
  found_end e = absent (no_row (λ h. absurd (omega arith)))

  pub found-unused : (row_at ws at).x ≡ 0 → Found ws k at 0 0
  found-unused e = absent (no_row (λ h u. absurd (true≢false (sym u ∙ rw (eq-eqb (row_at ws at).x 0 e)))))

  pub found_other : (u : ℕ) → u ≡ key (decode (row_at ws at)) → u ≢ k → Found ws k at 0 0
  found_other u e n = absent (no_row (λ h v t. n (e ∙ t)))

  pub found_here : (u : ℕ) → at ≢ most_places → (row_at ws at).x ≢ 0 → u ≡ key (decode (row_at ws at)) → u ≡ k
      → Found ws k at (row_at ws at).x (row_at ws at).k
  found_here u n x e q =
      let z : 0 + at ≡ at = omega arith in
      let y : used (row_at ws at) ≡ true = rw (ne_eqb (row_at ws at).x 0 x) in
      let h = hit (row_at ws) k 0 256 at (sym r) (omega arith) (rw z y) (rw z (sym e ∙ q)) in
      record {
        rank = r;
        told = h.0 ∙ sym y;
        mark = rw z at h.1;
        stands = λ _. record { low = omega arith; mark = refl; kept = refl; candidate = sym e ∙ q };
      }
