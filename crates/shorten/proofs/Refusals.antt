-- The refusals that come before the buffer's, over plain variables. Assumes nothing.
use mathlib.Core.Path.{◌≡◌, sym, ◌∙◌}
use mathlib.Core.Logic.{◌≢◌}
use mathlib.Core.Bool.{Bool, true, false}
use mathlib.Core.List.{List}
use Prim.Native.Nat.{ℕ, ◌+◌, ◌≤◌}
use native.Mathlib.Omega.{arith}
use lib.Dec.{eqb, ltb}
use lib.ListN.{length}
use borrow.Author.Tests.{eq-eqb, ne_eqb, le-ltb}
use Rattle.sizes.specs.Sizes.{slot_words, root_slot}
use Rattle.routes.specs.Route.{held}
use Rattle.routes.specs.Seen.{gives, refuses, Counts}
use Rattle.candidates.specs.Seen.{table, check_on}
use Rattle.words.specs.Words.{array_count}
use Rattle.words.specs.Table.{list_of, seen}
use Rattle.words.specs.TableBut.{Table}
use Rattle.words.specs.View.{seen-cases}
use Rattle.writing.specs.Halves.{slot_root}
use Rattle.sweep.specs.Walk.{won_at, small_at}
use Rattle.sweep.specs.Whole.{won_of, default_is, small_whole}
use Rattle.sweep.specs.Asked.{Stands, Looks}
use Rattle.shorten.specs.Answer.{unfit_on}

-- ---- words that the check takes

pub record Seated (ws : List ℕ) : Type 0 where
  pub right : Table 4 ws
  pub view : seen 4 ws ≡ table (array_count ws) (list_of 4 ws)

pub check_table : (ws : List ℕ) (c : Counts) → gives c ≡ check_on 32 (seen 4 ws) → Seated ws
check_table ws c d =
    seen-cases 4 ws (omega arith) (omega arith)
    (λ _ q. absurd (let f : gives c ≡ refuses 1 = rw q at d in cc))
    (λ _ _ q. absurd (let f : gives c ≡ refuses 2 = rw q at d in cc))
    (λ _ _ t q. record { right = t; view = q })

-- ---- a table

module _ {ws : List ℕ} (d : Seated ws) where
  -- length 0 stands in the root's first slot
  pub root_stands : Stands ws root_slot 0 32
  root_stands = record { table = d.right; most = omega arith; slot = slot_root 4 ws d.right }

  pub root_inside : root_slot + slot_words ≤ length ws
  root_inside = omega (arith, d.right.low)

  pub ask-small : Looks ws root_slot 32
  ask-small = record { v = 0; stands = root_stands }

  module _ (m : ℕ) (h : length ws ≤ m) (own : ℕ) (o : own ≡ won_at ws root_slot) where
    pub refusal_default : own ≡ 0 → ◌≡◌ {A = ℕ} 23 (unfit_on (seen 4 ws) (ltb m (length ws)))
    refusal_default e =
        rw (le-ltb m (length ws) h, d.view, eq-eqb (held (won_of ws) 0 0) 0 (default_is ws d.right ∙ sym o ∙ e))

    module _ (n : own ≢ 0) (x : Bool) (e : x ≡ small_at ws 32 root_slot) where
      held_some : eqb (held (won_of ws) 0 0) 0 ≡ false
      held_some = ne_eqb (held (won_of ws) 0 0) 0 (λ z. n (o ∙ sym (default_is ws d.right) ∙ z))

      pub refusal_none : x ≡ true → ◌≡◌ {A = ℕ} 0 (unfit_on (seen 4 ws) (ltb m (length ws)))
      refusal_none f = rw (le-ltb m (length ws) h, d.view, held_some, sym (small_whole ws d.right) ∙ sym e ∙ f)

      pub refusal-over : x ≡ false → ◌≡◌ {A = ℕ} 24 (unfit_on (seen 4 ws) (ltb m (length ws)))
      refusal-over f = rw (le-ltb m (length ws) h, d.view, held_some, sym (small_whole ws d.right) ∙ sym e ∙ f)
