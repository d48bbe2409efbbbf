-- Whether a table's list holds a prefix is read off the slot at its place. Assumes nothing.
use Rattle.std.proofs.Math.Path.{◌≡◌}
use Rattle.std.proofs.Common.{sym, ap, ◌∙◌, arith}
use Rattle.std.proofs.Math.Logic.{⊎_elim}
use Rattle.std.specs.Prelude.{List, ℕ, ◌+◌, ◌*◌, ◌^◌, ◌≤◌}
use Rattle.routes.specs.Route.{Route, hop_at}
use Rattle.routes.specs.Collect.{routes}
use Rattle.laws.specs.Collect.{routes_hop}
use Rattle.candidates.specs.Winners.{winning}
use Rattle.rivals.specs.Won.{winners_hop}
use Rattle.tree.specs.Arrays.{node, held}
use Rattle.tree.specs.Need.{held_at}
use Rattle.tree.specs.SlotSet.{held_place, at_none}
use Rattle.gather.proofs.Views.{tree_winners}
use Rattle.words.specs.Words.{feeds_of, arrays_of, array_count, slots_of}
use Rattle.words.specs.Table.{list_of}
use Rattle.words.specs.TableBut.{TableBut}
use Rattle.numbers.specs.Front.{front}
use Rattle.paths.specs.Held.{Sought, sought_wide, sought_fits, sought_bits, sought_small, sought_as, sought_at}

-- the prefix that was sought, in any table but for one array
module _ {L : ℕ} {ws : List ℕ} {a l f k d x j b w : ℕ} (s : Sought L ws a l f k d x j b w) {e : ℕ} (us : List ℕ)
    (ok : TableBut L e us) where
  won_held : winning (list_of L us) (a * 256 + l) ≡ held (arrays_of us) (front L a k * 2 ^ d + x) (8 * k + d)
  won_held =
      let won = routes (8 * L) (held (arrays_of us)) in
      sym (winners_hop (list_of L us) (a * 256 + l))
      ∙ ap (λ (rs : List Route). hop_at rs (a * 256 + l))
      (tree_winners (array_count us) L (feeds_of us) ok.shape ok.words (8 * L) (sought_wide s))
      ∙ sym (sought_as s (λ (y z : ℕ). hop_at won (y * 256 + z)))
      ∙ routes_hop (8 * L) (sought_wide s) (held (arrays_of us)) (front L a k * 2 ^ d + x) (8 * k + d)
      (sought_fits s) (sought_bits s)

  -- its path leads to array c
  pub won_slot : (c : ℕ) → node (arrays_of us) (front L a k) k ≡ c → 1 ≤ c
      → winning (list_of L us) (a * 256 + l) ≡ slots_of us c (2 ^ d + x)
  won_slot c q h =
      won_held
      ∙ held_place (array_count us) L (arrays_of us) c (front L a k) k d x (sought_at s (array_count us) (arrays_of us) c q h)

  -- it leads nowhere: below the first level only, as the root is always there
  pub won_none : node (arrays_of us) (front L a k) k ≡ 0 → winning (list_of L us) (a * 256 + l) ≡ 0
  unfolding node
  won_none q =
      let lo : 1 ≤ d = ⊎_elim (λ (z : 1 ≤ d). z)
      (λ (z : k ≡ 0). absurd (let r : ◌≡◌ {A = ℕ} 1 0 = rw z at q in omega arith)) s.stands.own in
      won_held ∙ held_at (arrays_of us) (front L a k) k d x lo s.stands.deep (sought_small s)
      ∙ at_none (arrays_of us) (node (arrays_of us) (front L a k) k) (2 ^ d + x) q
