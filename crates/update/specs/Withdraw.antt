-- A withdrawal from a table: each of its answers is the list's, and a table is left that stands for the list without the
-- candidate. Assumes nothing.
use Rattle.std.specs.Prelude.{◌≡◌, refl, ◌≢◌, List, ℕ, ◌+◌, ◌*◌, ◌^◌, ◌≤◌, ◌<◌, get_or}
use Rattle.std.proofs.Common.{sym, ap, ap₂, ◌∙◌, inl, ⊎_elim, arith, pow_pos, pow_mono, eq-eqb, ne_eqb}
use Rattle.std.proofs.lemmas.Bool.{false≢true}
use Rattle.logic.specs.Cases.{same}
use Rattle.sizes.specs.Sizes.{array_at, slot_end}
use Rattle.routes.specs.Answers.{done}
use Rattle.candidates.specs.Keyed.{find, cut}
use Rattle.candidates.specs.Candidate.{Candidate, place, key}
use Rattle.candidates.specs.Candidate as list
use Rattle.candidates.specs.Answers.{withdraw, reloaded}
use Rattle.rivals.specs.Maps.{cut_same}
use Rattle.candidates.specs.Winners.{winning}
use Rattle.slots.specs.Word.{hop_in, word_for, right_none}
use Rattle.slots.specs.Slot.{won_free}
use Rattle.array.specs.Tag.{level_in}
use Rattle.tree.specs.Arrays.{node}
use Rattle.tree.specs.Tree.{Level, node-level}
use Rattle.tree.specs.SlotSet.{Place, same_node}
use Rattle.gather.specs.Views.{word_held}
use Rattle.gather.specs.WordSet.{TreeWordSet}
use Rattle.gather.proofs.WordSet.{tree_cut}
use Rattle.gather.proofs.Hung.{gathered_same}
use Rattle.totals.specs.Sums.{some as Some-of, some_one}
use Rattle.words.specs.Words.{feeds_of, arrays_of, array_count, words_of, slots_of}
use Rattle.words.specs.Table.{list_of}
use Rattle.words.specs.Listed.{table_list}
use Rattle.words.specs.SlotSet.{slot_set_table_but}
use Rattle.numbers.specs.Front.{front}
use Rattle.address.specs.Address.{stands-level}
use Rattle.paths.specs.Stop.{On}
use Rattle.paths.specs.Shrunk.{EmptyAllowed, Pruned}
use Rattle.paths.specs.Held.{Sought, sought_wide, sought_fits, sought_as, sought_place}
use Rattle.paths.specs.Held.{sought_word, sought_held, sought_none, sought_some}
use Rattle.replies.specs.declared.Reply.TheVariants.{Done, Refused}
use Rattle.update.specs.Update.{HasApplied}
use Rattle.update.specs.Reseat.{Sits, Reseated, sits_at}
use Rattle.update.specs.Prefix.{won_slot, won_none}
use Rattle.update.specs.Reloaded.{seated_tree, seated_won, seated_cells}
use Rattle.update.specs.Announce.{refuses}
use Rattle.update.specs.Spared.{up_zero, spared_freed}

module _ {L : ℕ} {ws : List ℕ} {a l f k d x j b w : ℕ} (s : Sought L ws a l f k d x j b w) where
  -- 7: the candidate is not held
  pub withdraw_none : w ≡ 0 → HasApplied L ws ws (withdraw a l f) (Refused 7)
  withdraw_none e =
      refuses L ws (withdraw a l f) 7 s.ok (rw (eq-eqb (list.held (list_of L ws) a l f) 0 (sought_none s e)))

  module _ (some : w ≢ 0) where
    -- the path goes all the way down
    arrived : j ≡ k
    arrived = same j k (λ e _. e) (λ n t. absurd (some (s.word ∙ rw t)))

    spot : Place (array_count ws) L (arrays_of ws) b (front L a k) k d x
    spot = sought_place s arrived

    pub withdraw_sits : Sits L ws b k d x
    withdraw_sits = sits_at L 0 ws b (front L a k) k d x s.ok spot

    lv : Level (array_count ws) (arrays_of ws) b k
    lv =
        rw spot.leads at
        (node-level (array_count ws) L (arrays_of ws) s.ok.shape (front L a k) k (rw spot.leads spot.array))

    used : 1 ≤ get_or ws (array_at b) 0
    used = omega (arith, lv.level)

    module _ (vs : List ℕ) (c : ℕ) (p : Reseated ws vs b k d x f 0 c) where
      -- the array may be empty now, and those above it after it
      pub withdraw_loose : EmptyAllowed L vs b
      withdraw_loose = record {
        ok = slot_set_table_but L 0 ws vs b (2 ^ d + x) f 0 spot.array p.slot s.ok (inl refl) used right_none
            p.sums;
        some = spot.array;
        within = rw p.slot.size lv.within;
        used = rw p.slot.tag used;
      }

      tree : TreeWordSet (feeds_of ws) (feeds_of vs) b (2 ^ d + x) f 0
      tree = seated_tree s.ok spot p

      on : On L vs a k b
      on = record {
        leads = same_node (arrays_of ws) (arrays_of vs) tree.tags tree.links (front L a k) k ∙ spot.leads;
        some = spot.array;
        within = withdraw_loose.within;
      }

      without : list_of L vs ≡ cut key (place a l f) (list_of L ws)
      without =
          tree_cut (array_count ws) L (feeds_of ws) (feeds_of vs) b (front L a k) k d x f 0 s.ok.shape spot s.feed tree
          (8 * L) (sought_wide s) (sought_fits s) refl
          ∙ sought_as s (λ (y z : ℕ). cut key (place y z f) (list_of L ws))

      -- a prefix that is held still has its array, and its slot taken
      held_after : (us : List ℕ) (pu : Pruned L vs us b) → winning (list_of L us) (a * 256 + l) ≢ 0
          → (pu.m ≡ 0) × (Some-of (slots_of vs b (2 ^ d + x)) ≡ Some-of (slots_of ws b (2 ^ d + x)))
      held_after us pu z =
          let same_list = gathered_same (word_held (feeds_of us)) (word_held (feeds_of vs)) pu.freed.held (8 * L) in
          let right = s.ok.words b (2 ^ d + x) spot.array lv.within used low high in
          let had : slots_of ws b (2 ^ d + x) ≢ 0 = λ e. some (s.word ∙ rw (eq-eqb j k arrived)
          (won_free (words_of ws b (2 ^ d + x)) right e f s.feed)) in
          let has : slots_of vs b (2 ^ d + x) ≢ 0 = λ e. z (ap (λ (cs : List Candidate). winning cs (a * 256 + l)) same_list
          ∙ won_slot s vs withdraw_loose.ok b on.leads spot.array ∙ e) in (
            same pu.m 0 (λ e _. e) (λ n _. absurd (z (won_none s us pu.ok (freed-path pu n)))),
            some_one _ (omega arith) ∙ sym (some_one _ (omega arith)),
          )
        where
          low : 1 ≤ 2 ^ d + x
          low = omega (arith, pow_pos d)

          high : 2 ^ d + x < slot_end
          high = omega (arith, spot.small, pow_mono {i = d} {j = 8} spot.deep)

          -- an array that was released is on no path
          freed-path : (pu : Pruned L vs us b) → pu.m ≢ 0 → node (arrays_of us) (front L a k) k ≡ 0
          freed-path pu n =
              same (node (arrays_of us) (front L a k) k) 0 (λ e _. e)
              (λ y _. ⊎_elim
              (λ (e : node (arrays_of us) (front L a k) k ≡ node (arrays_of vs) (front L a k) k).
              let u = (node-level (array_count us) L (arrays_of us) pu.ok.shape (front L a k) k (omega arith)).level in
              let gone = pu.freed.gone 0 (omega arith) in
              absurd (omega (arith, ap (arrays_of us).tag (e ∙ on.leads ∙ sym (up_zero (arrays_of vs) b)))))
              (λ (e : node (arrays_of us) (front L a k) k ≡ 0). e)
              (pu.freed.paths (front L a k) k))

      pub withdraw_done : (us : List ℕ) (h : ℕ) → Pruned L vs us b → h ≡ hop_in w → HasApplied L ws us (withdraw a l f) (Done h c)
      withdraw_done us h pu e = record {
        answer =
            rw (ne_eqb (list.held (list_of L ws) a l f) 0 (sought_some s some))
            (ap₂ done (e ∙ sym (sought_held s))
            (seated_cells s.ok spot p s.feed right_none s.stands.top
            ∙ sought_as s (λ (y z : ℕ). reloaded (8 * L) (list_of L ws) (list_of L vs) y z)
            ∙ ap (λ (ds : List Candidate). reloaded (8 * L) (list_of L ws) ds a l) without));
        table = pu.ok;
        size = pu.freed.size ∙ p.slot.size;
        list = left;
        kept = λ e. absurd (false≢true e);
        still = λ e. absurd (some (sym (sought_word s)
            ∙ ap (λ (cs : List Candidate). word_for (find key cs (place a l f))) (sym e ∙ left)
            ∙ ap word_for (cut_same key 0 (place a l f) (list_of L ws) (table_list L ws s.ok).sorted)));
        frame = spared_freed L a l withdraw_loose.ok.shape s.stands.top (stands-level L a l k d x s.stands)
            spot.leads spot.array p (seated_won s.ok spot p) pu.freed deep (held_after us pu);
      }
        where
          -- fewer are released than there are levels down to the array's
          deep : pu.m ≤ k
          deep = omega (arith, pu.level, ap level_in p.slot.tag, lv.level)

          left : list_of L us ≡ cut key (place a l f) (list_of L ws)
          left = gathered_same (word_held (feeds_of us)) (word_held (feeds_of vs)) pu.freed.held (8 * L) ∙ without
