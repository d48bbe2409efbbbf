-- An announcement to a table: each of its answers is the list's, and a table is left that stands for the list with the candidate.
-- Assumes nothing.
use Rattle.std.specs.Prelude.{◌≡◌, refl, ◌⊎◌, ◌≢◌, false, List, ℕ, ◌+◌, ◌-◌, ◌*◌, ◌/◌, ◌^◌, ◌≤◌, ◌<◌, eqb, get_or}
use Rattle.std.proofs.Common.{sym, ap, ap₂, ◌∙◌, inl, inr, ⊎_elim, arith, pow_pos, pow_mono, eq-eqb, ne_eqb, lt-ltb, le-ltb}
use Rattle.std.proofs.lemmas.Bool.{false≢true}
use Rattle.sizes.specs.Sizes.{array_words, hop_bound, slot_end}
use Rattle.routes.specs.Route.{Route, route, hop_at, insert}
use Rattle.routes.specs.Collect.{routes}
use Rattle.routes.specs.Room.{need_to, need}
use Rattle.routes.specs.Answers.{done, refused, lacking}
use Rattle.logic.specs.Cases.{bool, same}
use Rattle.laws.specs.Collect.{routes_hop}
use Rattle.candidates.specs.Keyed.{Ordered, find, put, Every}
use Rattle.candidates.specs.Candidate.{Candidate, candidate, place, key}
use Rattle.candidates.specs.Winners.{winning, winners}
use Rattle.candidates.specs.Answers.{Update, announce, reloaded, verdict}
use Rattle.rivals.specs.Maps.{put_same, put-held}
use Rattle.rivals.specs.Won.{Good, are_good, found_won, winners_hop}
use Rattle.slots.specs.Word.{word_of, word_for, RightWord, right_of}
use Rattle.slots.specs.Slot.{with_word, with_same, with_right, won_free}
use Rattle.tree.specs.Arrays.{Arrays, node, held}
use Rattle.tree.specs.Shape.{HasSlot, HasLink}
use Rattle.tree.specs.Tree.{Level, node-level}
use Rattle.tree.specs.SlotSet.{Place}
use Rattle.tree.specs.Free.{used-full}
use Rattle.tree.specs.Missing.{need_more}
use Rattle.gather.specs.Views.{word_held}
use Rattle.gather.specs.WordSet.{TreeWordSet}
use Rattle.gather.proofs.WordSet.{tree_put}
use Rattle.gather.proofs.Hung.{gathered_same}
use Rattle.totals.specs.Sums.{some as Some-of, some_one}
use Rattle.words.specs.Words.{feeds_of, arrays_of, array_count, words_of, slots_of}
use Rattle.words.specs.TableBut.{TableBut, Table}
use Rattle.words.specs.Table.{list_of}
use Rattle.words.specs.Listed.{table_list}
use Rattle.words.specs.SlotSet.{slot_set_table_but, but_is_table}
use Rattle.words.specs.Stock.{table_winners, table_count_lem}
use Rattle.numbers.specs.Front.{front}
use Rattle.address.specs.Address.{stands-level}
use Rattle.paths.specs.Grown.{Grown}
use Rattle.paths.specs.Stop.{Opened, stops-missing}
use Rattle.paths.specs.Held.{Sought, sought_wide, sought_head, sought_small, sought_fits, sought_bits, sought_as, sought_at}
use Rattle.paths.specs.Held.{sought_gone, sought_word, sought_same}
use Rattle.replies.specs.declared.Reply.TheVariants.{Done, Refused}
use Rattle.update.specs.Update.{HasApplied}
use Rattle.update.specs.Reseat.{Sits, Reseated, sits_at}
use Rattle.update.specs.Prefix.{won_slot}
use Rattle.update.specs.Reloaded.{seated_tree, seated_won, seated_cells}
use Rattle.update.specs.Spared.{spared_hung}

-- a refusal leaves the words
pub refuses : (L : ℕ) (ws : List ℕ) (u : Update) (n : ℕ) → Table L ws
    → refused n ≡ verdict (8 * L) (array_count ws) (list_of L ws) u → HasApplied L ws ws u (Refused n)
refuses L ws u n ok e = record {
  answer = e;
  table = ok;
  size = refl;
  list = refl;
  kept = λ _. refl;
  still = λ _. refl;
  frame = λ c h n w b. refl;
}

node_root : (t : Arrays) (v : ℕ) → node t v 0 ≡ 1
unfolding node
node_root t v = refl

module _ {L : ℕ} {ws : List ℕ} {a l f k d x j b w : ℕ} (s : Sought L ws a l f k d x j b w) (h n : ℕ) (hop : 1 ≤ h)
    (low : h < hop_bound) where
  wide : 8 * L < 256
  wide = sought_wide s

  abbrev new : Candidate
  new = candidate a l f n h

  goods : Every Good (list_of L ws)
  goods = are_good (8 * L) wide (list_of L ws) (table_list L ws s.ok)

  ordered : Ordered key 0 (list_of L ws)
  ordered = (table_list L ws s.ok).sorted

  -- this candidate is held already: the list with it is the list
  pub announce_same : w ≡ word_of n h → HasApplied L ws ws (announce a l h f n) (Done h 0)
  announce_same e =
      let q = sought_same s n h hop low e in
      let o = put-held key new (list_of L ws) ordered q in
      let z : 0 < winning (list_of L ws) (a * 256 + l) =
      found_won (list_of L ws) a l f new (omega (arith, s.feed.high)) goods q in
      record {
        answer = rw (
          winners_hop (list_of L ws) (a * 256 + l),
          ne_eqb (winning (list_of L ws) (a * 256 + l)) 0 (λ t. omega arith),
          o,
          eq-eqb (winning (list_of L ws) (a * 256 + l)) (winning (list_of L ws) (a * 256 + l)) refl,
        );
        table = s.ok;
        size = refl;
        list = sym o;
        kept = λ _. refl;
        still = λ _. refl;
        frame = λ c h n w b. refl;
      }

  -- it is not: the feed has no candidate for the prefix, or another
  module _ (other : w ≢ word_of n h) where
    -- the routes of the winning hops
    abbrev won : List Route
    won = routes (8 * L) (held (arrays_of ws))

    -- the winners with the route need the arrays that the path lacks besides those used
    needs : need (8 * L) (insert (route a l h) (winners (list_of L ws))) ≡ get_or ws 0 0 + (k - j)
    needs =
        let e : 8 * L / 8 - 1 ≡ L - 1 = omega arith in
        let t = table_winners L ws s.ok in
        rw t (ap₂ (λ (m : ℕ) (r : Route). need_to (8 * L) m (insert r won)) e (sym (sought_as s (λ (y z : ℕ). route y z h)))
        ∙ need_more (array_count ws) L (arrays_of ws) s.ok.shape s.ok.filled (front L a k) k d x h
        s.stands.deep s.stands.own s.stands.top (sought_head s) (sought_small s)
        (L - 1) (omega (arith, s.ok.shape.some_level)) hop
        ∙ ap₂ ◌+◌ (sym (rw t at (table_count_lem L ws s.ok)))
        (stops-missing L ws a s.ok.shape k j b s.stands.top s.stops))

    -- a prefix whose path stops short has no winner
    no_winner : j ≢ k → hop_at (winners (list_of L ws)) (a * 256 + l) ≡ 0
    no_winner m =
        rw (table_winners L ws s.ok)
        (sym (sought_as s (λ (y z : ℕ). hop_at won (y * 256 + z)))
        ∙ routes_hop (8 * L) wide (held (arrays_of ws)) (front L a k * 2 ^ d + x) (8 * k + d) (sought_fits s) (sought_bits s)
        ∙ sought_gone s (arrays_of ws) refl m)

    module _ (vs : List ℕ) (r : ℕ) (o : Opened L ws vs a j k r) where
      -- 8: there is no room. The path lacks an array then, so the prefix has no candidate
      pub announce_full : r ≡ 0 → HasApplied L ws vs (announce a l h f n) (Refused 8)
      announce_full z =
          let g = o.none z in
          let used = used-full (arrays_of ws) 0 (array_count ws) in
          let short : j ≢ k = λ e. omega (arith, g.1, s.ok.header.count, used) in
          let none = eq-eqb (hop_at (winners (list_of L ws)) (a * 256 + l)) 0 (no_winner short) in
          rw g.0 (refuses L ws (announce a l h f n) 8 s.ok
          (rw (none, needs, lt-ltb (array_count ws) (get_or ws 0 0 + (k - j)) g.1)))

      -- the path is open, and its last array has a seat for the candidate
      module _ (there : r ≢ 0) where
        grown : Grown L ws vs a j k r
        grown = o.some there

        spot : Place (array_count vs) L (arrays_of vs) r (front L a k) k d x
        spot = sought_at s (array_count vs) (arrays_of vs) r grown.leads grown.some

        pub announce_sits : Sits L vs r k d x
        announce_sits = sits_at L r vs r (front L a k) k d x grown.ok spot

        same_before : list_of L vs ≡ list_of L ws
        same_before = gathered_same (word_held (feeds_of vs)) (word_held (feeds_of ws)) grown.held (8 * L)

        lv : Level (array_count vs) (arrays_of vs) r k
        lv =
            rw grown.leads at
            (node-level (array_count vs) L (arrays_of vs) grown.ok.shape (front L a k) k (rw grown.leads grown.some))

        room : need (8 * L) (insert (route a l h) (winners (list_of L ws))) ≤ array_count ws
        room =
            let e : array_count vs ≡ array_count ws = ap (λ (z : ℕ). z / array_words - 1) grown.size in
            omega (arith, needs, grown.count, grown.ok.header.count, used-full (arrays_of vs) 0 (array_count vs))

        roomy : lacking (8 * L) (array_count ws) (winners (list_of L ws)) a l h ≡ false
        roomy =
            let e = le-ltb (array_count ws) (need (8 * L) (insert (route a l h) (winners (list_of L ws)))) room in
            bool (eqb (hop_at (winners (list_of L ws)) (a * 256 + l)) 0) (λ t. rw (t, e)) (λ t. rw t)

        module _ (byte : n ≤ 255) (us : List ℕ) (c : ℕ) (p : Reseated vs us r k d x f (word_of n h) c) where
          right : RightWord (word_of n h)
          right = right_of n h byte hop low

          almost : TableBut L r us
          almost =
              slot_set_table_but L r vs us r (2 ^ d + x) f (word_of n h) grown.some p.slot grown.ok (inr refl)
              (omega (arith, lv.level)) right p.sums

          -- the candidate's slot has a winner
          taken : 1 ≤ 2 ^ d + x → (arrays_of us).slot r (2 ^ d + x) ≢ 0
          taken lo z =
              let g = words_of vs r (2 ^ d + x) in
              let hi : 2 ^ d + x < slot_end = omega (arith, spot.small, pow_mono {i = d} {j = 8} spot.deep) in
              let q = with_right g f (word_of n h)
              (grown.ok.words r (2 ^ d + x) grown.some lv.within (omega (arith, lv.level)) lo hi) right in
              let e = won_free (with_word g f (word_of n h)) q (sym (seated_won grown.ok spot p).here ∙ z) f s.feed in
              omega (arith, sym (with_same g f (word_of n h)) ∙ e)

          -- so the array is not empty
          filled : 2 ≤ r → HasSlot (arrays_of us) r ⊎ HasLink (arrays_of us) r
          filled two =
              let root : k ≡ 0 → r ≡ 1 =
              λ z. sym grown.leads ∙ ap (node (arrays_of vs) (front L a k)) z ∙ node_root (arrays_of vs) (front L a k) in
              let lo : 1 ≤ d = ⊎_elim (λ (z : 1 ≤ d). z) (λ (z : k ≡ 0). absurd (omega (arith, root z))) s.stands.own in
              let two : 2 ≤ 2 ^ d + x = omega (arith, pow_mono {i = 1} {j = d} lo) in
              let some = taken (omega arith) in
              inl (record {
                s = 2 ^ d + x;
                low = two;
                high = omega (arith, spot.small, pow_mono {i = d} {j = 8} spot.deep);
                some = omega (arith, some);
              })

          -- a prefix that was held had its whole path, and its slot taken
          held-before : winning (list_of L ws) (a * 256 + l) ≢ 0
              → (j ≡ k) × (Some-of (slots_of us r (2 ^ d + x)) ≡ Some-of (slots_of vs r (2 ^ d + x)))
          held-before z =
              let none : j ≢ k → winning (list_of L ws) (a * 256 + l) ≡ 0 =
              λ m. sym (winners_hop (list_of L ws) (a * 256 + l)) ∙ no_winner m in
              let whole : j ≡ k = same j k (λ e _. e) (λ m _. absurd (z (none m))) in
              let had : slots_of vs r (2 ^ d + x) ≢ 0 =
              λ e. z (ap (λ (cs : List Candidate). winning cs (a * 256 + l)) (sym same_before)
              ∙ won_slot s vs grown.ok r grown.leads grown.some ∙ e) in
              let lo : 1 ≤ 2 ^ d + x = omega (arith, pow_pos d) in
              let has = taken lo in
              (whole, some_one _ (omega arith) ∙ sym (some_one _ (omega arith)))

          tree : TreeWordSet (feeds_of vs) (feeds_of us) r (2 ^ d + x) f (word_of n h)
          tree = seated_tree grown.ok spot p

          with_candidate : list_of L us ≡ put key (candidate a l f n h) (list_of L ws)
          with_candidate =
              tree_put (array_count vs) L (feeds_of vs) (feeds_of us) r (front L a k) k d x f (word_of n h) grown.ok.shape spot
              s.feed tree (8 * L) wide (sought_fits s) n h hop low refl
              ∙ ap₂ (put key) (sought_as s (λ (y z : ℕ). candidate y z f n h)) same_before

          pub announce_done : HasApplied L ws us (announce a l h f n) (Done h c)
          announce_done = record {
            answer =
                rw roomy (ap (done h) (seated_cells grown.ok spot p s.feed right s.stands.top
                ∙ sought_as s (λ (y z : ℕ). reloaded (8 * L) (list_of L vs) (list_of L us) y z)
                ∙ ap₂ (λ (cs ds : List Candidate). reloaded (8 * L) cs ds a l) same_before with_candidate));
            table = but_is_table L r us almost filled;
            size = p.slot.size ∙ grown.size;
            list = with_candidate;
            kept = λ e. absurd (false≢true e);
            still = λ e. absurd (other (sym (sought_word s)
                ∙ ap (λ (cs : List Candidate). word_for (find key cs (place a l f))) (sym e ∙ with_candidate)
                ∙ ap word_for (put_same key new (list_of L ws))));
            frame = spared_hung l s.stands.top (stands-level L a l k d x s.stands) grown p (seated_won grown.ok spot p)
                held-before;
          }
