-- The items are met. Assumes nothing.
use Rattle.std.specs.Prelude.{◌≡◌, ◌≢◌, Bool, true, false, not, ◌||◌, List, ◌∷◌, ℕ, ◌+◌, ◌*◌, ltb, eqb, length}
use Rattle.std.proofs.Math.Path.{refl}
use Rattle.std.proofs.Common.{sym, ap, ◌∙◌, true≢false, arith, ne_eqb, lt-ltb}
use Rattle.std.proofs.Math.Option.{Option, some}
use Rattle.std.proofs.Math.Option as option
use Rattle.logic.specs.Cases.{bool}
use Rattle.routes.specs.Family.{Family, v4, levels, width, unknown, role_of}
use Rattle.routes.specs.Route.{Route, held as hop_for}
use Rattle.routes.specs.Match.{Match, longest}
use Rattle.routes.specs.Match as match
use Rattle.routes.specs.Block.{block}
use Rattle.routes.specs.Answers.{Reply, done, found, none, refused, lacking, matched}
use Rattle.routes.specs.Seen.{Answer, gives, refuses}
use Rattle.candidates.specs.Keyed.{find, put}
use Rattle.candidates.specs.Candidate.{Candidate, candidate, held, hop_of, key, place}
use Rattle.candidates.specs.Winners.{winners, winning}
use Rattle.candidates.specs.Answers.{Update, announce, sound, reloaded, answer, verdict, after}
use Rattle.candidates.specs.Runs.{Ran as Outcome, first, fresh, run}
use Rattle.encoded.specs.Turns.{halts_2, runs_stop}
use Rattle.candidates.specs.Seen.{Seen, misfit, foreign, table, lookup_on}
use Rattle.laws.specs.Block.{block_smallest}
use Rattle.laws.specs.Given.{refused_one, given_refused}
use Rattle.laws.specs.Families.{width_low}
use Rattle.rivals.specs.Won.{are_good, found_won, winners_hop, winners_list}
use Rattle.rivals.proofs.Lowest.{best-lowest}
use Rattle.rivals.specs.Updates.{faulty-sound, sound-target}
use Rattle.words.specs.Table.{seen}
use Rattle.words.specs.View.{seen_misfit, seen-cases}
use Rattle.lookup.specs.Walk.{walk}
use Rattle.resolver.specs.Stated.{of_table}
use Rattle.shortest.specs.Shortest.{upto}
use Rattle.shortest.specs.Seen.{shortest4, bytes_for as short_bytes, short_for, short_on, bytes_in, left_in}
use Rattle.shorten.specs.Answer.{short_in}
use Rattle.answers.specs.Numbers.{wrote as wrote_short}
use Rattle.shortener.specs.Stated.{written-shortest}
use Rattle.answers.specs.declared.Written.{Written as Shortened}
use Rattle.listing.specs.Listed.{Listed, unlisted, listed, listed_in}
use Rattle.listing.proofs.Written.{written_listed}
use Rattle.lengths.specs.Marks.{words_for as copy_words}
use Rattle.lengths_build.specs.Answer.{build_on as copy_on}
use Rattle.toggleash.specs.Copies.{built as copied}
use Rattle.toggleash.specs.declared.copies.Built.{Built as Copied}
use Rattle.calls.proofs.Copy.{as_table}
use Rattle.words.specs.Words.{arrays_of, array_count}
use Rattle.packed.specs.Laid.{Laid, mask_chosen}
use Rattle.packed_build.specs.Need.{words_for as packed_words}
use Rattle.packed_build.specs.Answer.{build_on as pack_on}
use Rattle.packing.specs.Face.{built as packed_built}
use Rattle.packing.specs.Carried.{without_block as match_in, as_table as packed_as_table}
use Rattle.packing.specs.declared.Built.{Built as PackedBuilt}
use Rattle.replayed.proofs.Fed.{fed-forwards}
use Rattle.replayed.proofs.Card.{as_forwarded}
use Rattle.front.specs.Place.{Place}
use Rattle.front.specs.Front.{both}
use Rattle.front.specs.Seen.{front}
use Rattle.restraint.specs.Ended.{left_by}
use Rattle.restraint.proofs.Ended.{run-five}
use Rattle.rows.specs.Row.{places_of, IsWords}
use Rattle.damping.specs.View.{seen_front, seen_front_lem}
use Rattle.damper.specs.Behind.{seen_without}
use Rattle.answers.specs.Numbers.{looked, updated}
use Rattle.answers.specs.declared.Found.{Found}
use Rattle.calls.specs.Held as known
use Rattle.calls.specs.Counts.{path_alone_c}
use Rattle.calls.specs.Swapped.{end_is}
use Rattle.calls.specs.ExportedNever.{never_exported}
use Rattle.calls.proofs.ExportedSwapped.{under}
use Rattle.calls.proofs.ExportedMoved.{moved_run_exported}
use Rattle.claim.specs.Demands.{is_foreign, list_in, wrong_size, no_table, held_in}
use Rattle.claim.specs.Refusals.{by_size}
use Rattle.claim.specs.Unseen.{unseen}
use Rattle.claim.specs.Log.{withdrawn, announced, moved_ahead, fourth_missing}
use Rattle.claim.specs.Items.{is_unlisted, routes_in, without_block, Item1, Item2, Item3, Item5, Item6, Item7}
use Rattle.claim.specs.Items.{Item8, FourthMissing, Item10, Item11, Item12, Item14}

-- ---- 1

copied_number : (l : Listed) (room : ℕ) → (copied (copy_on l room)).refusal
    ≡ first 2 (is_unlisted l) (first 9 (ltb room (copy_words (routes_in l))) 0)
copied_number unlisted room = refl
copied_number (listed rs) room = bool (ltb room (copy_words rs)) (λ e. rw e refl) (λ e. rw e refl)

-- a refusal with a number that is not 0 is one
refused_by_lem : {T : Type 0} (a : Answer T) → (number : Answer T → ℕ) → ((t : T) → number (gives t) ≡ 0) → number a ≢ 0
    → (P : Type 0) → ((n : ℕ) → a ≡ refuses n → P) → P
refused_by_lem (gives t) number z n P f = absurd (n (z t))
refused_by_lem (refuses m) number z n P f = f m refl

pub item_1 : Item1
item_1 = record {
  answers = as_table;
  refusals = λ bytes ws vs r p.
      ap (λ (x : Copied). x.refusal) p.answer ∙ copied_number (listed_in bytes) (length ws);
  kept = λ bytes ws vs r p n.
      refused_by_lem (copy_on (listed_in bytes) (length ws)) (λ a. (copied a).refusal) (λ t. refl)
      (λ z. n (ap (λ (x : Copied). x.refusal) p.answer ∙ z)) (vs ≡ ws) (λ m e. p.kept m e);
  any_room = written_listed;
}

-- ---- 2

matched-block : (m : Match) (q : ℕ) → (looked (matched m q)).block ≡ q
matched-block match.none q = refl
matched-block (match.found h l) q = refl

pub item_2 : (F : Family) → Item2 F
item_2 F = record {
  smallest = λ A cs ws e a h r p.
      let rs = winners cs in
      let q : r.block ≡ block (width F) rs a =
      ap (λ (x : Found). x.block) (rw e at p) ∙ matched-block (longest (width F) a rs) (block (width F) rs a) in
      rw q (block_smallest (width F) rs a (winners_list (width F) cs (known.held F A cs ws e).list) h);
}

-- ---- 3

-- a prefix that has a candidate never lacks room
found_some : (o : Option Candidate) → hop_of o ≢ 0 → (P : Type 0) → ((c : Candidate) → o ≡ some c → P) → P
found_some option.none n P f = absurd (n refl)
found_some (some c) n P f = f c refl

module _ (F : Family) (A : ℕ) (cs : List Candidate) (ws : List ℕ) (e : seen (levels F) ws ≡ table A cs) (a l h f p : ℕ)
    (s : sound (width F) (announce a l h f p) ≡ true) (n : held cs a l f ≢ 0) where
  abbrev W : ℕ
  W = width F

  not_lacking : lacking W A (winners cs) a l h ≡ false
  not_lacking =
      let k = known.held F A cs ws e in
      let t = sound-target W (announce a l h f p) s in
      found_some (find key cs (place a l f)) n (lacking W A (winners cs) a l h ≡ false) (λ c q.
      let w = found_won cs a l f c (omega (arith, t.2)) (are_good W (width_low F) cs k.list) q in
      rw (winners_hop cs (a * 256 + l), ne_eqb (winning cs (a * 256 + l)) 0 (λ z. omega arith)) refl)

  abbrev pub u : Update
  u = announce a l h f p

  accepted : answer W A cs u ≡ done h (reloaded W cs (put key (candidate a l f p h) cs) a l)
  unfolding answer
  accepted = faulty-sound W u (verdict W A cs u) s ∙ rw not_lacking refl

  changed_so : after W A cs u ≡ put key (candidate a l f p h) cs
  changed_so = rw accepted refl

pub item_3 : (F : Family) → Item3 F
item_3 F = record {
  replaces = λ A cs ws vs e a l h f p s n r q. (
    (rw e at q.answer) ∙ ap updated (accepted F A cs ws e a l h f p s n),
    (rw e at q.list) ∙ ap (table A) (changed_so F A cs ws e a l h f p s n),
  );
}

-- ---- 5

packed_number : (ts : List ℕ) (room : ℕ) → (packed_built (pack_on (seen 4 ts) room)).refusal
    ≡ first 1 (wrong_size ts) (first 2 (no_table v4 ts) (first 9 (ltb room (packed_words 32 (winners (held_in v4 ts)))) 0))
packed_number ts room =
    by_size v4 ts (λ m s. (packed_built (pack_on s room)).refusal
    ≡ first 1 m (first 2 (is_foreign s) (first 9 (ltb room (packed_words 32 (winners (list_in s)))) 0)))
    refl refl (λ A cs e. bool (ltb room (packed_words 32 (winners cs))) (λ d. rw d refl) (λ d. rw d refl))

-- not refused, it gives its counts
given_by : {T : Type 0} (a : Answer T) → (number : Answer T → ℕ) → ((n : ℕ) → number (refuses n) ≡ n) → number a ≡ 0
    → ((n : ℕ) → a ≡ refuses n → n ≢ 0) → (P : Type 0) → ((t : T) → a ≡ gives t → P) → P
given_by (gives t) number z e o P f = f t refl
given_by (refuses m) number z e o P f = absurd (o m refl (sym (z m) ∙ e))

pack_numbers : (s : Seen) (room n : ℕ) → pack_on s room ≡ refuses n → n ≢ 0
pack_numbers misfit room n e z = let k : 1 ≡ n = refused_one e in omega arith
pack_numbers foreign room n e z = let k : 2 ≡ n = refused_one e in omega arith
pack_numbers (table A cs) room n e z =
    bool (ltb room (packed_words 32 (winners cs)))
    (λ d. (let k : 9 ≡ n = refused_one (rw d at e) in omega arith))
    (λ d. given_refused (rw d at e))

-- the table's own answer, in the fields of a match
fields_alike : (y : Reply) → match_in y ≡ without_block (looked y)
fields_alike (done h c) = refl
fields_alike (found h l q) = refl
fields_alike (none q) = refl
fields_alike (refused n) = refl

pub item_5 : Item5
item_5 = record {
  answers = λ t a h f r p q.
      let y = lookup_on 32 (seen 4 t.words) (walk 4 t.words a) a in
      packed_as_table t a h y r refl q ∙ fields_alike y ∙ ap without_block (sym p);
  masks = λ ts a n. mask_chosen (arrays_of ts) a n;
  laid = λ ts ws us r p z.
      given_by (pack_on (seen 4 ts) (length ws)) (λ a. (packed_built a).refusal) (λ n. refl)
      (sym (ap (λ (x : PackedBuilt). x.refusal) p.answer) ∙ z) (pack_numbers (seen 4 ts) (length ws))
      (Laid (arrays_of ts) (array_count ts) us) (λ c e. p.laid c e);
  refusals = λ ts ws us r p. ap (λ (x : PackedBuilt). x.refusal) p.answer ∙ packed_number ts (length ws);
  kept = λ ts ws us r p n.
      refused_by_lem (pack_on (seen 4 ts) (length ws)) (λ a. (packed_built a).refusal) (λ t. refl)
      (λ z. n (ap (λ (x : PackedBuilt). x.refusal) p.answer ∙ z)) (us ≡ ws) (λ m e. p.kept m e);
}

-- ---- 6, 7

pub item_6 : (F : Family) → Item6 F
item_6 F = record { same = λ ws feed b vs c r p. p.series; never = never_exported F }

pub item_7 : (F : Family) → Item7 F
item_7 F = record {
  candidates = λ A cs ws e. (known.held F A cs ws e).list;
  wins = λ cs k. (winners_hop cs k, best-lowest cs k);
}

-- ---- 8

pub item_8 : (F : Family) (A : ℕ) (cs : List Candidate) → Item8 F A cs
item_8 F A cs = record {
  withdrawn = withdrawn;
  announced = announced;
  ahead = moved_ahead;
  later = λ u v t s c. unseen F t.words' s.words' c.list A _ (end_is (under s));
  logs = λ us vs m p q. moved_run_exported m p q;
}

pub fourth : FourthMissing
fourth = fourth_missing

-- ---- 9

-- a kind that is none of the family's stops a run before its first record
pub stops : (F : Family) (A : ℕ) (cs : List Candidate) (k : ℕ) (feed : List ℕ) (room : ℕ) → role_of F k ≡ unknown
    → (run F A cs (k ∷ feed) room).stop ≡ 2
stops F A cs k feed room u =
    ap (λ (o : Outcome). o.stop)
    (runs_stop F (length feed) A (k ∷ feed) room (fresh cs) 2
    (halts_2 F (k ∷ feed) room 0 0 (omega arith) (rw u refl)) (λ z. omega arith))

-- ---- 10

pub item_10 : (F : Family) → Item10 F
item_10 F = record {
  counts = λ A cs ws e a l r p. rw e at p;
  alone = λ ws us a l h n f r s p q. path_alone_c F ws us a l h n f r s p q;
}

-- ---- 11

pub item_11 : Item11
item_11 = record {
  resolves = λ A cs ws e es a r p. of_table ws A cs e es a r p;
  size = λ ws m es a r p. p ∙ rw (seen_misfit 4 ws m) refl;
  many = λ ws m es k a r p.
      p
      ∙ seen-cases 4 ws (omega arith) (omega arith)
      (λ n s. absurd (true≢false (sym n ∙ m)))
      (λ n b s. rw (s, lt-ltb 256 es.count k) refl)
      (λ n b o s. rw (s, lt-ltb 256 es.count k) refl);
}

-- ---- 12

short_list : (rs : List Route) (room : ℕ) → (wrote_short (bytes_in (short_for rs room))).refusal
    ≡ first 23 (eqb (hop_for rs 0 0) 0) (first 24 (not (upto 32 rs)) (first 9 (ltb room (short_bytes (length (shortest4 rs)))) 0))
short_list rs room =
    bool (eqb (hop_for rs 0 0) 0)
    (λ d. rw d refl)
    (λ d. bool (upto 32 rs)
    (λ u. bool (ltb room (short_bytes (length (shortest4 rs)))) (λ n. rw (d, u, n) refl) (λ n. rw (d, u, n) refl))
    (λ u. rw (d, u) refl))

short_number : (ws : List ℕ) (less : Bool) (room : ℕ) → (wrote_short (bytes_in (short_on (seen 4 ws) less room))).refusal
    ≡ first 1 (less || wrong_size ws) (first 2 (no_table v4 ws)
    (first 23 (eqb (hop_for (winners (held_in v4 ws)) 0 0) 0) (first 24 (not (upto 32 (winners (held_in v4 ws))))
    (first 9 (ltb room (short_bytes (length (shortest4 (winners (held_in v4 ws)))))) 0))))
short_number ws true room = refl
short_number ws false room =
    by_size v4 ws (λ m s. (wrote_short (bytes_in (short_on s false room))).refusal
    ≡ first 1 m (first 2 (is_foreign s) (first 23 (eqb (hop_for (winners (list_in s)) 0 0) 0)
    (first 24 (not (upto 32 (winners (list_in s))))
    (first 9 (ltb room (short_bytes (length (shortest4 (winners (list_in s)))))) 0)))))
    refl refl (λ A cs e. short_list (winners cs) room)

short_kept : (x : Answer (List Route)) (b c : List ℕ) (r : Shortened) → r ≡ wrote_short (bytes_in x) → c ≡ left_in x b
    → r.refusal ≢ 0 → c ≡ b
short_kept (gives qs) b c r a l n = absurd (n (ap (λ (x : Shortened). x.refusal) a))
short_kept (refuses m) b c r a l n = l

pub item_12 : Item12
item_12 = record {
  shortest = written-shortest;
  refusals = λ ws ms b r ns c p.
      ap (λ (x : Shortened). x.refusal) p.answer ∙ short_number ws (ltb (length ms) (length ws)) (length b);
  kept = λ ws ms b r ns c p n. short_kept (short_in ws ms (length b)) b c r p.answer p.buffer n;
  fed = fed-forwards;
  copied = as_forwarded;
}

-- ---- 14

module _ (A : ℕ) (cs : List Candidate) (fs ws : List ℕ) (w : IsWords fs) (t : seen 4 ws ≡ table A cs) where
  places_one : (ps qs : List Place) → front ps ≡ front qs → ps ≡ qs
  places_one ps qs e = cc

  pub item_14 : Item14 A cs fs ws
  item_14 = record {
    update = λ u gs vs r p. (
      rw (seen_front_lem fs w, t) at p.answer,
      rw (seen_front_lem fs w, t) at p.list,
      rw (seen_front_lem fs w, t) at p.places,
    );
    tick = λ gs vs r p. (
      rw (seen_front_lem fs w, t) at p.answer,
      rw (seen_front_lem fs w, t) at p.list,
      rw (seen_front_lem fs w, t) at p.places,
    );
    five = λ feed b gs vs c r p k s o n qs e.
        let x : seen_front gs ≡ front (left_by A feed (length b) (both cs (places_of fs))).places =
        rw (seen_front_lem fs w, t) at p.places in
        let y : (left_by A feed (length b) (both cs (places_of fs))).places ≡ qs = places_one _ qs (sym x ∙ e) in
        rw y at (run-five A feed (length b) k (both cs (places_of fs)) w.front s o n);
    behind = λ feed b gs vs c r p ok d h. seen_without fs ws feed b gs vs c r p ok w A cs t d h;
  }
