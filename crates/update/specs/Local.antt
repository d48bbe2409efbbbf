-- What an update does on any words on which its path test passes: the arrays of the path alone change; on a table it does what
-- the list says. Assumes nothing.
use Rattle.std.specs.Prelude.{◌≡◌, refl, ◌≢◌, true, false, ℕ, ◌+◌, ◌-◌, ◌^◌, ◌≤◌, ◌<◌, eqb, length, get_or}
use Rattle.std.proofs.Math.Path.{sym, ap}
use Rattle.std.proofs.Common.{◌∙◌, inl, inr, ne_eqb}
use Rattle.std.proofs.lemmas.Bool.{false≢true}
use mathlib.Core.List.{List}
use native.Mathlib.Omega.{arith}
use Rattle.logic.specs.Cases.{bool, same, less}
use Rattle.sizes.specs.Sizes.{hop_bound, array_words, slot_end, cells_at, array_at, word_at, cell_at}
use Rattle.routes.specs.Answers.{is_refused, done}
use Rattle.candidates.specs.Answers.{Update, announce, withdraw}
use Rattle.slots.specs.Word.{IsFeed, hop_in, word_of}
use Rattle.settle.specs.Any.{ResetsAny}
use Rattle.routes.specs.Room.{level}
use Rattle.array.specs.Tag.{level_in}
use Rattle.array.specs.Put.{Spot}
use Rattle.array.specs.Reslot.{changed_in}
use Rattle.array.specs.Frame.{page_of, with_page, page_word, page_length, with_length, with_in, with_other}
use Rattle.array.specs.declared.change.Changed.{Changed}
use Rattle.tree.specs.Arrays.{node, lev, depth_of}
use Rattle.words.specs.Words.{arrays_of}
use Rattle.words.specs.TableBut.{Table}
use Rattle.words.specs.Rises.{Rises, SameUp, Off, off_here, off_same, rises_level, rises_inside, rises_same}
use Rattle.words.specs.Climbing.{Climbing, TotalsOnly, totals_same, on_totals, on_spared}
use Rattle.words.specs.Retotalled.{step, retotalled}
use Rattle.numbers.specs.Front.{front}
use Rattle.address.specs.Address.{IsPrefix, stands-level}
use Rattle.paths.specs.Alike.{Alike}
use Rattle.paths.specs.Way.{way_b, Way}
use Rattle.paths.specs.Shed.{pruned, PrunedAny}
use Rattle.paths.specs.Hung.{fault_told, GrownAny, OpenedAny}
use Rattle.paths.specs.Held.{SoughtAny, sought_table}
use Rattle.replies.specs.Said.{said_reply}
use Rattle.replies.specs.declared.Reply.{Reply}
use Rattle.replies.specs.declared.Reply.TheVariants.{Done, Refused}
use Rattle.update.specs.Update.{HasApplied}
use Rattle.update.specs.Anywhere.{seated_in, reseated_in, cells_in, value_of, stop_array, held_word, opened_in, own_array}
use Rattle.update.specs.Anywhere.{address_in, length_in, OffPath, touch_fault, done_answer, done_words, answer_by, words_by}
use Rattle.update.specs.Anywhere.{touch_astray, touch_none, touch_some, touch_same, touch_other}
use Rattle.update.specs.Anywhere.{same_answer, same_words, other_answer, other_words}
use Rattle.update.specs.Anywhere.{depth_is, value_is, stop_is, held_is, lacks_is, opened_is, own_is}
use Rattle.update.specs.Seat.{Seat, Seated, seat_spot, seat_settled, seated}
use Rattle.update.specs.Reseat.{Sits, Reseated, reseats}
use Rattle.update.specs.Announce.{announce_same, announce_full, announce_sits, announce_done}
use Rattle.update.specs.Withdraw.{withdraw_none, withdraw_sits, withdraw_loose, withdraw_done}

-- ---- a feed's word in a slot of array a

-- a place in it
pub record SpotIn (ws : List ℕ) (a d x : ℕ) : Type 0 where
  pub inside : array_at (a + 1) ≤ length ws
  pub deep : d ≤ 8
  pub small : x < 2 ^ d

pub spot_in : (ws : List ℕ) (a d x : ℕ) → SpotIn ws a d x → Spot (page_of ws a) d x
spot_in ws a d x s = record { page = page_length ws a s.inside; depth = s.deep; value = s.small }

pub record SeatedAny (ws vs : List ℕ) (a d x f w : ℕ) (r : Changed) : Type 0 where
  pub is : vs ≡ seated_in ws a d x f w
  pub said : r ≡ changed_in (page_of ws a) d x f w
  pub size : length vs ≡ length ws
  pub tag : get_or vs (array_at a) 0 ≡ get_or ws (array_at a) 0
  pub others : (c : ℕ) → c ≢ a → Alike ws vs c
  pub right : (k : ℕ) → Seat ws a k d x → Seated ws vs a d x f w r

pub seated_any : (ws vs m : List ℕ) (a d x f w : ℕ) (r : Changed) → SpotIn ws a d x → ResetsAny (page_of ws a) m d x f w r
    → vs ≡ with_page ws a m → SeatedAny ws vs a d x f w r
unfolding seated_in
seated_any ws vs m a d x f w r s g e =
    let h : length m ≡ array_words = g.body.size ∙ page_length ws a s.inside in
    let z : array_at a ≡ word_at a 0 = omega arith in
    rw e (record {
      is = ap (with_page ws a) g.is;
      said = g.said;
      size = with_length ws a m s.inside h;
      tag = ap (λ (q : ℕ). get_or (with_page ws a m) q 0) z ∙ with_in ws a m s.inside h 0 (omega arith) ∙ g.body.tag
          ∙ page_word ws a 0 (omega arith) ∙ sym (ap (λ (q : ℕ). get_or ws q 0) z);
      others = λ c n i b. with_other ws a m s.inside h (word_at c i)
          (less c a (λ l _. inl (omega arith)) (λ l _. inr (omega arith)));
      right = λ k t. seated ws (with_page ws a m) m a k d x f w r t
          (g.right (seat_spot ws a k d x t).sound (seat_settled ws a k d x t)) refl;
    })

-- ---- and the totals of the arrays above

same_join : {ws vs us : List ℕ} {n : ℕ} → SameUp ws vs n → SameUp vs us n → SameUp ws us n
same_join {ws} {vs} x y = record {
  size = y.size ∙ x.size;
  tags = λ c h l u. (let e = x.tags c h l u in
      let v : lev (arrays_of vs) c ≡ lev (arrays_of ws) c = ap level_in e in y.tags c h (omega arith) (omega arith) ∙ e);
  cells = λ c i h l u b. (let v : lev (arrays_of vs) c ≡ lev (arrays_of ws) c = ap level_in (x.tags c h l (omega arith)) in
      y.cells c i h (omega arith) (omega arith) b ∙ x.cells c i h l u b);
}

seated_same : {ws vs : List ℕ} {a d x f w : ℕ} {r : Changed} → SeatedAny ws vs a d x f w r → (n : ℕ) → Rises ws n a
    → SameUp ws vs n
seated_same {ws} {vs} {a} s n g = record {
  size = s.size;
  tags = λ c h l u. same c a (λ e _. rw e s.tag)
      (λ m _. (let z : array_at c ≡ word_at c 0 = omega arith in rw z (s.others c m 0 (omega arith))));
  cells = λ c i h l u b. (let m : c ≢ a = λ e. omega (arith, rises_level ws n a g, ap (lev (arrays_of ws)) e) in
      let z : cell_at c i ≡ word_at c (cells_at + i) = omega arith in
      rw z (s.others c m (cells_at + i) (omega arith)));
}

re_totals : (k : ℕ) (vs : List ℕ) (a s by : ℕ) → Rises vs k a → s < slot_end → TotalsOnly vs (retotalled k vs a s by)
re_totals k vs a s by r w =
    bool (eqb by 0)
    (λ e. rw e (record { size = refl; kept = λ c j h o. refl }))
    (λ e. rw e (on_totals k vs a s by r w))

re_spared : (k : ℕ) (vs : List ℕ) (a s by c j : ℕ) → Rises vs k a → s < slot_end → Off (arrays_of vs) k a c → j < array_words
    → get_or (retotalled k vs a s by) (word_at c j) 0 ≡ get_or vs (word_at c j) 0
re_spared k vs a s by c j r w o h =
    bool (eqb by 0) (λ e. rw e) (λ e. rw e (on_spared k vs a s by c j r w o h))

-- what is asked: the tags lead up from array a, and the place is one in it
pub record SitsAny (ws : List ℕ) (a d x : ℕ) : Type 0 where
  pub climbs : Climbing ws a
  pub deep : d ≤ 8
  pub small : x < 2 ^ d

pub sits_spot : (ws : List ℕ) (a d x : ℕ) → SitsAny ws a d x → SpotIn ws a d x
sits_spot ws a d x s =
    record { inside = rises_inside ws s.climbs.n a s.climbs.rises; deep = s.deep; small = s.small }

pub record ReseatedAny (ws us : List ℕ) (a d x f w cells : ℕ) : Type 0 where
  pub is : us ≡ reseated_in ws a d x f w
  pub count : cells ≡ cells_in ws a d x f w
  pub tags : (n c : ℕ) → Rises ws n a → 1 ≤ c → (arrays_of us).tag c ≡ (arrays_of ws).tag c
  pub same : (n : ℕ) → Rises ws n a → SameUp ws us n
  pub spared : (n c : ℕ) → Rises ws n a → Off (arrays_of ws) n a c → Alike ws us c
  pub right : (L k : ℕ) → Sits L ws a k d x → Reseated ws us a k d x f w cells

module _ {ws vs : List ℕ} {a d x f w : ℕ} {r : Changed} (s : SitsAny ws a d x) (g : SeatedAny ws vs a d x f w r) where
  up : (n : ℕ) → Rises ws n a → Rises vs n a
  up n q = rises_same ws vs n a (seated_same g n q) q

  pub seated_climbs : Climbing vs a
  seated_climbs = record { n = s.climbs.n; rises = up s.climbs.n s.climbs.rises }

  pub reseated_any : (us : List ℕ) → 2 ^ d + x < slot_end
      → us ≡ retotalled (lev (arrays_of vs) a - 1) vs a (2 ^ d + x) (step r.before r.after)
      → ReseatedAny ws us a d x f w r.cells
  unfolding reseated_in cells_in
  reseated_any us high e =
      let by = step r.before r.after in
      let lv : (n : ℕ) → Rises ws n a → lev (arrays_of vs) a - 1 ≡ n =
      λ n q. omega (arith, rises_level vs n a (up n q)) in
      record {
        is = e ∙ (λ i. retotalled (lev (arrays_of (g.is i)) a - 1) (g.is i) a (2 ^ d + x)
            (step (g.said i).before (g.said i).after));
        count = λ i. (g.said i).cells;
        tags = λ n c q h. (let z : array_at c ≡ word_at c 0 = omega arith in
            rw z (rw (e, lv n q) ((re_totals n vs a (2 ^ d + x) by (up n q) high).kept c 0 (omega arith) (inl (omega arith)))
            ∙ same c a
            (λ m _. (let y : word_at c 0 ≡ array_at a = omega arith in rw y g.tag))
            (λ m _. g.others c m 0 (omega arith))));
        same = λ n q. same_join (seated_same g n q)
            (rw (e, lv n q) (totals_same (re_totals n vs a (2 ^ d + x) by (up n q) high) n));
        spared = λ n c q o i b.
            rw (e, lv n q) (re_spared n vs a (2 ^ d + x) by c i (up n q) high (off_same ws vs n a c (seated_same g n q) q o) b)
            ∙ g.others c (off_here (arrays_of ws) n a c o) i b;
        right = λ L k t. reseats t (g.right k t.seat) us e;
      }

-- ---- an update without fault of words of a right size

pub record AppliedAny (L : ℕ) (ws vs : List ℕ) (u : Update) (r : Reply) : Type 0 where
  pub answer : said_reply r ≡ answer_by L ws u (touch_fault L ws u)
  pub words : vs ≡ words_by L ws u (touch_fault L ws u)
  pub size : length vs ≡ length ws
  pub kept : is_refused (said_reply r) ≡ true → vs ≡ ws
  pub spared : (c : ℕ) → 1 ≤ c → OffPath L ws u c → (arrays_of vs).tag c ≡ (arrays_of ws).tag c → Alike ws vs c
  pub table : Table L ws → HasApplied L ws vs u r

-- refused
refuses : (L : ℕ) (ws vs : List ℕ) (u : Update) (n : ℕ) → touch_fault L ws u ≡ n → n ≢ 0 → vs ≡ ws
    → (Table L ws → HasApplied L ws vs u (Refused n)) → AppliedAny L ws vs u (Refused n)
refuses L ws vs u n e z v t = record {
  answer = rw (e, ne_eqb n 0 z);
  words = v ∙ rw (e, ne_eqb n 0 z);
  size = ap length v;
  kept = λ _. v;
  spared = λ c h o g i y. rw v;
  table = t;
}

module _ {L : ℕ} {ws : List ℕ} {a l f k d x j b w : ℕ} (pre : IsPrefix L a l) (feed : IsFeed f)
    (s : SoughtAny L ws a l f k d x j b w) where
  up_to : level l ≡ k
  up_to = stands-level L a l k d x s.stands

  -- 2: the path test fails
  pub local_two : (u : Update) → address_in u ≡ a → length_in u ≡ l → b ≡ 0 → AppliedAny L ws ws u (Refused 2)
  local_two u ea el e =
      let z : way_b L ws (address_in u) (level (length_in u)) ≡ false = rw (ea, el, up_to) (s.walked.none e) in
      refuses L ws ws u 2 (touch_astray L ws u z) (λ q. omega arith) refl (λ t. absurd ((sought_table t pre feed s).0 e))

  module _ (there : b ≢ 0) where
    way : Way L ws a k j b
    way = s.walked.some there

    passes : way_b L ws a (level l) ≡ true
    passes = rw up_to way.passes

    held : held_word L ws a l f ≡ w
    held = held_is L ws a l k d x j b s.stands way.stops f w s.word

    -- an array off the path
    aside : (c : ℕ) → ((i : ℕ) → i ≤ level l → node (arrays_of ws) (front L a i) i ≢ c) → Off (arrays_of ws) j b c
    aside c n = way.off c (λ i h. n i (omega (arith, way.stops.low, up_to)))

    pub local_climbs : Climbing ws b
    local_climbs = record { n = j; rises = way.rises }

    pub local_sits : SitsAny ws b d x
    local_sits = record { climbs = local_climbs; deep = s.stands.deep; small = s.small }

    -- 7: the candidate is not held
    pub local_none : w ≡ 0 → AppliedAny L ws ws (withdraw a l f) (Refused 7)
    local_none e =
        refuses L ws ws (withdraw a l f) 7 (touch_none L ws a l f w passes held e) (λ q. omega arith) refl
        (λ t. withdraw_none (sought_table t pre feed s).1 e)

    -- its word cleared, and what is empty then released
    module _ (some : w ≢ 0) (vs : List ℕ) (c : ℕ) (p : ReseatedAny ws vs b d x f 0 c) where
      loose : Rises vs j b
      loose = rises_same ws vs j b (p.same j way.rises) way.rises

      pub local_loose : Climbing vs b
      local_loose = record { n = j; rises = loose }

      depth : depth_of l ≡ d
      depth = depth_is L ws a l k d x j b s.stands way.stops

      value : value_of L a l ≡ x
      value = value_is L ws a l k d x j b s.stands way.stops

      stop : stop_array L ws a l ≡ b
      stop = stop_is L ws a l k d x j b s.stands way.stops

      clear : touch_fault L ws (withdraw a l f) ≡ 0
      clear = touch_some L ws a l f w passes held some

      told : (h : ℕ) → h ≡ hop_in w → done h c ≡ done_answer L ws (withdraw a l f)
      unfolding done_answer
      told h e =
          (λ i. done (e i) (p.count i))
          ∙ sym (λ i. done (hop_in (held i)) (cells_in ws (stop i) (depth i) (value i) f 0))

      left : (us : List ℕ) → us ≡ pruned vs b → us ≡ done_words L ws (withdraw a l f)
      unfolding done_words
      left us e =
          e ∙ ap (λ (q : List ℕ). pruned q b) p.is
          ∙ sym (λ i. pruned (reseated_in ws (stop i) (depth i) (value i) f 0) (stop i))

      pub local_withdrawn : (us : List ℕ) (h : ℕ) → PrunedAny vs us b → h ≡ hop_in w
          → AppliedAny L ws us (withdraw a l f) (Done h c)
      local_withdrawn us h q e = record {
        answer = rw clear (told h e);
        words = rw clear (left us q.is);
        size = q.size ∙ (p.same j way.rises).size;
        kept = λ z. absurd (false≢true z);
        spared = λ y lo n _ i m.
            let o = aside y n in
            q.spared j y loose lo (off_same ws vs j b y (p.same j way.rises) way.rises o) i m
            ∙ p.spared j y way.rises o i m;
        table = λ t. (let S = (sought_table t pre feed s).1 in
            let P = p.right L k (withdraw_sits S some) in
            withdraw_done S some vs c P us h (q.right L (withdraw_loose S some vs c P)) e);
      }

    -- ---- a candidate of the hop h and the preference n announced

    module _ (h n : ℕ) (hop : 1 ≤ h) (low : h < hop_bound) where
      -- it is held already
      pub local_same : w ≡ word_of n h → AppliedAny L ws ws (announce a l h f n) (Done h 0)
      local_same e =
          let z = touch_same L ws a l f w passes held h n e in
          record {
            answer = rw (z, same_answer L ws a l f w passes held h n e);
            words = rw (z, same_words L ws a l f w passes held h n e);
            size = refl;
            kept = λ _. refl;
            spared = λ c h n t i y. refl;
            table = λ t. announce_same (sought_table t pre feed s).1 h n hop low e;
          }

      module _ (other : w ≢ word_of n h) (vs : List ℕ) (r : ℕ) (o : OpenedAny L ws vs a j k b r) where
        fault : touch_fault L ws (announce a l h f n) ≡ fault_told r
        fault =
            touch_other L ws a l f w passes held h n other
            ∙ lacks_is L ws a l k d x j b s.stands way.stops ∙ sym o.fault

        -- 8: there is no room
        pub local_full : r ≡ 0 → AppliedAny L ws vs (announce a l h f n) (Refused 8)
        local_full z =
            refuses L ws vs (announce a l h f n) 8 (rw z at fault) (λ q. omega arith) (o.none z)
            (λ t. announce_full (sought_table t pre feed s).1 h n hop low other vs r (o.table t).1 z)

        -- 2: where arrays are to be gained the words are no table
        pub local_astray : r ≡ 4097 → AppliedAny L ws vs (announce a l h f n) (Refused 2)
        local_astray z =
            refuses L ws vs (announce a l h f n) 2 (rw z at fault) (λ q. omega arith) (o.fails z) (λ t. absurd ((o.table t).0 z))

        module _ (some : r ≢ 0) (near : r ≢ 4097) where
          grown : GrownAny L ws vs a j k b r
          grown = o.some some near

          pub local_opened : SitsAny vs r d x
          local_opened = record { climbs = record { n = k; rises = grown.rises }; deep = s.stands.deep; small = s.small }

          pub local_size : length vs ≡ length ws
          local_size = grown.size

          open_clear : touch_fault L ws (announce a l h f n) ≡ 0
          open_clear = fault ∙ rw (ne_eqb r 0 some, ne_eqb r 4097 near)

          abbrev w' : ℕ
          w' = word_of n h

          open_depth : depth_of l ≡ d
          open_depth = depth_is L ws a l k d x j b s.stands way.stops

          open_value : value_of L a l ≡ x
          open_value = value_is L ws a l k d x j b s.stands way.stops

          open_words : opened_in L ws a l ≡ vs
          open_words = opened_is L ws a l k d x j b s.stands way.stops ∙ sym grown.is

          open_own : own_array L ws a l ≡ r
          open_own = own_is L ws a l k d x j b s.stands way.stops ∙ sym grown.last

          pub local_announced : n ≤ 255 → (us : List ℕ) (c : ℕ) → ReseatedAny vs us r d x f (word_of n h) c
              → AppliedAny L ws us (announce a l h f n) (Done h c)
          local_announced byte us c p = record {
            answer = rw (open_clear, other_answer L ws a l f w passes held h n other)
                (ap (done h) (p.count ∙ sym (λ i. cells_in (open_words i) (open_own i) (open_depth i) (open_value i) f w')));
            words = rw (open_clear, other_words L ws a l f w passes held h n other)
                (p.is ∙ sym (λ i. reseated_in (open_words i) (open_own i) (open_depth i) (open_value i) f w'));
            size = (p.same k grown.rises).size ∙ grown.size;
            kept = λ z. absurd (false≢true z);
            spared = λ y lo m t i z.
                (let x = grown.spared y lo (aside y m) (sym (p.tags k y grown.rises lo) ∙ t) in
                p.spared k y grown.rises x.0 i z ∙ x.1 i z);
            table = λ t. (let S = (sought_table t pre feed s).1 in
                let O = (o.table t).1 in
                announce_done S h n hop low other vs r O some byte us c
                (p.right L k (announce_sits S h n hop low other vs r O some)));
          }
