-- Where a prefix stands, and what a feed has there: the word found is that of the candidate which the list holds, and 0 where it
-- holds none. Assumes nothing.
use Rattle.std.specs.Prelude.{◌≡◌, refl, ◌≢◌, cond, List, ℕ, zero, suc, ◌+◌, ◌-◌, ◌*◌, ◌^◌, ◌≤◌, ◌<◌, eqb}
use Rattle.std.proofs.Common.{sym, ap, ap₂, ◌∙◌, ⊎_elim, true≢false, mul-le-mul_right, arith, pow-add}
use Rattle.std.proofs.Math.Option.{some}
use Rattle.logic.specs.Cases.{same}
use Rattle.sizes.specs.Sizes.{hop_bound}
use Rattle.candidates.specs.Keyed.{find}
use Rattle.candidates.specs.Candidate.{candidate, place, key, hop_of}
use Rattle.candidates.specs.Candidate as list
use Rattle.slots.specs.Word.{IsFeed, word_of, hop_in, word_for, RightWord}
use Rattle.tree.specs.Arrays.{Arrays, node, held}
use Rattle.tree.specs.Need.{held_at}
use Rattle.tree.specs.SlotSet.{Place, held_place, at_none}
use Rattle.gather.specs.Gather.{meant, meant_word}
use Rattle.gather.proofs.Found.{gathered-find}
use Rattle.gather.specs.Views.{feed_view, word_held, view_node, held_right}
use Rattle.words.specs.Words.{feeds_of, arrays_of, array_count, words_of}
use Rattle.words.specs.Table.{list_of}
use Rattle.words.specs.TableBut.{Table}
use Rattle.numbers.specs.Front.{front, value_lt, front_lt, prefix_whole}
use Rattle.address.specs.Address.{IsPrefix, Stands}
use Rattle.paths.specs.Stop.{Stops, stops_short}
use Rattle.paths.specs.Way.{Walked, way_table}

-- feed f's word at a place whose path stops at array b of level j
abbrev pub word_found : List ℕ → ℕ → ℕ → ℕ → ℕ → ℕ → ℕ → ℕ
word_found ws b j k d x f = cond (eqb j k) (words_of ws b (2 ^ d + x) f) 0

-- feed f's candidate for the prefix a of length l was sought in a table: the prefix stands at k, d, x, its path stops at array b
-- of level j, and w is the candidate's word, 0 where it is not held
pub record Sought (L : ℕ) (ws : List ℕ) (a l f k d x j b w : ℕ) : Type 0 where
  pub ok : Table L ws
  pub prefix : IsPrefix L a l
  pub feed : IsFeed f
  pub inside : a < 2 ^ (8 * L)
  pub stands : Stands L a l k d x
  pub stops : Stops L ws a k j b
  pub word : w ≡ word_found ws b j k d x f

-- the same on any words, whose walk found array b of level j, or 0 where the path test fails
pub record SoughtAny (L : ℕ) (ws : List ℕ) (a l f k d x j b w : ℕ) : Type 0 where
  pub inside : a < 2 ^ (8 * L)
  pub stands : Stands L a l k d x
  pub small : x < 2 ^ d
  pub walked : Walked L ws a k j b
  pub word : w ≡ word_found ws b j k d x f

-- a table passes it
pub sought_table : {L : ℕ} {ws : List ℕ} {a l f k d x j b w : ℕ} → Table L ws → IsPrefix L a l → IsFeed f
    → SoughtAny L ws a l f k d x j b w → (b ≢ 0) × Sought L ws a l f k d x j b w
sought_table {L} {ws} {a} {k = k} {b = b} ok p i s =
    let n : b ≢ 0 = λ e. true≢false (sym (way_table L ws a ok k s.stands.top) ∙ s.walked.none e) in (
      n,
      record {
        ok = ok;
        prefix = p;
        feed = i;
        inside = s.inside;
        stands = s.stands;
        stops = (s.walked.some n).stops;
        word = s.word;
      },
    )

-- a word and what it stands for
meant_back : (d v l f w : ℕ) → word_for (meant d v l f w) ≡ w
meant_back d v l f zero = refl
meant_back d v l f (suc w) = omega arith

meant_hop : (d v l f w : ℕ) → hop_of (meant d v l f w) ≡ hop_in w
meant_hop d v l f zero = refl
meant_hop d v l f (suc w) = refl

module _ {L : ℕ} {ws : List ℕ} {a l f k d x j b w : ℕ} (s : Sought L ws a l f k d x j b w) where
  pub sought_wide : 8 * L < 256
  sought_wide = omega (arith, s.ok.shape.levels)

  pub sought_head : front L a k < 2 ^ (8 * k)
  sought_head = front_lt L a k (omega (arith, s.stands.top)) s.inside

  pub sought_small : x < 2 ^ d
  sought_small = rw s.stands.bits (value_lt L a k d s.stands.top s.stands.deep)

  pub sought_fits : 8 * k + d ≤ 8 * L
  sought_fits = omega (arith, s.stands.top, s.stands.deep)

  -- its first bits
  abbrev v : ℕ
  v = front L a k * 2 ^ d + x

  pub sought_bits : front L a k * 2 ^ d + x < 2 ^ (8 * k + d)
  sought_bits = omega (arith, pow-add 2 (8 * k) d, mul-le-mul_right (2 ^ d) sought_head, sought_small)

  -- with zeros behind them they are the address
  pub sought_whole : (front L a k * 2 ^ d + x) * 2 ^ (8 * L - (8 * k + d)) ≡ a
  sought_whole =
      rw s.stands.bits
      (prefix_whole L a k d s.stands.top s.stands.deep (rw s.stands.whole at s.prefix.clean))

  -- so what is said of them is said of the prefix
  pub sought_as : {T : Type 0} (of : ℕ → ℕ → T)
      → of ((front L a k * 2 ^ d + x) * 2 ^ (8 * L - (8 * k + d))) (8 * k + d) ≡ of a l
  sought_as of = ap₂ of sought_whole (sym s.stands.whole)

  -- its place in any arrays where its path leads to an array c
  pub sought_at : (A : ℕ) (t : Arrays) (c : ℕ) → node t (front L a k) k ≡ c → 1 ≤ c → Place A L t c (front L a k) k d x
  sought_at A t c e h =
      record { leads = e; array = h; head = sought_head; deep = s.stands.deep; own = s.stands.own; small = sought_small }

  pub sought_place : j ≡ k → Place (array_count ws) L (arrays_of ws) b (front L a k) k d x
  sought_place e = sought_at (array_count ws) (arrays_of ws) b (rw e at s.stops.on.leads) s.stops.on.some

  -- a path that stops short has no array for the prefix, in whichever view
  pub sought_gone : (t : Arrays) → node t (front L a k) k ≡ node (arrays_of ws) (front L a k) k → j ≢ k
      → held t (front L a k * 2 ^ d + x) (8 * k + d) ≡ 0
  sought_gone t e n =
      let lo : 1 ≤ d = ⊎_elim (λ (z : 1 ≤ d). z) (λ (z : k ≡ 0). absurd (omega (arith, s.stops.low))) s.stands.own in
      let short = stops_short L ws a s.ok.shape k j b s.stands.top s.stops n in
      held_at t (front L a k) k d x lo s.stands.deep sought_small
      ∙ at_none t (node t (front L a k) k) (2 ^ d + x) (e ∙ short)

  -- the word found is the one held
  word_held_lem : w ≡ word_held (feeds_of ws) v (8 * k + d) f
  word_held_lem =
      let t = feed_view (feeds_of ws) f in
      let e = view_node (feeds_of ws) f (front L a k) k in
      s.word ∙ same j k
      (λ q r. rw r (sym (held_place (array_count ws) L t b (front L a k) k d x
      (sought_at (array_count ws) t b (e ∙ (sought_place q).leads) s.stops.on.some))))
      (λ n r. rw r (sym (sought_gone t e n)))

  pub sought_right : RightWord w
  sought_right = rw word_held_lem (held_right (array_count ws) L (feeds_of ws) s.ok.shape s.ok.words v (8 * k + d) f s.feed)

  -- what the list holds for the prefix and the feed is what the word stands for
  pub sought_find : find key (list_of L ws) (place a l f)
      ≡ meant (8 * L - (8 * k + d)) (front L a k * 2 ^ d + x) (8 * k + d) f w
  sought_find =
      sym (sought_as (λ (y z : ℕ). find key (list_of L ws) (place y z f)))
      ∙ gathered-find (8 * L) sought_wide (word_held (feeds_of ws)) v (8 * k + d) f sought_fits sought_bits s.feed
      ∙ ap (meant (8 * L - (8 * k + d)) v (8 * k + d) f) (sym word_held_lem)

  pub sought_word : word_for (find key (list_of L ws) (place a l f)) ≡ w
  sought_word = ap word_for sought_find ∙ meant_back (8 * L - (8 * k + d)) v (8 * k + d) f w

  pub sought_held : list.held (list_of L ws) a l f ≡ hop_in w
  sought_held = ap hop_of sought_find ∙ meant_hop (8 * L - (8 * k + d)) v (8 * k + d) f w

  -- it is held exactly if the word is not 0
  pub sought_none : w ≡ 0 → list.held (list_of L ws) a l f ≡ 0
  sought_none e = sought_held ∙ ap hop_in e

  pub sought_some : w ≢ 0 → list.held (list_of L ws) a l f ≢ 0
  sought_some n z = omega (arith, sought_right.hop n, sought_held)

  -- the word of a candidate: that one is held
  pub sought_same : (p h : ℕ) → 1 ≤ h → h < hop_bound → w ≡ word_of p h
      → find key (list_of L ws) (place a l f) ≡ some (candidate a l f p h)
  sought_same p h lo hi e =
      sought_find ∙ ap (meant (8 * L - (8 * k + d)) v (8 * k + d) f) e
      ∙ meant_word (8 * L - (8 * k + d)) v (8 * k + d) f p h lo hi
      ∙ sought_as (λ (y z : ℕ). some (candidate y z f p h))
