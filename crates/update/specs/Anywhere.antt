-- An update on any words, as a function of them: the number with which it is refused, else its answer and the words that it
-- leaves. It goes down the prefix's path as far as the links lead, tests what it goes by, and changes that array, those that are
-- to be hung below it and the totals above, whatever the other words are. Assumes nothing.
--
--     the words and the update                                                  the number
--     a wrong number of words                                                   1
--     a fault of the update's own                                               3, 4, 5, 10
--     the path test fails; or arrays are to be gained, and the cell that        2
--       takes the first link is not fit or the free arrays told of are
--       not there
--     a withdrawal whose candidate has no word at its place                     7
--     arrays are to be gained, and the header tells of too few                  8
use Rattle.std.specs.Prelude.{◌≡◌, true, false, cond, ◌≢◌, List, ℕ, ◌+◌, ◌-◌, ◌*◌, ◌^◌, ◌≤◌, eqb, length}
use Rattle.std.proofs.Math.Path.{sym}
use Rattle.std.proofs.Common.{ap₂, ◌∙◌, arith}
use borrow.Author.Tests.{eq-eqb, ne_eqb}
use Rattle.routes.specs.Room.{level}
use Rattle.routes.specs.Answers.{Reply, done, refused}
use Rattle.candidates.specs.Answers.{Update, announce, withdraw}
use Rattle.candidates.specs.Seen.{misfits}
use Rattle.slots.specs.Word.{hop_in, word_of}
use Rattle.array.specs.Frame.{page_of, with_page}
use Rattle.array.specs.Reslot.{changed_in}
use Rattle.settle.specs.Recell.{reset_in}
use Rattle.tree.specs.Arrays.{node, lev, depth_of}
use Rattle.words.specs.Words.{arrays_of}
use Rattle.words.specs.Retotalled.{step, retotalled}
use Rattle.numbers.specs.Front.{front, value}
use Rattle.address.specs.Address.{Stands, stands-level}
use Rattle.paths.specs.Stop.{Stops}
use Rattle.paths.specs.Way.{way_b}
use Rattle.paths.specs.Opens.{reach, open_fault, last_hung, hung_in, reach-stops}
use Rattle.paths.specs.Held.{word_found}
use Rattle.paths.specs.Shed.{pruned}
use Rattle.update.specs.Fault.{fault_of}

-- ---- feed f's word w in the slot of length d and value x of array a

unfoldable pub seated_in : List ℕ → ℕ → ℕ → ℕ → ℕ → ℕ → List ℕ
seated_in ws a d x f w = with_page ws a (reset_in (page_of ws a) d x f w)

-- and the totals of the arrays above
unfoldable pub reseated_in : List ℕ → ℕ → ℕ → ℕ → ℕ → ℕ → List ℕ
reseated_in ws a d x f w =
    let c = changed_in (page_of ws a) d x f w in
    let vs = seated_in ws a d x f w in
    retotalled (lev (arrays_of vs) a - 1) vs a (2 ^ d + x) (step c.before c.after)

-- the cells rewritten
unfoldable pub cells_in : List ℕ → ℕ → ℕ → ℕ → ℕ → ℕ → ℕ
cells_in ws a d x f w = (changed_in (page_of ws a) d x f w).cells

-- ---- the prefix a of length l

-- its bits in its own array
abbrev pub value_of : ℕ → ℕ → ℕ → ℕ
value_of L a l = value L a (level l) (depth_of l)

-- the deepest array on its path, and that one's level
abbrev pub stop_level : ℕ → List ℕ → ℕ → ℕ → ℕ
stop_level L ws a l = reach L ws a (level l)

unfoldable pub stop_array : ℕ → List ℕ → ℕ → ℕ → ℕ
stop_array L ws a l = node (arrays_of ws) (front L a (stop_level L ws a l)) (stop_level L ws a l)

-- feed f's word at its place, 0 where its path stops above that
unfoldable pub held_word : ℕ → List ℕ → ℕ → ℕ → ℕ → ℕ
held_word L ws a l f = word_found ws (stop_array L ws a l) (stop_level L ws a l) (level l) (depth_of l) (value_of L a l) f

-- the number with which the arrays that its path lacks cannot be gained, the words with these, and its own array then
unfoldable pub lacks : ℕ → List ℕ → ℕ → ℕ → ℕ
lacks L ws a l = open_fault L ws a (stop_level L ws a l) (level l) (stop_array L ws a l)

unfoldable pub opened_in : ℕ → List ℕ → ℕ → ℕ → List ℕ
opened_in L ws a l = hung_in L ws a (stop_level L ws a l) (stop_array L ws a l) (level l - stop_level L ws a l)

unfoldable pub own_array : ℕ → List ℕ → ℕ → ℕ → ℕ
own_array L ws a l = last_hung ws (stop_array L ws a l) (level l - stop_level L ws a l)

-- ---- the update

-- the prefix of an update: its address and its length
abbrev pub address_in : Update → ℕ
address_in (announce a l h f p) = a
address_in (withdraw a l f) = a

abbrev pub length_in : Update → ℕ
length_in (announce a l h f p) = l
length_in (withdraw a l f) = l

-- array c is on no level the one that the links lead to along the prefix of an update
abbrev pub OffPath : ℕ → List ℕ → Update → ℕ → Type 0
OffPath L ws u c = (i : ℕ) → i ≤ level (length_in u) → node (arrays_of ws) (front L (address_in u) i) i ≢ c

-- the number that comes of what it touches, 0 for none
unfoldable pub touch_fault : ℕ → List ℕ → Update → ℕ
touch_fault L ws (announce a l h f p) =
    cond (way_b L ws a (level l)) (cond (eqb (held_word L ws a l f) (word_of p h)) 0 (lacks L ws a l)) 2
touch_fault L ws (withdraw a l f) = cond (way_b L ws a (level l)) (cond (eqb (held_word L ws a l f) 0) 7 0) 2

-- the number of the first refusal, 0 for none
abbrev pub local_fault : ℕ → List ℕ → Update → ℕ
local_fault L ws u =
    cond (misfits (length ws)) 1 (cond (eqb (fault_of (8 * L) u) 0) (touch_fault L ws u) (fault_of (8 * L) u))

-- what is told where it is done
unfoldable pub done_answer : ℕ → List ℕ → Update → Reply
done_answer L ws (announce a l h f p) =
    done h (cond (eqb (held_word L ws a l f) (word_of p h)) 0
    (cells_in (opened_in L ws a l) (own_array L ws a l) (depth_of l) (value_of L a l) f (word_of p h)))
done_answer L ws (withdraw a l f) =
    done (hop_in (held_word L ws a l f)) (cells_in ws (stop_array L ws a l) (depth_of l) (value_of L a l) f 0)

-- and the words
unfoldable pub done_words : ℕ → List ℕ → Update → List ℕ
done_words L ws (announce a l h f p) =
    cond (eqb (held_word L ws a l f) (word_of p h)) ws
    (reseated_in (opened_in L ws a l) (own_array L ws a l) (depth_of l) (value_of L a l) f (word_of p h))
done_words L ws (withdraw a l f) =
    pruned (reseated_in ws (stop_array L ws a l) (depth_of l) (value_of L a l) f 0) (stop_array L ws a l)

abbrev pub answer_by : ℕ → List ℕ → Update → ℕ → Reply
answer_by L ws u n = cond (eqb n 0) (done_answer L ws u) (refused n)

abbrev pub words_by : ℕ → List ℕ → Update → ℕ → List ℕ
words_by L ws u n = cond (eqb n 0) (done_words L ws u) ws

-- the answer to an update of any words, and the words that it leaves
abbrev pub local_answer : ℕ → List ℕ → Update → Reply
local_answer L ws u = answer_by L ws u (local_fault L ws u)

abbrev pub local_words : ℕ → List ℕ → Update → List ℕ
local_words L ws u = words_by L ws u (local_fault L ws u)

-- ---- the number, by what the tests tell

pub touch_astray : (L : ℕ) (ws : List ℕ) (u : Update) → way_b L ws (address_in u) (level (length_in u)) ≡ false
    → touch_fault L ws u ≡ 2
unfolding touch_fault
touch_astray L ws (announce a l h f p) e = rw e
touch_astray L ws (withdraw a l f) e = rw e

module _ (L : ℕ) (ws : List ℕ) (a l f w : ℕ) (t : way_b L ws a (level l) ≡ true) (e : held_word L ws a l f ≡ w) where
  pub touch_none : w ≡ 0 → touch_fault L ws (withdraw a l f) ≡ 7
  unfolding touch_fault
  touch_none z = rw (t, e, z)

  pub touch_some : w ≢ 0 → touch_fault L ws (withdraw a l f) ≡ 0
  unfolding touch_fault
  touch_some n = rw (t, e, ne_eqb w 0 n)

  module _ (h p : ℕ) where
    pub touch_same : w ≡ word_of p h → touch_fault L ws (announce a l h f p) ≡ 0
    unfolding touch_fault
    touch_same z = rw (t, e, eq-eqb w (word_of p h) z)

    pub touch_other : w ≢ word_of p h → touch_fault L ws (announce a l h f p) ≡ lacks L ws a l
    unfolding touch_fault
    touch_other n = rw (t, e, ne_eqb w (word_of p h) n)

    pub same_answer : w ≡ word_of p h → done_answer L ws (announce a l h f p) ≡ done h 0
    unfolding done_answer
    same_answer z = rw (e, eq-eqb w (word_of p h) z)

    pub same_words : w ≡ word_of p h → done_words L ws (announce a l h f p) ≡ ws
    unfolding done_words
    same_words z = rw (e, eq-eqb w (word_of p h) z)

    pub other_answer : w ≢ word_of p h → done_answer L ws (announce a l h f p)
        ≡ done h (cells_in (opened_in L ws a l) (own_array L ws a l) (depth_of l) (value_of L a l) f (word_of p h))
    unfolding done_answer
    other_answer n = rw (e, ne_eqb w (word_of p h) n)

    pub other_words : w ≢ word_of p h → done_words L ws (announce a l h f p)
        ≡ reseated_in (opened_in L ws a l) (own_array L ws a l) (depth_of l) (value_of L a l) f (word_of p h)
    unfolding done_words
    other_words n = rw (e, ne_eqb w (word_of p h) n)

-- ---- as a walk finds them

module _ (L : ℕ) (ws : List ℕ) (a l k d x j b : ℕ) (t : Stands L a l k d x) (s : Stops L ws a k j b) where
  pub level_is : level l ≡ k
  level_is = stands-level L a l k d x t

  pub depth_is : depth_of l ≡ d
  depth_is = rw level_is (omega (arith, t.whole))

  pub value_is : value_of L a l ≡ x
  value_is = ap₂ (value L a) level_is depth_is ∙ sym t.bits

  reach_is : stop_level L ws a l ≡ j
  reach_is = rw level_is (reach-stops L ws a k j b t.top s)

  pub stop_is : stop_array L ws a l ≡ b
  unfolding stop_array
  stop_is = rw reach_is s.on.leads

  pub held_is : (f w : ℕ) → w ≡ word_found ws b j k d x f → held_word L ws a l f ≡ w
  unfolding held_word
  held_is f w e =
      (λ i. word_found ws (stop_is i) (reach_is i) (level_is i) (depth_is i) (value_is i) f) ∙ sym e

  pub lacks_is : lacks L ws a l ≡ open_fault L ws a j k b
  unfolding lacks
  lacks_is = λ i. open_fault L ws a (reach_is i) (level_is i) (stop_is i)

  pub opened_is : opened_in L ws a l ≡ hung_in L ws a j b (k - j)
  unfolding opened_in
  opened_is = λ i. hung_in L ws a (reach_is i) (stop_is i) (level_is i - reach_is i)

  pub own_is : own_array L ws a l ≡ last_hung ws b (k - j)
  unfolding own_array
  own_is = λ i. last_hung ws (stop_is i) (level_is i - reach_is i)
