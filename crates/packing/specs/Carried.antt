-- A compressed table over the calls: built from a table in as many words as it needs, its words carried anywhere, and looked up
-- there, it answers every address by the longest match of the table's list, and so as the table's own lookup does, but for the
-- block. Assumes nothing.
--
--     words ── packed_need ──▶ how many words to lend
--       ├───── packed_build ─▶ packed ── carried ──▶ card ── packed_lookup ──▶ match
--       └───── lookup ───────────────────────────────────────────────────────▶ the same, and the block
use Rattle.std.specs.Prelude.{◌≡◌, refl, List, ℕ, ◌^◌, ◌≤◌, ◌<◌, length, get_or}
use Rattle.std.proofs.Common.{sym, ap, ◌∙◌, arith, le-ltb}
use Rattle.routes.specs.Route.{Route}
use Rattle.routes.specs.Match.{Match, none, found, longest}
use Rattle.routes.specs.Room as room
use Rattle.routes.specs.Block.{block}
use Rattle.routes.specs.Answers.{Reply}
use Rattle.routes.specs.Answers as replies
use Rattle.routes.specs.Seen.{gives, refuses}
use Rattle.candidates.specs.Candidate.{Candidate}
use Rattle.candidates.specs.Winners.{winners}
use Rattle.candidates.specs.Seen.{Seen, misfit, foreign, table, lookup_on}
use Rattle.words.specs.Words.{arrays_of, array_count}
use Rattle.words.specs.Table.{seen}
use Rattle.words.specs.View.{table_of}
use Rattle.lookup.specs.Walk as own
use Rattle.packed.specs.Layout.{header_words, walk}
use Rattle.packed.specs.Laid.{needed_for, Laid, laid_one}
use Rattle.packed_build.specs.Need.{words_for}
use Rattle.packed_build.specs.Listed.{table_words}
use Rattle.packed_build.specs.Answer.{need_on, build_on, Carries, Leaves}
use Rattle.answers.specs.Numbers.{needed, matched}
use Rattle.packing.specs.Face.{built, HasBuilt}
use Rattle.answers.specs.declared.Needed.{Needed}
use Rattle.packing.specs.declared.Built.{Built}
use Rattle.answers.specs.declared.Matched.{Matched}

-- the calls, each as its contract allows
pub record Carried : Type 0 where
  -- the need of words, not refused
  pub words : List ℕ
  pub need : Needed
  pub needs : need ≡ needed (need_on (seen 4 words))
  pub taken : need.refusal ≡ 0
  -- as many words as that, or more, and the build in them
  pub lent : List ℕ
  pub enough : need.words ≤ length lent
  pub packed : List ℕ
  pub built : Built
  pub builds : HasBuilt words lent packed built
  -- words on the card: up to the need those that were built, past it any
  pub card : List ℕ
  pub sent : Carries need.words packed card

-- of the list that the words stand for: what is built has its arrays and its words, and every lookup gives its longest match
pub record Answers (t : Carried) (rs : List Route) : Type 0 where
  pub need : t.need ≡ record { refusal = 0; words = words_for 32 rs }
  pub built : t.built ≡ record { refusal = 0; arrays = room.need 32 rs; words = words_for 32 rs }
  pub lookups : (a : ℕ) → a < 2 ^ 32 → (r : Matched) → r ≡ matched (walk 4 t.card a) → r ≡ matched (gives (longest 32 a rs))

module _ (t : Carried) where
  -- the words are a table
  pub is_table : {P : Type 0} → ((A : ℕ) (cs : List Candidate) → seen 4 t.words ≡ table A cs → P) → P
  is_table {P} on = go (seen 4 t.words) refl
    where
      number : (n : ℕ) → t.need ≡ needed (refuses n) → n ≡ 0
      number n e = sym (ap (λ (x : Needed). x.refusal) e) ∙ t.taken

      go : (s : Seen) → seen 4 t.words ≡ s → P
      go misfit e = absurd (let n : ◌≡◌ {A = ℕ} 1 0 = number 1 (rw e at t.needs) in omega arith)
      go foreign e = absurd (let n : ◌≡◌ {A = ℕ} 2 0 = number 2 (rw e at t.needs) in omega arith)
      go (table A cs) e = on A cs e

  module _ (A : ℕ) (cs : List Candidate) (e : seen 4 t.words ≡ table A cs) where
    abbrev rs : List Route
    rs = winners cs

    need_is : t.need ≡ record { refusal = 0; words = words_for 32 rs }
    need_is = rw e at t.needs

    words_are : t.need.words ≡ words_for 32 rs
    words_are = ap (λ (x : Needed). x.words) need_is

    room_is : words_for 32 rs ≤ length t.lent
    room_is = rw words_are at t.enough

    gives_counts : build_on (seen 4 t.words) (length t.lent)
        ≡ gives (record { arrays = room.need 32 rs; words = words_for 32 rs })
    gives_counts = rw (e, le-ltb (length t.lent) (words_for 32 rs) room_is)

    pub answers : Answers t rs
    answers =
        let l : Leaves rs t.lent t.packed = rw e at t.builds.left in
        record {
          need = need_is;
          built = t.builds.answer ∙ ap built gives_counts;
          lookups = λ a h r q. q ∙ ap matched (l.built room_is t.card (rw words_are at t.sent) a h);
        }

  -- the words of the arrays, and where they end
  is_laid : Laid (arrays_of t.words) (array_count t.words) t.packed
  is_laid = is_table (λ A cs e. t.builds.laid _ (gives_counts A cs e))

  is_needed : t.need.words ≡ needed_for (arrays_of t.words) (array_count t.words)
  is_needed = is_table (λ A cs e.
      let o = table_of 4 t.words (omega arith) (omega arith) A cs e in
      words_are A cs e ∙ rw o.list (sym (table_words 4 t.words o.table)))

-- ---- the table's own lookup

-- its reply without the block, in the fields of a match; no lookup is answered by `done`
abbrev pub without_block : Reply → Matched
without_block (replies.done h c) = record { refusal = 0; found = 0; hop = 0; length = 0 }
without_block (replies.found h l q) = record { refusal = 0; found = 1; hop = h; length = l }
without_block (replies.none q) = record { refusal = 0; found = 0; hop = 0; length = 0 }
without_block (replies.refused n) = record { refusal = n; found = 0; hop = 0; length = 0 }

without_block_lem : (m : Match) (q : ℕ) → matched (gives m) ≡ without_block (replies.matched m q)
without_block_lem none q = refl
without_block_lem (found h l) q = refl

-- every address gets on the card what the table's own lookup answers
pub as_table : (t : Carried) (a : ℕ) → a < 2 ^ 32 → (y : Reply) (r : Matched)
    → y ≡ lookup_on 32 (seen 4 t.words) (own.walk 4 t.words a) a → r ≡ matched (walk 4 t.card a) → r ≡ without_block y
as_table t a h y r p q =
    is_table t (λ A cs e.
    let rs = winners cs in
    (answers t A cs e).lookups a h r q ∙ without_block_lem (longest 32 a rs) (block 32 rs a) ∙ sym (ap without_block (rw e at p)))

-- ---- two tables

-- from the same words, whatever memory was lent: the same words from the header's end to the need
pub same_table : (t u : Carried) → t.words ≡ u.words → (i : ℕ) → header_words ≤ i → i < t.need.words
    → get_or t.packed i 0 ≡ get_or u.packed i 0
same_table t u e i h l =
    laid_one (arrays_of t.words) (array_count t.words) t.packed u.packed (is_laid t) (rw e (is_laid u)) i h
    (rw (is_needed t) at l)

-- two tables with the same winners, whatever their room and their words: one need, one answer of the build, and lookups agree
pub record Alike (t u : Carried) : Type 0 where
  pub need : t.need ≡ u.need
  pub built : t.built ≡ u.built
  pub lookups : (a : ℕ) → a < 2 ^ 32 → (r s : Matched) → r ≡ matched (walk 4 t.card a) → s ≡ matched (walk 4 u.card a)
      → r ≡ s

pub same_winners : (t u : Carried) (A B : ℕ) (cs ds : List Candidate) → seen 4 t.words ≡ table A cs
    → seen 4 u.words ≡ table B ds → winners cs ≡ winners ds → Alike t u
same_winners t u A B cs ds e f w =
    let x : Answers t (winners ds) = rw w at (answers t A cs e) in
    let y = answers u B ds f in
    record {
      need = x.need ∙ sym y.need;
      built = x.built ∙ sym y.built;
      lookups = λ a h r s p q. x.lookups a h r p ∙ sym (y.lookups a h s q);
    }
