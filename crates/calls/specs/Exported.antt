-- Calls of the C face one after the other on lent words, each known by its promise alone: how a caller reads their numbers as
-- replies, and that they make a series of the Rattle calls below them. The names are those of IPv4, and IPv6's calls,
-- toggleash_v6_clear and so on, are meant as well. Assumes nothing.
--
--     toggleash_clear ──▶ words ── toggleash_announce ──▶ . ── toggleash_lookup ──▶ . ── toggleash_withdraw ──▶ words'
--           0                      refusal, hop, cells         refusal, found, ..
use Rattle.std.specs.Prelude.{◌≡◌, refl, cond, List, [], ◌∷◌, ℕ, ◌+◌, ◌*◌, eqb, length, Result, Ok, Err}
use Rattle.std.proofs.Common.{sym, arith, ne_eqb}
use Rattle.logic.specs.Cases.{bool}
use Rattle.sizes.specs.Sizes.{array_words}
use Rattle.routes.specs.Family.{Family, levels, width}
use Rattle.routes.specs.Answers.{Reply, done, found, none, refused}
use Rattle.candidates.specs.Answers.{Update, Record, update, lookup}
use Rattle.candidates.specs.Seen.{table, misfits, lookup_on}
use Rattle.laws.specs.Given.{refused_one, given_refused}
use Rattle.words.specs.Table.{seen}
use Rattle.audit.specs.Answer as audit
use Rattle.refusals.specs.declared.Refusal.{Refusal}
use Rattle.refusals.specs.Number.{number}
use Rattle.lookup.specs.Walk.{walk}
use Rattle.answers.specs.Numbers.{refusal}
use Rattle.toggleash.specs.Face.{HasCleared, HasUpdated}
use Rattle.answers.specs.Numbers as numbers
use Rattle.answers.specs.declared.Found.{Found}
use Rattle.answers.specs.declared.Updated.{Updated}
use Rattle.calls.specs.Held.{cleared_done}
use Rattle.calls.specs.Below.{clear_below}
use Rattle.calls.specs.Sorts.{OfLookup, OfUpdate}

-- ---- numbers read as replies

-- those of an announcement or a withdrawal: refusal 0 is none
abbrev pub said_update : Updated → Reply
said_update r = cond (eqb r.refusal 0) (done r.hop r.cells) (refused r.refusal)

-- those of a lookup
abbrev pub said_lookup : Found → Reply
said_lookup r =
    cond (eqb r.refusal 0)
    (cond (eqb r.found 0) (none r.block) (found r.hop r.length r.block))
    (refused r.refusal)

-- they are read as they were meant
pub update_read : (y : Reply) → OfUpdate y → said_update (numbers.updated y) ≡ y
update_read (done h c) p = refl
update_read (found h l q) p = absurd p
update_read (none q) p = absurd p
update_read (refused n) p = rw (ne_eqb n 0 (λ e. omega arith))

pub lookup_read : (y : Reply) → OfLookup y → said_lookup (numbers.looked y) ≡ y
lookup_read (done h c) p = absurd p
lookup_read (found h l q) p = refl
lookup_read (none q) p = refl
lookup_read (refused n) p = rw (ne_eqb n 0 (λ e. omega arith))

-- ---- calls

-- toggleash_clear took words of A arrays, and left these
pub record Cleared (F : Family) (A : ℕ) (words : List ℕ) : Type 0 where
  pub lent : List ℕ
  pub size : length lent ≡ array_words * (A + 1)
  pub clears : HasCleared F lent words 0

-- the call of a record on the words ws: its numbers say y, and it left vs, as its contract allows
pub data Asked (F : Family) (ws : List ℕ) : Record → Reply → List ℕ → Type 0 where
  updated : {u : Update} {vs : List ℕ} (r : Updated) → HasUpdated F ws vs u r → Asked F ws (update u) (said_update r) vs
  looked : {a : ℕ} (r : Found) → r ≡ numbers.looked (lookup_on (width F) (seen (levels F) ws) (walk (levels F) ws a) a)
      → Asked F ws (lookup a) (said_lookup r) ws

-- several, in order
pub data Series (F : Family) : List ℕ → List Record → List Reply → List ℕ → Type 0 where
  nothing : {ws : List ℕ} → Series F ws [] [] ws
  more : {ws vs us : List ℕ} {x : Record} {xs : List Record} {y : Reply} {ys : List Reply}
      → Asked F ws x y vs → Series F vs xs ys us → Series F ws (x ∷ xs) (y ∷ ys) us

-- ---- and the calls below them

-- clear, not refused
pub clear_done : {F : Family} {A : ℕ} {words : List ℕ} (c : Cleared F A words)
    → audit.HasCleared (levels F) c.lent words (Ok tt)
clear_done {F} {A} {words} c = let b = clear_below F c.lent words 0 c.clears in of b.answer b.told b.promise
  where
    Took : Result (Unit {0}) Refusal → Type 0
    Took r = audit.HasCleared (levels F) c.lent words r

    of : (r : Result (Unit {0}) Refusal) → 0 ≡ refusal (audit.clear_answer r) → Took r → Took (Ok tt)
    of (Ok u) e p = p
    of (Err f) e p =
        bool (misfits (length c.lent))
        (λ d. absurd (let z : number f ≡ 1 = refused_one (rw d at p.answer) in omega arith))
        (λ d. absurd (given_refused (sym (rw d at p.answer))))

-- words that were cleared are a table that holds nothing
pub cleared : {F : Family} {A : ℕ} {words : List ℕ} → Cleared F A words → seen (levels F) words ≡ table A []
cleared {F} {A} {words} c = cleared_done F A c.lent words c.size (clear_done c)
