-- A record or a tick answered by its call: what that leaves of a front, and of a front and a table. Assumes nothing.
use Rattle.std.specs.Prelude.{◌≡◌, refl, List, [], ℕ}
use Rattle.std.proofs.Common.{sym, ap, ◌∙◌, arith}
use Rattle.routes.specs.Answers.{Reply}
use Rattle.candidates.specs.Answers.{update}
use Rattle.candidates.specs.Seen.{table}
use Rattle.words.specs.Words.{array_count}
use Rattle.words.specs.Table.{list_of, seen}
use Rattle.words.specs.TableBut.{Table}
use Rattle.words.specs.View.{seen_table, table_of}
use Rattle.front.specs.Place.{Place}
use Rattle.front.specs.Front.{Event, asks, tick, Both, both, taken}
use Rattle.front.specs.Seen.{FrontSeen, alien, front}
use Rattle.rows.specs.Row.{places_of, IsWords}
use Rattle.damping.specs.View.{seen_front_lem}
use Rattle.damping.proofs.Behind.{ticked_table}
use Rattle.damping_run.specs.Series.{Asked, updated, looked, ticked}
use Rattle.damping_run.specs.Locally.{AskedLocally}
use Rattle.damping_run.specs.Locally as local

-- ---- words that are a front and a table

pub record Stands (fs ws : List ℕ) : Type 0 where
  pub front : IsWords fs
  pub table : Table 4 ws

abbrev pub both_of : List ℕ → List ℕ → Both
both_of fs ws = both (list_of 4 ws) (places_of fs)

-- ---- what a call leaves

-- a front stays one, whatever the table's words
pub asked_words : {fs ws gs vs : List ℕ} {e : Event} {y : Reply} → IsWords fs → AskedLocally fs ws e y gs vs → IsWords gs
asked_words w (local.updated r p) = p.front w
asked_words w (local.looked r p) = w
asked_words w (local.ticked p) = p.places.words

-- on a table a local call is the call
pub asked_table : {fs ws gs vs : List ℕ} {e : Event} {y : Reply} → Table 4 ws → AskedLocally fs ws e y gs vs
    → Asked fs ws e y gs vs
asked_table t (local.updated r p) = updated r (p.table t)
asked_table t (local.looked r p) = looked r p
asked_table {fs} {ws} {gs} {vs} t (local.ticked p) = ticked (ticked_table fs ws gs vs t p)

pub record Answered (fs ws : List ℕ) (e : Event) (y : Reply) (gs vs : List ℕ) : Type 0 where
  pub answer : y ≡ (taken 32 (array_count ws) (both_of fs ws) e).reply
  pub both : both_of gs vs ≡ (taken 32 (array_count ws) (both_of fs ws) e).left
  pub stands : Stands gs vs
  pub arrays : array_count vs ≡ array_count ws

abbrev places_in : FrontSeen → List Place
places_in alien = []
places_in (front ps) = ps

-- words that are seen as a table of A arrays, and those of a front
leaves : (A : ℕ) (b : Both) (gs vs : List ℕ) → IsWords gs → places_of gs ≡ b.places → seen 4 vs ≡ table A b.list
    → (both_of gs vs ≡ b) × Stands gs vs × (array_count vs ≡ A)
leaves A b gs vs w p l =
    let t = table_of 4 vs (omega arith) (omega arith) A b.list l in (
      λ i. both (sym t.list i) (p i),
      record { front = w; table = t.table },
      sym t.arrays,
    )

pub answered : (fs ws : List ℕ) → Stands fs ws → {gs vs : List ℕ} {e : Event} {y : Reply} → Asked fs ws e y gs vs
    → Answered fs ws e y gs vs
answered fs ws s {gs} {vs} (updated {u} r p) =
    let w = p.front s.front in
    let l = rw (seen_front_lem fs s.front, seen_table 4 ws s.table) at p.list in
    let q = rw (seen_front_lem fs s.front, seen_table 4 ws s.table) at p.places in
    let z = leaves (array_count ws) (taken 32 (array_count ws) (both_of fs ws) (asks (update u))).left gs vs w
    (ap places_in (sym (seen_front_lem gs w) ∙ q)) l in
    record {
      answer = rw (seen_front_lem fs s.front, seen_table 4 ws s.table) at p.answer;
      both = z.0;
      stands = z.1;
      arrays = z.2;
    }
answered fs ws s (looked r p) =
    record { answer = rw (seen_table 4 ws s.table) at p; both = refl; stands = s; arrays = refl }
answered fs ws s {gs} {vs} (ticked p) =
    let z = leaves (array_count ws) (taken 32 (array_count ws) (both_of fs ws) tick).left gs vs p.places.words
    p.places.places p.list in
    record { answer = refl; both = z.0; stands = z.1; arrays = z.2 }
