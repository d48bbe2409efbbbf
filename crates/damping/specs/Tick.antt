-- A tick on the words: halved, the rows tried in order against the table's words as they then are, settled. What those words are
-- does not matter: each try is the table's own local call. Assumes nothing.
--
--     rows before i     tried, each by one call at most
--     rows from i on    as halved
use Rattle.std.specs.Prelude.{◌≡◌, refl, ◌≢◌, Bool, true, false, cond, List, [], ◌∷◌, ◌++◌, ℕ, suc, ◌+◌, ◌/◌, ◌%◌, ◌<◌, ◌≤◌}
use Rattle.std.specs.Prelude.{length, ltb}
use Rattle.std.proofs.Common.{sym, ap, subst, ◌∙◌, arith, ltb-true, lt-ltb, le-ltb, eq-eqb, ne_eqb}
use Rattle.std.proofs.lemmas.Bool.{false≢true}
use Rattle.logic.specs.Bools.{and_to}
use Rattle.routes.specs.Answers.{is_done}
use Rattle.candidates.specs.Answers.{announce, after}
use Rattle.words.specs.Words.{array_count}
use Rattle.words.specs.Table.{list_of}
use Rattle.words.specs.TableBut.{Table}
use Rattle.words.specs.View.{table_of, seen_table}
use Rattle.front.specs.Place.{Place, marked, most_places, free_below}
use Rattle.front.specs.Front.{halve, keeping, again, due, each}
use Rattle.restraint.specs.Keeps.{Tried, settled_keeps}
use Rattle.rows.specs.Row.{front_words, Row, row, row_at, decode, places_of, IsWords}
use Rattle.shelf.specs.Shift.{Holds, replaced, halved_row}
use Rattle.charge.specs.Calls.{Became}
use Rattle.replies.specs.Said.{said_reply}
use Rattle.replies.specs.declared.Reply as code
use Rattle.update.specs.Locally.{HasUpdatedLocally}
use Rattle.damping.specs.Count.{row_small}
use Rattle.release.specs.Settle.{firsts, firsts_as, firsts_more, settled, halve_pass, Settles}

-- ---- the tries

-- what a place keeps below 750 is announced to the words ws, which become us; the place then keeps it on, where that was not done
pub data TriedOn (ws : List ℕ) (p : Place) : Place → List ℕ → Type 0 where
  calm : due p ≡ false → TriedOn ws p p ws
  announced : {us : List ℕ} (r : code.Reply) → due p ≡ true → HasUpdatedLocally 4 ws us (again p) r
      → TriedOn ws p (marked p (cond (is_done (said_reply r)) (keeping p.mark 0) p.mark)) us

-- and so are several, in order
pub data TriesOn : List ℕ → List Place → List Place → List ℕ → Type 0 where
  nothing : {ws : List ℕ} → TriesOn ws [] [] ws
  more : {ws us vs : List ℕ} {p q : Place} {ps qs : List Place} → TriedOn ws p q us → TriesOn us ps qs vs
      → TriesOn ws (p ∷ ps) (q ∷ qs) vs

tries_last : {ws us vs : List ℕ} {p q : Place} {ps qs : List Place} → TriesOn ws ps qs us → TriedOn us p q vs
    → TriesOn ws (ps ++ (p ∷ [])) (qs ++ (q ∷ [])) vs
tries_last nothing t = more t nothing
tries_last (more y s) t = more y (tries_last s t)

one_long : {ws vs : List ℕ} {p q : Place} → TriedOn ws p q vs → length vs ≡ length ws
one_long (calm e) = refl
one_long (announced r d c) = c.size

pub tries_long : {ws vs : List ℕ} {ps qs : List Place} → TriesOn ws ps qs vs → length vs ≡ length ws
tries_long nothing = refl
tries_long (more y s) = tries_long s ∙ one_long y

-- a table stays one
one_table : {ws vs : List ℕ} {p q : Place} → Table 4 ws → TriedOn ws p q vs → Table 4 vs
one_table t (calm e) = t
one_table {ws} {vs} {p} t (announced r d c) =
    (table_of 4 vs (omega arith) (omega arith) (array_count ws) (after 32 (array_count ws) (list_of 4 ws) (again p))
    (rw (seen_table 4 ws t) at (c.table t).list)).table

tries_table : {ws vs : List ℕ} {ps qs : List Place} → Table 4 ws → TriesOn ws ps qs vs → Table 4 vs
tries_table t nothing = t
tries_table t (more y s) = tries_table (one_table t y) s

tries-tried : {ws vs : List ℕ} {ps qs : List Place} → TriesOn ws ps qs vs → Tried ps qs
tries-tried nothing = tt
tries-tried (more (calm e) s) = (record { gone = false; low = λ z. absurd (false≢true z); left = refl }, tries-tried s)
tries-tried (more {p = p} (announced r d c) s) = (
  record {
    gone = is_done (said_reply r);
    low = λ _. ltb-true p.mark.penalty free_below (and_to (ltb p.mark.penalty free_below) _ d).0;
    left = refl;
  },
  tries-tried s,
)

-- ---- one row, as the code tries it

pub record Tries (fs ws : List ℕ) (i : ℕ) (known : Bool) : Type 0 where
  pub size : length fs ≡ front_words
  pub low : i < most_places
  pub small : (row_at fs i).k < 16777216
  pub table : known ≡ true → Table 4 ws

pub record TriedRow (fs ws gs us : List ℕ) (i : ℕ) : Type 0 where
  pub size : length gs ≡ front_words
  pub row : TriedOn ws (decode (row_at fs i)) (decode (row_at gs i)) us
  pub rest : (m : ℕ) → m ≢ i → m < most_places → row_at gs m ≡ row_at fs m

module _ (fs ws : List ℕ) (i : ℕ) (z : length fs ≡ front_words) where
  stays : due (decode (row_at fs i)) ≡ false → TriedRow fs ws fs ws i
  stays e = record { size = z; row = calm e; rest = λ m n h. refl }

  pub row_high : free_below ≤ (row_at fs i).x / 2 → TriedRow fs ws fs ws i
  row_high h = stays (rw (le-ltb ((row_at fs i).x / 2) free_below h))

  module _ (h : (row_at fs i).x / 2 < free_below) where
    pub row_empty : (row_at fs i).k ≡ 0 → TriedRow fs ws fs ws i
    row_empty e = stays (rw (lt-ltb ((row_at fs i).x / 2) free_below h, eq-eqb (row_at fs i).k 0 e))

    module _ (n : (row_at fs i).k ≢ 0) (us : List ℕ) (p : ℕ) (r : code.Reply) (ep : p ≡ (row_at fs i).k / 65536)
        (u : HasUpdatedLocally 4 ws us
        (announce (row_at fs i).a ((row_at fs i).w / 8) ((row_at fs i).k % 65536) ((row_at fs i).w % 8) p) r) where
      is_due : due (decode (row_at fs i)) ≡ true
      is_due = rw (lt-ltb ((row_at fs i).x / 2) free_below h, ne_eqb (row_at fs i).k 0 n)

      made : TriedOn ws (decode (row_at fs i)) (marked (decode (row_at fs i))
          (cond (is_done (said_reply r)) (keeping (decode (row_at fs i)).mark 0) (decode (row_at fs i)).mark)) us
      made = announced r is_due (rw ep at u)

      tried_as : (b : Bool) → is_done (said_reply r) ≡ b
          → TriedOn ws (decode (row_at fs i)) (marked (decode (row_at fs i))
          (cond b (keeping (decode (row_at fs i)).mark 0) (decode (row_at fs i)).mark)) us
      tried_as b e = rw e at made

      -- a call that was not done leaves what is kept
      pub row_out : is_done (said_reply r) ≡ false → TriedRow fs ws fs us i
      row_out d = record { size = z; row = tried_as false d; rest = λ m k b. refl }

      pub row_in : (gs : List ℕ) → i < most_places → is_done (said_reply r) ≡ true
          → Holds gs (replaced (row_at fs) i (row (row_at fs i).a (row_at fs i).w (row_at fs i).x 0)) → TriedRow fs ws gs us i
      row_in gs low d q =
          let e : row_at gs i ≡ row (row_at fs i).a (row_at fs i).w (row_at fs i).x 0 = q.rows i low ∙ rw (eq-eqb i i refl) in
          record {
            size = q.size;
            row = subst (λ (x : Row). TriedOn ws (decode (row_at fs i)) (decode x) us) (sym e) (tried_as true d);
            rest = λ m k b. q.rows m b ∙ rw (ne_eqb m i k);
          }

-- ---- the loop

-- the rows before i of vs are tried from the words ws₀ on: the words are fs and ws
pub record Trying (vs ws₀ fs ws : List ℕ) (i : ℕ) : Type 0 where
  pub size : length fs ≡ front_words
  pub tries : TriesOn ws₀ (firsts (row_at vs) 0 i) (firsts (row_at fs) 0 i) ws
  pub rest : (m : ℕ) → i ≤ m → m < most_places → row_at fs m ≡ row_at vs m

-- what is asked for before it
pub record Begins (vs ws : List ℕ) (n : ℕ) (known : Bool) : Type 0 where
  pub size : length vs ≡ front_words
  pub few : n ≤ most_places
  pub small : (j : ℕ) → j < most_places → (row_at vs j).k < 16777216
  pub table : known ≡ true → Table 4 ws

pub trying_begin : (vs ws : List ℕ) → length vs ≡ front_words → Trying vs ws vs ws 0
unfolding firsts
trying_begin vs ws z = record { size = z; tries = nothing; rest = λ m a b. refl }

rows_more : (vs : List ℕ) (i : ℕ) → firsts (row_at vs) 0 (i + 1) ≡ firsts (row_at vs) 0 i ++ (decode (row_at vs i) ∷ [])
rows_more vs i =
    let y : i + 1 ≡ suc i = omega arith in
    let o : 0 + i ≡ i = omega arith in
    rw y (rw o at (firsts_more (row_at vs) 0 i))

module _ (vs ws₀ fs ws : List ℕ) (i : ℕ) (h : i < most_places) (g : Trying vs ws₀ fs ws i) where
  pub trying_row : (n : ℕ) (known : Bool) → Begins vs ws₀ n known → Tries fs ws i known
  trying_row n known b =
      record {
        size = g.size;
        low = h;
        small = (let e = ap (λ (r : Row). r.k) (g.rest i (omega arith) h) in rw e (b.small i h));
        table = λ k. tries_table (b.table k) g.tries;
      }

  pub trying_more : (gs us : List ℕ) → TriedRow fs ws gs us i → Trying vs ws₀ gs us (i + 1)
  trying_more gs us r =
      let e : row_at fs i ≡ row_at vs i = g.rest i (omega arith) h in
      let k : firsts (row_at gs) 0 i ≡ firsts (row_at fs) 0 i =
      firsts_as (row_at gs) (row_at fs) 0 i (λ m a b. r.rest m (omega arith) (omega arith)) in
      record {
        size = r.size;
        tries = rw (rows_more vs i, rows_more gs i, k) (tries_last g.tries
            (subst (λ (x : Row). TriedOn ws (decode x) (decode (row_at gs i)) us) e r.row));
        rest = λ m a b. r.rest m (omega arith) b ∙ g.rest m (omega arith) b;
      }

pub trying_end : (vs ws₀ fs ws : List ℕ) (i n : ℕ) → i ≤ n → n ≤ i → Trying vs ws₀ fs ws i → Trying vs ws₀ fs ws n
trying_end vs ws₀ fs ws i n h b g = (let e : i ≡ n = omega arith in rw e at g)

-- ---- the whole

-- the words fs of a front and any ws became gs and vs: what is kept below 750 was tried in order, who is then below 750 with
-- nothing kept is let go, and spent places are free
pub record TickedLocally (fs ws gs vs : List ℕ) : Type 0 where
  pub left : List Place
  pub tries : TriesOn ws (each halve (places_of fs)) left vs
  pub places : Became gs (settled left)

module _ (fs hs ws us vs : List ℕ) (w : IsWords fs) (n : ℕ) (en : n ≡ length (places_of fs))
    (h : Holds hs (λ j. halved_row (row_at fs j))) where
  pub tick_begin : n ≤ most_places → (known : Bool) → (known ≡ true → Table 4 ws) → Begins hs ws n known
  tick_begin few known t =
      record {
        size = h.size;
        few = few;
        small = λ j b. (let e = ap (λ (r : Row). r.k) (h.rows j b) in rw e (row_small fs w j b));
        table = t;
      }

  module _ (g : Trying hs ws us vs n) where
    all_tried : TriesOn ws (each halve (places_of fs)) (firsts (row_at us) 0 n) vs
    all_tried = (let e : firsts (row_at hs) 0 n ≡ each halve (places_of fs) = rw en (halve_pass fs hs w h) in rw e at g.tries)

    pub tick_settles : Settles us n
    tick_settles =
        record {
          size = g.size;
          within = omega (arith, w.front.few);
          zeros = λ i a b. g.rest i a b ∙ h.rows i b ∙ ap halved_row (w.zeros i (omega arith) b);
          front = settled_keeps 32 (places_of fs) (firsts (row_at us) 0 n) w.front (tries-tried all_tried);
        }

    pub ticked : (gs : List ℕ) → Became gs (settled (firsts (row_at us) 0 n)) → TickedLocally fs ws gs vs
    ticked gs b = record { left = firsts (row_at us) 0 n; tries = all_tried; places = b }
