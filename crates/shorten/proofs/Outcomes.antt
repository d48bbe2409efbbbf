-- What the two calls answer and leave, over plain variables. Assumes nothing.
use mathlib.Core.Path.{◌≡◌, refl, sym, ap, ◌∙◌}
use mathlib.Core.Logic.{◌≢◌}
use mathlib.Core.Bool.{Bool, true, false, cond}
use mathlib.Core.List.{List, [], ◌∷◌, ◌++◌}
use Prim.Native.Nat.{ℕ, zero, suc, ◌+◌, ◌-◌, ◌*◌, ◌≤◌, ◌<◌}
use native.Mathlib.Omega.{arith}
use lib.Dec.{eqb, ltb}
use lib.ListN.{length, set, take, drop, length-append}
use lib.Seq.{take_at}
use Rattle.std.specs.Prelude.{Result, Ok, Err}
use Rattle.std.specs.Result.{result_unwrap_or}
use borrow.Author.Tests.{ne_eqb, lt-ltb, le-ltb, eqb-false, ltb-false}
use Rattle.logic.specs.Cases.{bool, less}
use Rattle.sizes.specs.Sizes.{root_slot}
use Rattle.numbers.specs.Wrote.{Wrote, wrote_two, wrote-front}
use Rattle.routes.specs.Route.{Route, held}
use Rattle.routes.specs.Seen.{Answer, gives, refuses}
use Rattle.candidates.specs.Candidate.{Candidate}
use Rattle.candidates.specs.Winners.{winners}
use Rattle.candidates.specs.Bytes.{written_plainly}
use Rattle.candidates.specs.Seen.{Seen, misfit, foreign, table}
use Rattle.words.specs.Table.{seen}
use Rattle.words.specs.TableBut.{Table}
use Rattle.words.specs.View.{seen_table, table_of}
use Rattle.refusals.specs.declared.Refusal.{Refusal}
use Rattle.refusals.specs.declared.Refusal.TheVariants as refusal
use Rattle.refusals.specs.Number.{said}
use Rattle.shortest.specs.Shortest.{upto}
use Rattle.shortest.specs.Chosen.{under}
use Rattle.shortest.specs.Proved.{upto_all}
use Rattle.shortest.specs.Seen.{shortest4, bytes_for, bytes_in, left_in}
use Rattle.sweep.specs.Walk.{won_at, cost_at, store_at, routes_at}
use Rattle.sweep.specs.Whole.{won_of, default_is, cost_whole, routes_whole, small_slot}
use Rattle.sweep.specs.Asked.{KeepsSets, HasKept, bytes_of, PutsRoutes}
use Rattle.sweep.specs.Bound.{cost_bound, bytes-length}
use Rattle.shorten.specs.Answer.{unfit_on, short_in, front_in, HasCounted, HasShortened}
use Rattle.shorten.proofs.Refusals.{Seated, root_stands}

-- ---- a table of small hops with the default route, and a scratch that is long enough

pub record Fine (ws ms : List ℕ) : Type 0 where
  pub seated : Seated ws
  pub default : 1 ≤ held (won_of ws) 0 0
  pub small : upto 32 (won_of ws) ≡ true
  pub size : length ws ≤ length ms

fine_of : (ws ms : List ℕ) (A : ℕ) (cs : List Candidate) → seen 4 ws ≡ table A cs → ltb (length ms) (length ws) ≡ false
    → eqb (held (winners cs) 0 0) 0 ≡ false → upto 32 (winners cs) ≡ true → Fine ws ms
fine_of ws ms A cs v l q u =
    let i = table_of 4 ws (omega arith) (omega arith) A cs v in
    let k : held (winners cs) 0 0 ≢ 0 = eqb-false (held (winners cs) 0 0) 0 q in
    let o : 1 ≤ held (winners cs) 0 0 = omega arith in
    record {
      seated = record { right = i.table; view = seen_table 4 ws i.table };
      default = rw i.list at o;
      small = rw i.list at u;
      size = ltb-false (length ms) (length ws) l;
    }

-- none of the first refusals
pub fine : (ws ms : List ℕ) → 0 ≡ unfit_on (seen 4 ws) (ltb (length ms) (length ws)) → Fine ws ms
fine ws ms e = go (seen 4 ws) refl (ltb (length ms) (length ws)) refl e
  where
    go : (s : Seen) → seen 4 ws ≡ s → (l : Bool) → ltb (length ms) (length ws) ≡ l → 0 ≡ unfit_on s l → Fine ws ms
    go s v true w f = absurd (omega arith)
    go misfit v false w f = absurd (omega arith)
    go foreign v false w f = absurd (omega arith)
    go (table A cs) v false w f =
        bool (eqb (held (winners cs) 0 0) 0)
        (λ q. absurd (let g : ◌≡◌ {A = ℕ} 0 23 = rw q at f in omega arith))
        (λ q. bool (upto 32 (winners cs))
        (λ u. fine_of ws ms A cs v w q u)
        (λ u. absurd (let g : ◌≡◌ {A = ℕ} 0 24 = rw (q, u) at f in omega arith)))

some_else : (x : ℕ) → 1 ≤ x → 1 ≤ under x 0
some_else zero p = p
some_else (suc x) p = p

module _ {ws ms : List ℕ} (d : Fine ws ms) where
  abbrev tb : Table 4 ws
  tb = d.seated.right

  abbrev rs : List Route
  rs = shortest4 (won_of ws)

  view : (room : ℕ) → short_in ws ms room ≡ cond (ltb room (bytes_for (length rs))) (refuses 9) (gives rs)
  view room =
      rw (
        le-ltb (length ms) (length ws) d.size,
        d.seated.view,
        ne_eqb (held (won_of ws) 0 0) 0 (λ e. omega (arith, d.default)),
        d.small,
      )

  pub ask_keep : KeepsSets ws root_slot 32 0 ms
  ask_keep = record {
    v = 0;
    stands = root_stands d.seated;
    small = λ p v bits s. small_slot ws tb (upto_all 32 (won_of ws) d.small) p v (32 - bits) (omega arith) s.slot;
    some = some_else (won_at ws root_slot) (omega (arith, default_is ws tb, d.default));
    low = omega arith;
    size = d.size;
  }

  -- the bytes of the list, by the cost
  many : bytes_for (length rs) ≡ 8 * cost_at ws 32 root_slot 0 + 9
  many = omega (arith, cost_whole ws tb d.default (upto_all 32 (won_of ws) d.small))

  module _ {m cost : ℕ} {ns : List ℕ} (g : HasKept ws root_slot 32 0 ms m cost ns) where
    pub cost-small : cost < 4294967296
    cost-small = omega (arith, g.price, cost_bound ws 32 root_slot 0)

    pub count_short : (room : ℕ) → room < 8 * cost + 9 → HasCounted ws ms room (Err refusal.Short) ns
    count_short room h =
        let e : ltb room (bytes_for (length rs)) ≡ true = lt-ltb room (bytes_for (length rs)) (omega (arith, many, g.price)) in
        let v : short_in ws ms room ≡ refuses 9 = view room ∙ rw e in
        record { answer = rw v; scratch = rw v g.list }

    pub count_given : (room : ℕ) → 8 * cost + 9 ≤ room → HasCounted ws ms room (Ok (8 * cost + 9)) ns
    count_given room h =
        let e : ltb room (bytes_for (length rs)) ≡ false = le-ltb room (bytes_for (length rs)) (omega (arith, many, g.price)) in
        let v : short_in ws ms room ≡ gives rs = view room ∙ rw e in
        let n : 8 * cost + 9 ≡ bytes_for (length rs) = omega (arith, many, g.price) in
        record { answer = rw v (ap gives n); scratch = rw v g.list }

-- ---- what is known where the bytes are counted

pub record Given (ws ms b : List ℕ) (n : ℕ) (ns : List ℕ) : Type 0 where
  pub fine : Fine ws ms
  pub count : n ≡ bytes_for (length (shortest4 (won_of ws)))
  pub fits : n ≤ length b
  pub view : short_in ws ms (length b) ≡ gives (shortest4 (won_of ws))
  pub list : ns ≡ store_at ws 32 root_slot 0 ms

pub given : (ws ms b : List ℕ) (n : ℕ) (ns : List ℕ) → HasCounted ws ms (length b) (Ok n) ns → Given ws ms b n ns
given ws ms b n ns c =
    go (seen 4 ws) refl (ltb (length ms) (length ws)) refl c.answer
  where
    done : (f : Fine ws ms) → gives n ≡ bytes_in (short_in ws ms (length b)) → Given ws ms b n ns
    done f a =
        less (length b) (bytes_for (length (shortest4 (won_of ws))))
        (λ _ q. absurd (let v : short_in ws ms (length b) ≡ refuses 9 = view f (length b) ∙ rw q in
        let g : gives n ≡ refuses 9 = rw v at a in cc))
        (λ h q. (let v : short_in ws ms (length b) ≡ gives (shortest4 (won_of ws)) = view f (length b) ∙ rw q in
        let g : gives n ≡ gives (bytes_for (length (shortest4 (won_of ws)))) = rw v at a in
        let k : n ≡ bytes_for (length (shortest4 (won_of ws))) = cc in
        record { fine = f; count = k; fits = omega (arith, k); view = v; list = rw v at c.scratch }))

    go : (s : Seen) → seen 4 ws ≡ s → (l : Bool) → ltb (length ms) (length ws) ≡ l
        → gives n ≡ bytes_in (short_in ws ms (length b))
        → Given ws ms b n ns
    go s v true w a = absurd (let g : gives n ≡ refuses 1 = rw w at a in cc)
    go misfit v false w a = absurd (let g : gives n ≡ refuses 1 = rw (w, v) at a in cc)
    go foreign v false w a = absurd (let g : gives n ≡ refuses 2 = rw (w, v) at a in cc)
    go (table A cs) v false w a =
        bool (eqb (held (winners cs) 0 0) 0)
        (λ q. absurd (let g : gives n ≡ refuses 23 = rw (w, v, q) at a in cc))
        (λ q. bool (upto 32 (winners cs))
        (λ u. done (fine_of ws ms A cs v w q u) a)
        (λ u. absurd (let g : gives n ≡ refuses 24 = rw (w, v, q, u) at a in cc)))

module _ {ws ms b : List ℕ} {n : ℕ} {ns : List ℕ} (g : Given ws ms b n ns) where
  abbrev qs : List Route
  qs = shortest4 (won_of ws)

  out : bytes_of (routes_at ws ns 32 root_slot 0 0) ≡ bytes_of qs
  out =
      let f = g.fine in
      rw g.list (ap bytes_of
      (routes_whole ws f.seated.right f.default (upto_all 32 (won_of ws) f.small) ms f.size))

  bytes : length (bytes_of qs) + 1 ≡ n
  bytes = omega (arith, bytes-length qs, g.count)

  pub ask-put : length ns ≡ length ms → PutsRoutes ws ns root_slot 0 32 0 b 0
  ask-put e = record {
    stands = root_stands g.fine.seated;
    low = omega arith;
    size = omega (arith, g.fine.size);
    room = rw out (omega (arith, bytes, g.fits));
  }

  module _ {q : ℕ} {c : List ℕ} (w : Wrote b 0 (bytes_of (routes_at ws ns 32 root_slot 0 0)) q c) where
    pub end_room : q < length b
    end_room = omega (arith, w.place, ap length out, bytes, g.fits)

    pub short_done : HasShortened ws ms b (Ok n) ns (set c q 0)
    unfolding bytes_of
    short_done =
        let x : Wrote b 0 (written_plainly qs) (q + 1) (set c q 0) =
        rw out at (wrote_two {ys = 0 ∷ []} w (record { place = refl; list = refl })) in
        let l : length (written_plainly qs) ≡ bytes_for (length qs) =
        length-append (bytes_of qs) (0 ∷ []) ∙ omega (arith, bytes, g.count) in
        let f = (wrote-front b (written_plainly qs) (q + 1) (set c q 0) (omega (arith, l, g.count, g.fits)) x).1 in
        let v = g.view in
        record {
          answer = rw v (ap gives g.count);
          scratch = rw v g.list;
          buffer = rw v (f ∙ ap (λ (k : ℕ). written_plainly qs ++ drop k b) l);
        }

-- ---- the front of the buffer that is left

plain-length : (rs : List Route) → length (written_plainly rs) ≡ bytes_for (length rs)
unfolding bytes_of
plain-length rs = length-append (bytes_of rs) (0 ∷ []) ∙ omega (arith, bytes-length rs)

pub front_is : (x : Answer (List Route)) (r : Result ℕ Refusal) (b c : List ℕ) → said r ≡ bytes_in x → c ≡ left_in x b
    → take (result_unwrap_or r 0) c ≡ front_in x
front_is (gives rs) (Ok n) b c f e =
    let k : n ≡ bytes_for (length rs) = cc in
    rw e (take_at (written_plainly rs) (drop (bytes_for (length rs)) b) n (plain-length rs ∙ sym k))
front_is (gives rs) (Err w) b c f e = cc
front_is (refuses n) (Ok m) b c f e = cc
front_is (refuses n) (Err w) b c f e = refl
