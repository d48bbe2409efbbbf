-- A list and its table: the list is the table's, its matches are the walk through the table. Assumes nothing.
use Rattle.std.specs.Prelude.{◌≡◌, refl, List, [], ◌∷◌, length}
use Rattle.std.proofs.Math.Path.{sym, ap}
use Rattle.std.proofs.Common.{◌∙◌, shr_lt}
use Prim.Native.Nat.{ℕ, zero, suc, ◌+◌, ◌-◌, ◌*◌, ◌/◌, ◌^◌, ◌≤◌, ◌<◌}
use native.Mathlib.Omega.{arith}
use Rattle.logic.specs.Cases.{same, tri}
use Rattle.laws.specs.Sorted.{Good, ext, insert_from, all_insert, all_map, insert_same, insert_other, hop_head, hop_skip}
use Rattle.routes.specs.Collect.{routes}
use Rattle.laws.specs.Collect.{routes_from, routes_goods, routes_hop}
use Rattle.laws.specs.Longest.{whole, routes_wfs}
use Rattle.routes.specs.Route.{Route, key, From, All, hop_at, insert, Wf}
use Rattle.routes.specs.Match.{Match, none, last, or_shorter}
use Rattle.shortest.specs.Chosen.{under}
use Rattle.shortest.specs.Inside.{carried}
use Rattle.shortest.specs.Shortest.{hop_of}

-- the table of a list
abbrev pub table_of : ℕ → List Route → ℕ → ℕ → ℕ
table_of W rs v l = hop_at rs (v * 2 ^ (W - l) * 256 + l)

-- ---- a sorted list is the list of its table

-- a key that is held is that of a prefix
place : {P : Type 0} (W : ℕ) (rs : List Route) → All (Wf W) rs → (k : ℕ)
    → (hop_at rs k ≡ 0 → P) → ((v l : ℕ) → l ≤ W → v < 2 ^ l → v * 2 ^ (W - l) * 256 + l ≡ k → P) → P
place W [] f k x y = x refl
place W (r ∷ rs) f k x y =
    same (key r) k
    (λ q _.
    let e : r.len + (W - r.len) ≡ W = omega (arith, f.0.fits) in
    y (r.addr / 2 ^ (W - r.len)) r.len f.0.fits
    (shr_lt r.len (W - r.len) (rw e f.0.inside)) (rw (whole W r f.0) q))
    (λ n _. place W rs f.1 k (λ z. x (hop_skip r rs k n ∙ z)) y)

good : (W : ℕ) → W < 256 → (rs : List Route) → All (Wf W) rs → All Good rs
good W w rs f = all_map (Wf W) Good (λ r q. record { pos = q.some; short = omega (arith, q.fits) }) rs f

pub of_table : (W : ℕ) → W < 256 → (rs : List Route) → From 0 rs → All (Wf W) rs → rs ≡ routes W (table_of W rs)
of_table W w rs s f =
    ext 0 rs (routes W (table_of W rs)) s (routes_from W w (table_of W rs)) (good W w rs f) (routes_goods W w (table_of W rs))
    (λ k.
    place W rs f k
    (λ z. place W (routes W (table_of W rs)) (routes_wfs W (table_of W rs)) k
    (λ z'. z ∙ sym z')
    (λ v l h b e. rw (← e) (sym (routes_hop W w (table_of W rs) v l h b))))
    (λ v l h b e. rw (← e) (sym (routes_hop W w (table_of W rs) v l h b))))

-- ---- and any list is, sorted, no longer

sort : List Route → List Route
sort [] = []
sort (r ∷ rs) = insert r (sort rs)

insert-length : (r : Route) (rs : List Route) → length (insert r rs) ≤ suc (length rs)
insert-length r [] = omega arith
insert-length r (s ∷ rs) =
    tri (key r) (key s)
    (λ _ e. rw e (omega arith))
    (λ _ e d. rw (e, d) (omega arith))
    (λ _ e d. rw (e, d) (omega (arith, insert-length r rs)))

sort_length : (rs : List Route) → length (sort rs) ≤ length rs
unfolding sort
sort_length [] = omega arith
sort_length (r ∷ rs) = omega (arith, insert-length r (sort rs), sort_length rs)

sort_from : (rs : List Route) → From 0 (sort rs)
unfolding sort
sort_from [] = tt
sort_from (r ∷ rs) = insert_from 0 r (sort rs) (omega arith) (sort_from rs)

sort_all : (P : Route → Type 0) (rs : List Route) → All P rs → All P (sort rs)
unfolding sort
sort_all P [] p = tt
sort_all P (r ∷ rs) p = all_insert P r (sort rs) p.0 (sort_all P rs p.1)

sort_hop : (rs : List Route) (k : ℕ) → hop_at (sort rs) k ≡ hop_at rs k
unfolding sort
sort_hop [] k = refl
sort_hop (r ∷ rs) k =
    same (key r) k
    (λ q e. (rw q at (insert_same r (sort rs))) ∙ sym (hop_head r rs k q))
    (λ n e. insert_other r (sort rs) k n ∙ sort_hop rs k ∙ sym (hop_skip r rs k n))

pub table_length : (W : ℕ) → W < 256 → (rs : List Route) → All (Wf W) rs → length (routes W (table_of W rs)) ≤ length rs
table_length W w rs f =
    let e : table_of W (sort rs) ≡ table_of W rs = λ i v l. sort_hop rs (v * 2 ^ (W - l) * 256 + l) i in
    let q : sort rs ≡ routes W (table_of W rs) =
    of_table W w (sort rs) (sort_from rs) (sort_all (Wf W) rs f) ∙ ap (routes W) e in
    omega (arith, sort_length rs, ap (length {A = Route}) q)

-- ---- the walk

hop_hit : (x l : ℕ) (m : Match) → hop_of (or_shorter x l m) ≡ under x (hop_of m)
hop_hit zero l m = refl
hop_hit (suc x) l m = refl

module _ (f : ℕ → ℕ → ℕ) (W a : ℕ) where
  way : ℕ → ℕ
  way l = f (a / 2 ^ (W - l)) l

  walk : (d l : ℕ) → l + suc d ≡ W → carried f d (suc l) (hop_of (last way l)) a ≡ hop_of (last way W)
  unfolding way carried last
  walk zero l e =
      let q : W ≡ suc l = omega arith in
      let z : W - suc l ≡ 0 = omega arith in
      let o : a / 1 ≡ a = omega arith in
      let s : way (suc l) ≡ f a (suc l) = rw (z, o) in
      sym (ap (λ (n : ℕ). hop_of (last way n)) q
      ∙ hop_hit (way (suc l)) (suc l) (last way l) ∙ ap (λ (x : ℕ). under x (hop_of (last way l))) s)
  walk (suc d) l e =
      let q : W - suc l ≡ suc d = omega arith in
      rw (← q, ← (hop_hit (way (suc l)) (suc l) (last way l))) (walk d (suc l) (omega arith))

pub carried_last : (f : ℕ → ℕ → ℕ) (W a : ℕ) → carried f W 0 0 a ≡ hop_of (last (λ l. f (a / 2 ^ (W - l)) l) W)
unfolding carried last way
carried_last f zero a = (let o : a / 1 ≡ a = omega arith in rw o) ∙ sym (hop_hit (f (a / 2 ^ (0 - 0)) 0) 0 none)
carried_last f (suc W) a =
    let e : suc W - 0 ≡ suc W = omega arith in
    ap (λ (x : ℕ). carried f W 1 x a) (rw e (sym (hop_hit (f (a / 2 ^ suc W) 0) 0 none)))
    ∙ walk f (suc W) a W 0 (omega arith)
