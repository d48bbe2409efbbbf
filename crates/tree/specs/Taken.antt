-- The taken slots of a tree are as many as its routes: with each slot that is freed the list loses one route. Assumes nothing.
use Rattle.std.specs.Prelude.{◌≡◌, ◌≢◌, cond, List, [], ◌∷◌, eqb}
use Rattle.std.proofs.Math.Path.{refl, sym, ap}
use Rattle.std.proofs.Common.{◌∙◌, inl, inr, ⊎_elim, arith}
use Prim.Native.Nat.{ℕ, zero, suc, ◌+◌, ◌-◌, ◌*◌, ◌^◌, ◌≤◌, ◌<◌}
use Rattle.std.proofs.Math.Nat.{mul-le-mul_right}
use Rattle.std.proofs.Math.ListN.{length}
use Rattle.std.proofs.Math.Pow.{pow-add}
use borrow.Author.Tests.{eq-eqb, ne_eqb}
use Rattle.sizes.specs.Sizes.{last_slot, slot_end}
use Rattle.routes.specs.Route.{Route, key, hop_at, remove}
use Rattle.logic.specs.Cases.{same}
use Rattle.laws.specs.Sorted.{hop_skip}
use Rattle.laws.specs.Collect.{collect_none, routes_hop}
use Rattle.routes.specs.Collect.{routes, route_of}
use Rattle.slots.specs.Taken.{taken}
use Rattle.tree.specs.Arrays.{Arrays, lev, held}
use Rattle.tree.specs.Shape.{Shape}
use Rattle.tree.specs.Tree.{used-level, reach, path}
use Rattle.tree.specs.Need.{Binary, binary, depth_high}
use Rattle.tree.specs.SlotSet.{TreeSlotSet, Place, same_shape, held-cases, held_place}

-- how many slots of array a are taken, if it is used, and how many of the arrays 1 .. n
abbrev pub taken_in : Arrays → ℕ → ℕ
taken_in t a = cond (eqb (t.tag a) 0) 0 (taken (t.slot a) last_slot)

unfoldable pub taken_to : Arrays → ℕ → ℕ
taken_to t zero = 0
taken_to t (suc n) = taken_to t n + taken_in t (suc n)

-- ---- a list that loses a route

pub length-remove : (k : ℕ) (rs : List Route) → hop_at rs k ≢ 0 → length rs ≡ suc (length (remove k rs))
length-remove k [] n = absurd (n refl)
length-remove k (r ∷ rs) n =
    same (key r) k (λ e q. rw q) (λ m q. rw q (ap suc (length-remove k rs (λ z. n (hop_skip r rs k m ∙ z)))))

-- ---- a taken slot

pub record One (f : ℕ → ℕ) (n : ℕ) : Type 0 where
  pub s : ℕ
  pub low : 1 ≤ s
  pub high : s ≤ n
  pub some : f s ≢ 0

pub one : (f : ℕ → ℕ) (n : ℕ) → taken f n ≢ 0 → One f n
unfolding taken
one f zero h = absurd (h refl)
one f (suc n) h =
    same (f (n + 1)) 0
    (λ z e. let o = one f n (λ q. h (rw (e, q))) in
    record { s = o.s; low = o.low; high = omega (arith, o.high); some = o.some })
    (λ z e. record { s = n + 1; low = omega arith; high = omega arith; some = z })

taken_none : (f : ℕ → ℕ) (n s : ℕ) → taken f n ≡ 0 → 1 ≤ s → s ≤ n → f s ≡ 0
unfolding taken
taken_none f zero s e h w = absurd (omega arith)
taken_none f (suc n) s e h w =
    same (f (n + 1)) 0
    (λ z q. same s (n + 1) (λ p _. rw p z) (λ p _. taken_none f n s (omega (arith, rw q at e)) h (omega arith)))
    (λ z q. absurd (omega (arith, rw q at e)))

-- f with slot s freed
abbrev freed : (ℕ → ℕ) → ℕ → ℕ → ℕ
freed f s r = cond (eqb r s) 0 (f r)

taken-below : (f : ℕ → ℕ) (s n : ℕ) → n < s → taken (freed f s) n ≡ taken f n
unfolding taken
taken-below f s zero h = refl
taken-below f s (suc n) h = rw (ne_eqb (n + 1) s (λ e. omega arith), taken-below f s n (omega arith))

taken-freed : (f : ℕ → ℕ) (s n : ℕ) → f s ≢ 0 → 1 ≤ s → s ≤ n → taken f n ≡ suc (taken (freed f s) n)
unfolding taken
taken-freed f s zero z h w = absurd (omega arith)
taken-freed f s (suc n) z h w =
    same (n + 1) s
    (λ e q. rw (q, taken-below f s n (omega arith), ne_eqb (f (n + 1)) 0 (λ o. z (rw (← e) o))) (omega arith))
    (λ e q. rw (q, taken-freed f s n z h (omega arith)) (omega arith))

-- ---- a taken slot of some array

pub record Some (t : Arrays) (n : ℕ) : Type 0 where
  pub a : ℕ
  pub low : 1 ≤ a
  pub high : a ≤ n
  pub used : t.tag a ≢ 0
  pub slot : One (t.slot a) last_slot

pub some : (t : Arrays) (n : ℕ) → taken_to t n ≢ 0 → Some t n
unfolding taken_to
some t zero h = absurd (h refl)
some t (suc n) h =
    same (t.tag (suc n)) 0
    (λ z e. more (some t n (λ q. h (rw (e, q)))))
    (λ z e. same (taken (t.slot (suc n)) last_slot) 0
    (λ p _. more (some t n (λ q. h (rw (e, q, p)))))
    (λ p _. record { a = suc n; low = omega arith; high = omega arith; used = z; slot = one (t.slot (suc n)) last_slot p }))
  where
    more : Some t n → Some t (suc n)
    more o = record { a = o.a; low = o.low; high = omega (arith, o.high); used = o.used; slot = o.slot }

none : (t : Arrays) (n a s : ℕ) → taken_to t n ≡ 0 → 1 ≤ a → a ≤ n → t.tag a ≢ 0 → 1 ≤ s → s < slot_end → t.slot a s ≡ 0
unfolding taken_to
none t zero a s e h w u l b = absurd (omega arith)
none t (suc n) a s e h w u l b =
    same a (suc n)
    (λ q _. (let z : taken (t.slot (suc n)) last_slot ≡ 0 = omega (arith, rw (ne_eqb (t.tag (suc n)) 0 (rw q at u)) at e) in
    rw q (taken_none (t.slot (suc n)) last_slot s z l (omega arith))))
    (λ q _. none t n a s (omega (arith, e)) h (omega arith) u l b)

-- t with slot s of array a freed
abbrev pub emptied : Arrays → ℕ → ℕ → Arrays
emptied t a s = record { tag = t.tag; link = t.link; slot = λ c. cond (eqb c a) (freed (t.slot c) s) (t.slot c) }

module _ (t : Arrays) (a s : ℕ) where
  abbrev pub u : Arrays
  u = emptied t a s

  total_below : (n : ℕ) → n < a → taken_to u n ≡ taken_to t n
  unfolding taken_to
  total_below zero h = refl
  total_below (suc n) h = rw (ne_eqb (suc n) a (λ e. omega arith), total_below n (omega arith))

  pub total_freed : (n : ℕ) → 1 ≤ a → a ≤ n → t.tag a ≢ 0 → 1 ≤ s → s ≤ last_slot → t.slot a s ≢ 0
      → taken_to t n ≡ suc (taken_to u n)
  unfolding taken_to
  total_freed zero h w p l b z = absurd (omega arith)
  total_freed (suc n) h w p l b z =
      same (suc n) a
      (λ e q. rw (
        q,
        total_below n (omega arith),
        ne_eqb (t.tag (suc n)) 0 (rw (← e) at p),
        taken-freed (t.slot (suc n)) s last_slot
            (rw (← e) at z) l b,
      ) (omega arith))
      (λ e q. rw (q, total_freed n h (omega arith) p l b z) (omega arith))

  pub slotted : TreeSlotSet t u a s 0
  slotted = record {
    tags = λ c h. refl;
    links = λ c i h w. refl;
    here = rw (eq-eqb a a refl, eq-eqb s s refl);
    slots = λ c r h l w n. same c a
        (λ e q. rw (q, ne_eqb r s (⊎_elim (λ (x : c ≢ a). absurd (x e)) (λ (x : r ≢ s). x) n)))
        (λ e q. rw q);
  }

-- length 0 is the root's
abbrev pub First : ℕ → Arrays → Type 0
First A t = (a : ℕ) → 1 ≤ a → a ≤ A → 2 ≤ lev t a → t.slot a 1 ≡ 0

module _ (A L : ℕ) where
  pub held_none : (t : Arrays) → Shape A L t → taken_to t A ≡ 0 → (v l : ℕ) → held t v l ≡ 0
  held_none t sh e =
      held-cases A L t sh (λ h. h ≡ 0) refl
      (λ a s some within used low high. none t A a s e some within (λ z. omega arith) low high)

  -- where a taken slot stands
  pub place : (t : Arrays) → Shape A L t → First A t → (o : Some t A) → (b : Binary o.slot.s)
      → Place A L t o.a (path t (lev t o.a - 1) o.a) (lev t o.a - 1) b.d b.x
  place t sh fi o b =
      let lv = used-level A L t sh o.a o.low o.high (omega (arith, o.used)) in
      let r = reach A L t sh (lev t o.a - 1) o.a o.low o.high (omega arith) in
      record {
        leads = r.leads;
        array = o.low;
        head = r.small;
        deep = depth_high b.d b.x o.slot.s b.whole (omega (arith, o.slot.high));
        own = same b.d 0
            (λ z _. inr (root z))
            (λ z _. inl (omega arith));
        small = b.less;
      }
    where
      root : b.d ≡ 0 → lev t o.a - 1 ≡ 0
      root z =
          let e : o.slot.s ≡ 1 = omega (arith, b.whole, b.less, ap (λ (n : ℕ). 2 ^ n) z) in
          same (lev t o.a - 1) 0 (λ q _. q) (λ q _. absurd (o.slot.some (rw e (fi o.a o.low o.high (omega arith)))))
