-- What `best` finds, said without its recursion: a held candidate of the prefix, of the lowest rank there. Assumes nothing.
use Rattle.std.specs.Prelude.{◌≡◌, refl, ◌≢◌, List, [], ◌∷◌, ℕ, suc, ◌≤◌}
use Rattle.std.proofs.Common.{◌∙◌, le_refl, arith}
use Rattle.std.proofs.Math.Option.{Option, none, some}
use Rattle.logic.specs.Cases.{less}
use Rattle.candidates.specs.Keyed.{Ordered, find, Every}
use Rattle.candidates.specs.Candidate.{Candidate, prefix_key, key}
use Rattle.candidates.specs.Winners.{rank, or_lower, best}
use Rattle.rivals.specs.Maps.{every_map, find_head, find_skip}
use Rattle.rivals.specs.Won.{Maybe, best_maybe}

-- the winner of the prefix k in cs is o
abbrev pub Lowest : ℕ → List Candidate → Option Candidate → Type 0
Lowest k cs none = Every (λ d. prefix_key d ≢ k) cs
Lowest k cs (some c) = (prefix_key c ≡ k) × Every (λ d. prefix_key d ≡ k → rank c ≤ rank d) cs

pub lower-lowest : (k : ℕ) (c : Candidate) (cs : List Candidate) (o : Option Candidate) → prefix_key c ≡ k → Lowest k cs o
    → Lowest k (c ∷ cs) (or_lower c o)
lower-lowest k c cs none q p = (
  q,
  (
    (λ _. le_refl _),
    every_map (λ d. prefix_key d ≢ k) (λ d. prefix_key d ≡ k → rank c ≤ rank d)
        (λ d n e. absurd (n e)) cs p,
  ),
)
lower-lowest k c cs (some b) q p =
    less (rank b) (rank c)
    (λ h t. rw t (p.0, ((λ _. omega arith), p.1)))
    (λ h t. rw t (
      q,
      (
        (λ _. le_refl _),
        every_map (λ d. prefix_key d ≡ k → rank b ≤ rank d) (λ d. prefix_key d ≡ k → rank c ≤ rank d)
            (λ d x e. (let y = x e in omega arith)) cs p.1,
      ),
    ))

-- ---- it is held

above : (lo : ℕ) (cs : List Candidate) → Ordered key lo cs → Every (λ c. lo ≤ key c) cs
above lo [] o = tt
above lo (c ∷ cs) o = (
  o.0,
  every_map (λ d. suc (key c) ≤ key d) (λ d. lo ≤ key d) (λ d h. (let l = o.0 in omega arith)) cs
      (above (suc (key c)) cs o.1),
)

-- of two things that each has
pub each_both : (P Q R : Candidate → Type 0) → ((c : Candidate) → P c → Q c → R c) → (cs : List Candidate)
    → Every P cs → Every Q cs → Every R cs
each_both P Q R f [] p q = tt
each_both P Q R f (c ∷ cs) p q = (f c p.0 q.0, each_both P Q R f cs p.1 q.1)

self_found : (lo : ℕ) (cs : List Candidate) → Ordered key lo cs → Every (λ c. find key cs (key c) ≡ some c) cs
self_found lo [] o = tt
self_found lo (c ∷ cs) o = (
  find_head key c cs (key c) refl,
  each_both (λ d. suc (key c) ≤ key d) (λ d. find key cs (key d) ≡ some d) (λ d. find key (c ∷ cs) (key d) ≡ some d)
      (λ d h e. find_skip key c cs (key d) (λ z. omega arith) ∙ e) cs (above (suc (key c)) cs o.1)
      (self_found (suc (key c)) cs o.1),
)

pub best-held : (cs : List Candidate) (k : ℕ) → Ordered key 0 cs → Maybe (λ c. find key cs (key c) ≡ some c) (best cs k)
best-held cs k o = best_maybe (λ c. find key cs (key c) ≡ some c) cs k (self_found 0 cs o)
