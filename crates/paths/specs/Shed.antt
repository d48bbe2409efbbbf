-- Arrays released upwards on any words whose tags lead up to the root: the arrays that are none of those on the way stay, and the
-- tags of the rest lead up still. Assumes nothing.
use Rattle.std.specs.Prelude.{◌≡◌, refl, ◌≢◌, Bool, true, cond, length, get_or}
use Rattle.std.proofs.Math.Path.{sym, ap}
use Rattle.std.proofs.Common.{◌∙◌, inl, arith}
use Rattle.std.proofs.Math.Bool.{not}
use mathlib.Core.List.{List}
use Prim.Native.Nat.{ℕ, zero, suc, ◌+◌, ◌-◌, ◌≤◌, ◌<◌}
use borrow.Author.Tests.{not-true}
use Rattle.sizes.specs.Sizes.{most_words, array_at}
use Rattle.array.specs.Tag.{parent_in, level_in}
use Rattle.array.specs.Check.{bare_b}
use Rattle.array.specs.Frame.{page_of}
use Rattle.tree.specs.Arrays.{lev}
use Rattle.words.specs.Words.{arrays_of}
use Rattle.words.specs.TableBut.{RightSlotsOf}
use Rattle.words.specs.Gained.{released_in, Releases, ReleasedAny}
use Rattle.words.specs.Rehung.{any_word, any_tags, any_cell}
use Rattle.words.specs.Rises.{Rises, SameUp, Above, Off, off_here, off_above, off_same}
use Rattle.words.specs.Rises.{rises_some, rises_inside, rises_level, rises_above, rises_same, rises_top}
use Rattle.words.specs.Climbing.{Climbing}
use Rattle.paths.specs.Alike.{Alike}
use Rattle.paths.specs.Shrunk.{bare, EmptyAllowed, Shrunk, Pruned, shrunk_none, shrunk_slots, prune_root, prune_some}
use Rattle.paths.specs.Shrunk.{can_release_right, shrink}

-- the words with array b, and those above it, released while they are empty; b stands n levels below the root
unfoldable pub pruned_to : ℕ → List ℕ → ℕ → List ℕ
pruned_to zero ws b = ws
pruned_to (suc n) ws b = cond (bare_b (page_of ws b)) (pruned_to n (released_in ws b) (parent_in (get_or ws (array_at b) 0))) ws

abbrev pub pruned : List ℕ → ℕ → List ℕ
pruned ws a = pruned_to (lev (arrays_of ws) a - 1) ws a

-- vs is ws with a and arrays above it released up to b; of a table but for a, that is left
pub record Shed (ws vs : List ℕ) (a b : ℕ) : Type 0 where
  pub n : ℕ
  pub rises : Rises vs n b
  pub left : pruned_to n vs b ≡ pruned ws a
  pub size : length vs ≡ length ws
  pub spared : (m c : ℕ) → Rises ws m a → 1 ≤ c → Off (arrays_of ws) m a c → Off (arrays_of vs) n b c × Alike ws vs c
  pub right : (L : ℕ) → EmptyAllowed L ws a → Shrunk L ws vs a b

pub record PrunedAny (ws vs : List ℕ) (a : ℕ) : Type 0 where
  pub is : vs ≡ pruned ws a
  pub size : length vs ≡ length ws
  pub spared : (m c : ℕ) → Rises ws m a → 1 ≤ c → Off (arrays_of ws) m a c → Alike ws vs c
  pub right : (L : ℕ) → EmptyAllowed L ws a → Pruned L ws vs a

pub shed_none : (ws : List ℕ) (a : ℕ) → Climbing ws a → Shed ws ws a a
shed_none ws a g = record {
  n = g.n;
  rises = g.rises;
  left = (let e : lev (arrays_of ws) a - 1 ≡ g.n = omega (arith, rises_level ws g.n a g.rises) in rw e);
  size = refl;
  spared = λ m c r h o.
      let e : m ≡ g.n = omega (arith, rises_level ws m a r, rises_level ws g.n a g.rises) in
      (rw (← e) o, λ w b. refl);
  right = λ L. shrunk_none L ws a;
}

module _ {ws vs : List ℕ} {a b : ℕ} (s : Shed ws vs a b) where
  pub shed_inside : array_at (b + 1) ≤ length vs
  shed_inside = rises_inside vs s.n b s.rises

  done : vs ≡ pruned_to s.n vs b → ((L : ℕ) → EmptyAllowed L ws a → Pruned L ws vs a) → PrunedAny ws vs a
  done e p = record { is = e ∙ s.left; size = s.size; spared = λ m c r h o. (s.spared m c r h o).1; right = p }

  pub shed_root : b ≡ 1 → PrunedAny ws vs a
  unfolding pruned_to
  shed_root e =
      let z = rises_top vs s.n b s.rises e in
      done (rw z) (λ L x. prune_root (s.right L x) e)

  -- b holds something, as its test tells of right words
  pub shed_some : (r : Bool) → b ≢ 1 → r ≡ bare_b (page_of vs b) → (RightSlotsOf vs b → r ≡ bare vs b) → not r ≡ true
      → PrunedAny ws vs a
  unfolding pruned_to
  shed_some r low be t n =
      let e : s.n ≡ suc (rises_above vs s.n b s.rises low).m = (rises_above vs s.n b s.rises low).is in
      done (rw (e, sym be ∙ not-true r n))
      (λ L x. prune_some (s.right L x) (ap not (sym (t (shrunk_slots (s.right L x)))) ∙ n))

  module _ (high : length vs ≤ most_words) (low : b ≢ 1) where
    up : Above vs s.n b
    up = rises_above vs s.n b s.rises low

    abbrev p : ℕ
    p = parent_in (get_or vs (array_at b) 0)

    above : lev (arrays_of vs) (parent_in (get_or vs (array_at b) 0)) ≡ up.m + 1
    above = rises_level vs up.m p up.rest

    apart : parent_in (get_or vs (array_at b) 0) ≢ b
    apart e = omega (arith, above, up.rung.level, ap (lev (arrays_of vs)) e)

    pub shed_releases : Releases vs b
    shed_releases = record {
      size = high;
      parent = rises_some vs up.m p up.rest;
      inside = rises_inside vs up.m p up.rest;
      cells = omega arith;
      some = omega (arith, rises_some vs s.n b s.rises);
      within = up.rung.inside;
      apart = apart;
      small = up.rung.small;
    }

    module _ (us : List ℕ) (re : ReleasedAny vs us b) where
      same_up : SameUp vs us up.m
      same_up = record {
        size = re.any.size;
        tags = λ c h l w. any_tags shed_releases re.any c h
            (λ e. omega (arith, up.rung.level, ap (lev (arrays_of vs)) e));
        cells = λ c i h l w v. any_cell shed_releases re.any c i h v (λ e. omega (arith, above, ap (lev (arrays_of vs)) e));
      }

      left : Rises us up.m (parent_in (get_or vs (array_at b) 0))
      left = rises_same vs us up.m p same_up up.rest

      -- with b empty, as its test tells of right words
      pub shed_more : (r : Bool) → r ≡ bare_b (page_of vs b) → (RightSlotsOf vs b → r ≡ bare vs b) → r ≡ true
          → Shed ws us a (parent_in (get_or vs (array_at b) 0))
      unfolding pruned_to
      shed_more r be t e = record {
        n = up.m;
        rises = left;
        left = ap (λ (xs : List ℕ). pruned_to up.m xs p) re.is ∙ (rw (up.is, sym be ∙ e) at s.left);
        size = re.any.size ∙ s.size;
        spared = λ m c g h o.
            let x = s.spared m c g h o in
            let y : Off (arrays_of vs) (suc up.m) b c = rw (← up.is) x.0 in
            let z = off_above (arrays_of vs) up.m b c y in (
              off_same vs us up.m p c same_up up.rest z,
              λ w v. any_word shed_releases re.any c w h v (off_here (arrays_of vs) up.m p c z)
                  (inl (off_here (arrays_of vs) (suc up.m) b c y)) ∙ x.1 w v,
            );
        right = λ L g. (let k = s.right L g in
            let f = sym (t (shrunk_slots k)) ∙ e in
            shrink k low f us (re.right (can_release_right k low f)));
      }

      pub shed_falls : level_in (get_or us (array_at (parent_in (get_or vs (array_at b) 0))) 0)
          < level_in (get_or vs (array_at b) 0)
      shed_falls = omega (arith, rises_level us up.m p left, up.rung.level)
