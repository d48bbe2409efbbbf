-- A table stands for a list of candidates, and for one only, of as many as words of slots are taken. Assumes nothing.
--
--     words ── paths lead to slots ──► word of each prefix and feed ── at most one list holds these ──► list_of
use Rattle.std.specs.Prelude.{◌≡◌, ℕ, ◌+◌, ◌-◌, ◌*◌, ◌/◌, ◌^◌, ◌<◌, ◌≤◌, ◌≢◌, List, [], ◌∷◌, length, refl}
use Rattle.std.proofs.Common.{sym, ◌∙◌, arith, shr_lt}
use Rattle.std.proofs.Math.Option.{Option, none, some, none-ne-some}
use Rattle.logic.specs.Cases.{same}
use Rattle.laws.specs.Longest.{whole}
use Rattle.candidates.specs.Keyed.{find, Every}
use Rattle.candidates.specs.Candidate.{Candidate, place, key, IsCandidate, IsList}
use Rattle.rivals.specs.Maps.{ext}
use Rattle.slots.specs.Word.{IsFeed}
use Rattle.gather.specs.Gather.{meant}
use Rattle.gather.proofs.Found.{gathered-find}
use Rattle.gather.specs.Views.{word_held}
use Rattle.gather.proofs.Views.{tree_list}
use Rattle.gather.specs.Counted.{candidates_of}
use Rattle.gather.proofs.Counted.{tree_count}
use Rattle.words.specs.Words.{feeds_of, array_count}
use Rattle.words.specs.Table.{list_of}
use Rattle.words.specs.TableBut.{Table}

module _ (L : ℕ) (ws : List ℕ) (ok : Table L ws) where
  pub table_wide : 8 * L < 256
  table_wide = omega (arith, ok.shape.levels)

  pub table_list : IsList (8 * L) (list_of L ws)
  table_list = tree_list (array_count ws) L (feeds_of ws) ok.shape ok.words (8 * L) table_wide

-- ---- one list only

-- cs is a list of candidates, and holds for each prefix of l bits v and each feed what the word stands for that the prefix's path
-- leads to
pub record StandsFor (L : ℕ) (ws : List ℕ) (cs : List Candidate) : Type 0 where
  pub list : IsList (8 * L) cs
  pub holds : (v l f : ℕ) → l ≤ 8 * L → v < 2 ^ l → IsFeed f
      → find key cs (place (v * 2 ^ (8 * L - l)) l f) ≡ meant (8 * L - l) v l f (word_held (feeds_of ws) v l f)

pub stands_list : (L : ℕ) (ws : List ℕ) → Table L ws → StandsFor L ws (list_of L ws)
stands_list L ws ok = record {
  list = table_list L ws ok;
  holds = λ v l f h b y. gathered-find (8 * L) (table_wide L ws ok) (word_held (feeds_of ws)) v l f h b y;
}

-- the candidate found at a key
record At (W k : ℕ) : Type 0 where
  pub c : Candidate
  pub is_one : IsCandidate W c
  pub is : key c ≡ k

found_at : (W k : ℕ) (cs : List Candidate) → Every (IsCandidate W) cs → find key cs k ≢ none → At W k
found_at W k [] a n = absurd (n refl)
found_at W k (c ∷ cs) a n =
    same (key c) k
    (λ e _. record { c = c; is_one = a.0; is = e })
    (λ m t. found_at W k cs a.1 (λ z. n (rw t z)))

-- none, or some
cases : {P : Type 0} {T : Type 0} (o : Option T) → (o ≡ none → P) → (o ≢ none → P) → P
cases none x y = x refl
cases (some c) x y = y (λ e. none-ne-some c (sym e))

module _ (L : ℕ) (ws : List ℕ) where
  key-held : (cs : List Candidate) → StandsFor L ws cs → (c : Candidate) → IsCandidate (8 * L) c
      → find key cs (key c) ≡ meant (8 * L - c.len) (c.addr / 2 ^ (8 * L - c.len)) c.len c.feed
      (word_held (feeds_of ws) (c.addr / 2 ^ (8 * L - c.len)) c.len c.feed)
  key-held cs s c w =
      let r = w.route.wf in
      let e : c.len + (8 * L - c.len) ≡ 8 * L = omega (arith, r.fits) in
      rw (whole (8 * L) _ r) at (s.holds (c.addr / 2 ^ (8 * L - c.len)) c.len c.feed r.fits
      (shr_lt c.len (8 * L - c.len) (rw e r.inside)) (record { low = w.low; high = w.high }))

  -- what one of two such lists has at a key, the other has
  same_found : (cs ds : List Candidate) → StandsFor L ws cs → StandsFor L ws ds → (k : ℕ) → find key cs k ≢ none
      → find key cs k ≡ find key ds k
  same_found cs ds s u k n =
      let p = found_at (8 * L) k cs s.list.candidates n in
      rw p.is at (key-held cs s p.c p.is_one ∙ sym (key-held ds u p.c p.is_one))

  pub stands_one : (cs ds : List Candidate) → StandsFor L ws cs → StandsFor L ws ds → cs ≡ ds
  stands_one cs ds s u =
      ext key 0 cs ds s.list.sorted u.list.sorted (λ k.
      cases (find key cs k)
      (λ e. cases (find key ds k) (λ f. e ∙ sym f) (λ n. sym (same_found ds cs u s k n)))
      (λ n. same_found cs ds s u k n))

-- ---- how many candidates

-- as many words of slots are taken as the list has candidates
pub taken-length : (L : ℕ) (ws : List ℕ) → Table L ws → candidates_of (feeds_of ws) (array_count ws) ≡ length (list_of L ws)
taken-length L ws ok =
    sym (tree_count (array_count ws) L (feeds_of ws) ok.shape (λ a h w l. (ok.right a h w (omega arith)).first l) ok.words)
