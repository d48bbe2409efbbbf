-- How many prefixes lie inside a given one, asked by the call and from C: of the whole it is the number of prefixes that the
-- words hold, and words that agree on the path of the given one give the same answer. Assumes nothing.
--
--     within(0.0.0.0/0)  ──▶  as many as the list has prefixes, each once, however many candidates it has
--     within(10.1.0.0/16) ──▶  of the root, the array of 10 and their totals alone
use Rattle.std.specs.Prelude.{◌≡◌, List, ℕ, ◌^◌, ◌<◌, length, Result}
use Rattle.std.proofs.Common.{sym, ap, ◌∙◌, arith, le-ltb}
use Rattle.routes.specs.Family.{Family, levels, width}
use Rattle.routes.specs.Room.{level}
use Rattle.routes.specs.Seen.{Answer, gives}
use Rattle.routes.specs.Collect.{routes}
use Rattle.laws.specs.Families.{levels_some, levels_few}
use Rattle.laws.specs.Longest.{routes_wfs}
use Rattle.candidates.specs.Candidate.{Candidate}
use Rattle.candidates.specs.Winners.{winners}
use Rattle.candidates.specs.Seen.{table}
use Rattle.numbers.specs.Agree.{stray_zero}
use Rattle.tree.specs.Arrays.{held}
use Rattle.inside.specs.Inside.{prefixes_inside}
use Rattle.inside.specs.Held.{inside_whole}
use Rattle.inside.specs.Seen.{asked, within_on}
use Rattle.words.specs.Words.{arrays_of}
use Rattle.words.specs.Table.{seen}
use Rattle.words.specs.View.{table_of}
use Rattle.words.specs.Stock.{table_winners}
use Rattle.within.specs.Walk.{walk}
use Rattle.within.specs.Answer.{within_answer, within_one}
use Rattle.within.specs.Counted.{within_seen_lem}
use Rattle.within.specs.Local.{AlikeOn, within_local}
use Rattle.refusals.specs.declared.Refusal.{Refusal}
use Rattle.answers.specs.Numbers.{totalled}
use Rattle.answers.specs.declared.Total.{Total}

-- what a call of within promises on words ws
abbrev pub Asked : Family → List ℕ → ℕ → ℕ → Result ℕ Refusal → Type 0
Asked F ws a l r = within_answer r ≡ within_on (width F) (seen (levels F) ws) (walk (levels F) ws a l) a l

-- toggleash_within
abbrev pub AskedC : Family → List ℕ → ℕ → ℕ → Total → Type 0
AskedC F ws a l r = r ≡ totalled (within_on (width F) (seen (levels F) ws) (walk (levels F) ws a l) a l)

-- ---- words that agree on the path

module _ (F : Family) (ws us : List ℕ) (a l : ℕ) (fits : a < 2 ^ width F) (size : length us ≡ length ws)
    (f : AlikeOn (levels F) ws us a (level l)) where
  same_on : within_on (width F) (seen (levels F) us) (walk (levels F) us a l) a l
      ≡ within_on (width F) (seen (levels F) ws) (walk (levels F) ws a l) a l
  same_on =
      sym (within_seen_lem (levels F) us a l (levels_some F) (omega (arith, levels_few F)) fits)
      ∙ within_local (levels F) ws us a l (levels_some F) size f
      ∙ within_seen_lem (levels F) ws a l (levels_some F) (omega (arith, levels_few F)) fits

  pub path_alone : (r s : Result ℕ Refusal) → Asked F ws a l r → Asked F us a l s → r ≡ s
  path_alone r s p q = within_one r s (p ∙ sym same_on ∙ sym q)

  pub path_alone_c : (r s : Total) → AskedC F ws a l r → AskedC F us a l s → r ≡ s
  path_alone_c r s p q = p ∙ ap totalled (sym same_on) ∙ sym q

-- ---- the whole

-- it is a prefix of every width
whole_asked : (W : ℕ) (r : Answer ℕ) → asked W 0 0 r ≡ r
whole_asked W r = rw (le-ltb W 0 (omega arith), ← stray_zero W 0)

-- all prefixes of a table's list lie inside 0.0.0.0/0, and ::/0
module _ (F : Family) (ws : List ℕ) (A : ℕ) (cs : List Candidate) (e : seen (levels F) ws ≡ table A cs) where
  all_inside : prefixes_inside (width F) cs 0 0 ≡ length (winners cs)
  all_inside =
      let t = table_of (levels F) ws (levels_some F) (omega (arith, levels_few F)) A cs e in
      let w : winners cs ≡ routes (width F) (held (arrays_of ws)) =
      ap winners t.list ∙ table_winners (levels F) ws t.table in
      rw w (inside_whole (width F) (routes (width F) (held (arrays_of ws))) (routes_wfs (width F) (held (arrays_of ws))))

  pub whole_counts : (r : Result ℕ Refusal) → Asked F ws 0 0 r → within_answer r ≡ gives (length (winners cs))
  whole_counts r p = p ∙ rw (e, whole_asked (width F) (gives (prefixes_inside (width F) cs 0 0))) (ap gives all_inside)

  pub whole_counts_c : (r : Total) → AskedC F ws 0 0 r → r ≡ record { refusal = 0; prefixes = length (winners cs) }
  whole_counts_c r p =
      p ∙ rw (e, whole_asked (width F) (gives (prefixes_inside (width F) cs 0 0))) (ap (λ (n : ℕ). totalled (gives n)) all_inside)
