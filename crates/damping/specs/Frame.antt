-- What an update or a tick through a front leaves of the table's words: where what is seen stays, every word, and every array off
-- the paths of the prefixes that the table is called for. Assumes nothing.
use Rattle.std.specs.Prelude.{◌≡◌, refl, ◌⊎◌, List, ℕ, ◌≤◌}
use Rattle.std.proofs.Common.{sym, ◌∙◌, inl, inr, ⊎_elim, arith}
use Rattle.candidates.specs.Answers.{Update}
use Rattle.words.specs.Table.{seen}
use Rattle.words.specs.View.{seen-cases}
use Rattle.paths.specs.Alike.{Alike}
use Rattle.replies.specs.declared.Reply.{Reply}
use Rattle.update.specs.Anywhere.{local_words}
use Rattle.update.specs.Update.{Touches, HasUpdated}
use Rattle.damping.specs.Update.{HasDamped}
use Rattle.damping.specs.Behind.{Installs, none, next}

module _ {fs ws gs vs : List ℕ} {u : Update} {r : Reply} (p : HasDamped fs ws gs vs u r) where
  pub still : seen 4 vs ≡ seen 4 ws → vs ≡ ws
  still e = ⊎_elim (λ (q : vs ≡ ws). q) (λ (h : HasUpdated 4 ws vs u r). h.still e) p.behind

  pub frame : (c : ℕ) → 1 ≤ c → ¬ Touches 4 u ws vs c → Alike ws vs c
  frame c h n =
      ⊎_elim (λ (q : vs ≡ ws). rw q (λ w b. refl))
      (λ (k : HasUpdated 4 ws vs u r). k.frame c h n) p.behind

  -- or else they are those that the table's own local call of the update leaves
  pub words : (vs ≡ ws) ⊎ (vs ≡ local_words 4 ws u)
  words =
      ⊎_elim (λ (q : vs ≡ ws). inl q)
      (λ (k : HasUpdated 4 ws vs u r).
      seen-cases 4 ws (omega arith) (omega arith)
      (λ _ s. inl (k.still ((rw s at k.list) ∙ sym s)))
      (λ _ _ s. inl (k.still ((rw s at k.list) ∙ sym s)))
      (λ _ _ t _. inr (k.words t)))
      p.behind

-- ---- ticks

-- array c is off the path of each prefix that is installed
abbrev pub Off : {ws vs : List ℕ} {xs : List Update} → ℕ → Installs ws xs vs → Type 0
Off c none = Unit {0}
Off c (next {ws = ws} {us = us} {u = u} i s) = (¬ Touches 4 u ws us c) × Off c s

pub installs_frame : {ws vs : List ℕ} {xs : List Update} (s : Installs ws xs vs) (c : ℕ) → 1 ≤ c → Off c s → Alike ws vs c
installs_frame none c h o w b = refl
installs_frame (next i s) c h o w b = installs_frame s c h o.1 w b ∙ i.call.frame c h o.0 w b
