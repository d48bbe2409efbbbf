-- On any words, table or not, two local calls through a front that begin alike end alike: in the answer and in every word of both
-- memories. Assumes nothing.
use Rattle.std.specs.Prelude.{◌≡◌, refl, cond, List, ◌∷◌, ℕ}
use Rattle.std.proofs.Common.{sym, ap, ◌∙◌, true≢false}
use Rattle.logic.specs.Cases.{bool, same}
use Rattle.routes.specs.Answers.{Reply, is_done, is_refused}
use Rattle.routes.specs.Seen.{gives}
use Rattle.candidates.specs.Answers.{Update}
use Rattle.replies.specs.Said.{said_reply, reply_one}
use Rattle.replies.specs.declared.Reply as code
use Rattle.update.specs.Fault.{fault_of}
use Rattle.front.specs.Place.{Place, marked}
use Rattle.front.specs.Front.{keeping}
use Rattle.front.specs.Seen.{held_in}
use Rattle.rows.specs.Row.{places_of}
use Rattle.rows.specs.One.{one_words}
use Rattle.charge.specs.Calls.{Became}
use Rattle.release.specs.Settle.{settled}
use Rattle.damping.specs.Work.{held_back, charged_by, Damped}
use Rattle.damping.specs.Locally.{refusal_before, HasDampedLocally}
use Rattle.damping.specs.Tick.{TriedOn, calm, announced, TriesOn, nothing, more, TickedLocally}
use Rattle.damping.specs.Ticks.{HasTickedLocally}
use Rattle.damping.specs.Sharp.{check_one}
use Rattle.refusals.specs.Number.{refusal_of}
use Rattle.damping.specs.Held.{Checked}

-- words of a front that stand for the same places are the same
became_one : (gs hs : List ℕ) (ps qs : List Place) → ps ≡ qs → Became gs ps → Became hs qs → gs ≡ hs
became_one gs hs ps qs e b c = one_words gs hs b.words c.words (b.places ∙ e ∙ sym c.places)

-- ---- updates

module _ (fs ws gs vs hs us : List ℕ) (u : Update) (r s : code.Reply) where
  damped_agrees : Damped fs ws gs vs u r → Damped fs ws hs us u s → (r ≡ s) × (gs ≡ hs) × (vs ≡ us)
  damped_agrees p q =
      bool (held_back (places_of fs) u)
      (λ b. (let x = p.aside b in
      let y = q.aside b in (
        reply_one r s (x.answer ∙ sym y.answer),
        became_one gs hs _ _ refl x.places y.places,
        x.behind ∙ sym y.behind,
      )))
      (λ b. (let x = p.passed b in
      let y = q.passed b in
      let e : said_reply r ≡ said_reply s = x.call.answer ∙ sym y.call.answer in (
        reply_one r s e,
        became_one gs hs _ _ (ap (λ (z : Reply). charged_by z u (places_of fs)) e) x.places y.places,
        x.call.words ∙ sym y.call.words,
      )))

  pub local_agrees : HasDampedLocally fs ws gs vs u r → HasDampedLocally fs ws hs us u s → (r ≡ s) × (gs ≡ hs) × (vs ≡ us)
  local_agrees p q =
      same (refusal_before fs ws (fault_of 32 u)) 0
      (λ z _. damped_agrees (p.work z) (q.work z))
      (λ n _. (let x = p.kept (ap (λ (y : code.Reply). is_refused (said_reply y)) (p.first n)) in
      let y = q.kept (ap (λ (z : code.Reply). is_refused (said_reply z)) (q.first n)) in
      (p.first n ∙ sym (q.first n), x.0 ∙ sym y.0, x.1 ∙ sym y.1)))

-- ---- ticks

one_agrees : {ws us xs : List ℕ} {p q s : Place} → TriedOn ws p q us → TriedOn ws p s xs → (q ≡ s) × (us ≡ xs)
one_agrees (calm e) (calm d) = (refl, refl)
one_agrees (calm e) (announced r d c) = absurd (true≢false (sym d ∙ e))
one_agrees (announced r d c) (calm e) = absurd (true≢false (sym d ∙ e))
one_agrees {p = p} (announced r d c) (announced s f g) = (
  ap (λ (y : Reply). marked p (cond (is_done y) (keeping p.mark 0) p.mark)) (c.answer ∙ sym g.answer),
  c.words ∙ sym g.words,
)

tries_agrees : {ws vs us : List ℕ} {ps qs ss : List Place} → TriesOn ws ps qs vs → TriesOn ws ps ss us → (qs ≡ ss) × (vs ≡ us)
tries_agrees nothing nothing = (refl, refl)
tries_agrees (more y s) (more z t) =
    let o = one_agrees y z in
    let n = tries_agrees s (rw (sym o.1) at t) in
    (λ i. o.0 i ∷ n.0 i, n.1)

module _ (fs ws gs vs hs us : List ℕ) where
  pub ticked_agrees : TickedLocally fs ws gs vs → TickedLocally fs ws hs us → (gs ≡ hs) × (vs ≡ us)
  ticked_agrees p q =
      let n = tries_agrees p.tries q.tries in
      (became_one gs hs _ _ (ap settled n.0) p.places q.places, n.1)

  pub tick_local_agrees : (r s : Checked) → HasTickedLocally fs ws gs vs r → HasTickedLocally fs ws hs us s
      → (r ≡ s) × (gs ≡ hs) × (vs ≡ us)
  tick_local_agrees r s p q =
      same (refusal_before fs ws 0) 0
      (λ z _. (let a = ticked_agrees (p.work z) (q.work z) in
      let e = p.answer z ∙ ap (λ (x : List ℕ). gives (held_in (places_of x))) a.0 ∙ sym (q.answer z) in
      (check_one r s e, a.0, a.1)))
      (λ n _. (let x = p.kept (refusal_of (refusal_before fs ws 0)) (p.first n) in
      let y = q.kept (refusal_of (refusal_before fs ws 0)) (q.first n) in
      (p.first n ∙ sym (q.first n), x.0 ∙ sym y.0, x.1 ∙ sym y.1)))
