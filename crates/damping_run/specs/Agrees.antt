-- On any words, table or not, two local runs through a front that begin alike end alike: in the answer, in the reply bytes and in
-- every word of both memories. Assumes nothing.
use Rattle.std.specs.Prelude.{◌≡◌, refl, ◌≢◌, List, ◌++◌, ℕ, length, drop, Ok}
use Rattle.std.proofs.Common.{sym, ap, ◌∙◌}
use Rattle.logic.specs.Cases.{same}
use Rattle.routes.specs.Answers.{Reply}
use Rattle.replies.specs.Said.{said_reply}
use Rattle.replies.specs.declared.Reply as code
use Rattle.feed.specs.Runs.{Ran}
use Rattle.refusals.specs.Number.{refusal_of}
use Rattle.front.specs.Front.{Event}
use Rattle.front.specs.Runs.{event_at}
use Rattle.damping.specs.Locally.{refusal_before}
use Rattle.damping.specs.Agrees as damping
use Rattle.damping_run.specs.Locally.{AskedLocally, updated, looked, ticked, Note, blank, noted, halts_at, Gone, nowhere}
use Rattle.damping_run.specs.Locally.{further, report_at, RanLocally, HasRunLocally}

-- ---- one record or tick

asked_agrees : {fs ws gs vs hs us : List ℕ} {e : Event} {y z : Reply} → AskedLocally fs ws e y gs vs
    → AskedLocally fs ws e z hs us → (y ≡ z) × (gs ≡ hs) × (vs ≡ us)
asked_agrees {fs} {ws} {gs} {vs} {hs} {us} (updated {u} r p) (updated s q) =
    (let a = damping.local_agrees fs ws gs vs hs us u r s p q in (ap (λ (x : code.Reply). said_reply x) a.0, a.1, a.2))
asked_agrees (looked r p) (looked s q) = (p ∙ sym q, refl, refl)
asked_agrees {fs} {ws} {gs} {vs} {hs} {us} (ticked p) (ticked q) =
    (let a = damping.ticked_agrees fs ws gs vs hs us p q in (refl, a.0, a.1))

-- ---- one after the other

module _ (feed : List ℕ) (room : ℕ) where
  -- from one note and its words to another
  data Left : Note → List ℕ → List ℕ → Note → List ℕ → List ℕ → Type 0 where
    ended : {n : Note} {fs ws : List ℕ} → Left n fs ws n fs ws
    turned : {n m : Note} {fs ws gs vs hs us : List ℕ} {y : Reply} → halts_at feed room n ≡ 5
        → AskedLocally fs ws (event_at feed n.consumed) y gs vs → Left (noted feed n y) gs vs m hs us → Left n fs ws m hs us

  left_more : {n m : Note} {fs ws gs vs hs us : List ℕ} {y : Reply} → Left n fs ws m gs vs → halts_at feed room m ≡ 5
      → AskedLocally gs vs (event_at feed m.consumed) y hs us → Left n fs ws (noted feed m y) hs us
  left_more ended e a = turned e a ended
  left_more (turned f b l) e a = turned f b (left_more l e a)

  gone_left : {fs ws gs vs : List ℕ} {n : Note} → Gone feed room fs ws n gs vs → Left blank fs ws n gs vs
  gone_left nowhere = ended
  gone_left (further g e a) = left_more (gone_left g) e a

  -- both go on until a test stops them
  left_agrees : {n m k : Note} {fs ws gs vs hs us : List ℕ} → Left n fs ws m gs vs → halts_at feed room m ≢ 5
      → Left n fs ws k hs us → halts_at feed room k ≢ 5 → (m ≡ k) × (gs ≡ hs) × (vs ≡ us)
  left_agrees ended h ended j = (refl, refl, refl)
  left_agrees ended h (turned e a l) j = absurd (h e)
  left_agrees (turned e a l) h ended j = absurd (j e)
  left_agrees (turned e a l) h (turned f b q) j =
      let o = asked_agrees a b in left_agrees l h (rw (sym o.0, sym o.1, sym o.2) at q) j

-- ---- the run

module _ (fs ws feed b gs vs c hs us d : List ℕ) (r s : Ran) where
  ran_agrees : RanLocally fs ws feed b gs vs c r → RanLocally fs ws feed b hs us d s
      → (r ≡ s) × (gs ≡ hs) × (vs ≡ us) × (c ≡ d)
  ran_agrees p q =
      let o = left_agrees feed (length b) (gone_left feed (length b) p.gone) p.stopped (gone_left feed (length b) q.gone)
      q.stopped in (
        p.answer ∙ ap (λ (n : Note). Ok (report_at (halts_at feed (length b) n) n)) o.0 ∙ sym q.answer,
        o.1,
        o.2,
        p.replies ∙ ap (λ (n : Note). n.replies ++ drop (length n.replies) b) o.0 ∙ sym q.replies,
      )

  pub local_agrees : HasRunLocally fs ws feed b gs vs c r → HasRunLocally fs ws feed b hs us d s
      → (r ≡ s) × (gs ≡ hs) × (vs ≡ us) × (c ≡ d)
  local_agrees p q =
      same (refusal_before fs ws 0) 0
      (λ z _. ran_agrees (p.work z) (q.work z))
      (λ n _. (let x = p.kept (refusal_of (refusal_before fs ws 0)) (p.first n) in
      let y = q.kept (refusal_of (refusal_before fs ws 0)) (q.first n) in
      (p.first n ∙ sym (q.first n), x.0 ∙ sym y.0, x.1 ∙ sym y.1, x.2 ∙ sym y.2)))
