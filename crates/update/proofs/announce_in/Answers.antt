-- `update::announce_in` meets its contract: by the fault of the size or of the announcement, or by the work's promise. `find` tells whether
-- the path test passes, where the prefix stands and which word the feed has there; `extend` refuses, or hangs the arrays that the path lacks,
-- none where the prefix has a candidate; then the word is set. Assumes nothing.
use Rattle.std.proofs.Common.{refl, sym, ◌∙◌, length, arith, inl, inr}
use Rattle.std.proofs.lemmas.Result.{err_from_is_err_and}
use Rattle.numbers.specs.Number.{number}
use Rattle.update.specs.Fault.{sound-route}
use Rattle.update.specs.Local.{local_two, local_same, local_full, local_astray, local_announced}
use Rattle.update.specs.Locally.{locally_faulty, locally_tried}
use Rattle.update.proofs.announce_in.Goals as goal

pub returns-in_err-announce_fault : goal.returns-in_err-announce_fault
returns-in_err-announce_fault c =
    let p = err_from_is_err_and c.from_residual-in_err-announce_fault.result c.from_residual-in_err-announce_fault.ensures.1 in
    rw (p.1, p.2) (locally_faulty (sym c.in_ok-size_fault.ensures) _ c.in_err-announce_fault.ensures)

pub returns-in_err-found : goal.returns-in_err-found
returns-in_err-found c =
    let a = c.args in
    let p = err_from_is_err_and c.from_residual-in_err-found.result c.from_residual-in_err-found.ensures.1 in
    let s = c.in_err-found.ensures in
    let q = sound-route (length a.address.now) (number a.address.now) a.length a.hop a.feed 0 (sym c.in_ok-announce_fault.ensures) in
    rw (p.1, p.2, s.0)
    (locally_tried (sym c.in_ok-size_fault.ensures) (sym c.in_ok-announce_fault.ensures)
    (local_two q.prefix q.feed s.1.sought _ refl refl refl))

pub returns-then-found-word : goal.returns-then-found-word
returns-then-found-word c =
    let a = c.args in
    let s = c.in_ok-found.ensures in
    let q = sound-route (length a.address.now) (number a.address.now) a.length a.hop a.feed 0 (sym c.in_ok-announce_fault.ensures) in
    locally_tried (sym c.in_ok-size_fault.ensures) (sym c.in_ok-announce_fault.ensures)
    (local_same q.prefix q.feed s.1 s.0 a.hop a.preference q.low q.high
    (c.if-found-word.true ∙ c.word_of-word.ensures))

pub returns-in_err-a : goal.returns-in_err-a
returns-in_err-a c =
    let a = c.args in
    let x = c.extend in
    let s = c.in_ok-found.ensures in
    let p = err_from_is_err_and c.from_residual-in_err-a.result c.from_residual-in_err-a.ensures.1 in
    let q = sound-route (length a.address.now) (number a.address.now) a.length a.hop a.feed 0 (sym c.in_ok-announce_fault.ensures) in
    rw (p.1, p.2) (elim c.in_err-a.ensures [
      | inl y ↦ rw y.0 (locally_tried (sym c.in_ok-size_fault.ensures) (sym c.in_ok-announce_fault.ensures)
          (local_full q.prefix q.feed s.1 s.0 a.hop a.preference q.low q.high
          (λ z. c.if-found-word.false (z ∙ sym c.word_of-word.ensures)) x.new.words 0 y.1 refl))
      | inr y ↦ rw y.0 (locally_tried (sym c.in_ok-size_fault.ensures) (sym c.in_ok-announce_fault.ensures)
          (local_astray q.prefix q.feed s.1 s.0 a.hop a.preference q.low q.high
          (λ z. c.if-found-word.false (z ∙ sym c.word_of-word.ensures)) x.new.words 4097 y.1 refl))
    ])

pub returns : goal.returns
returns c =
    let a = c.args in
    let y = c.reseat-cells in
    let x = c.in_ok-a.ensures in
    let s = c.in_ok-found.ensures in
    let q = sound-route (length a.address.now) (number a.address.now) a.length a.hop a.feed 0 (sym c.in_ok-announce_fault.ensures) in
    locally_tried (sym c.in_ok-size_fault.ensures) (sym c.in_ok-announce_fault.ensures)
    (local_announced q.prefix q.feed s.1 s.0 a.hop a.preference q.low q.high
    (λ z. c.if-found-word.false (z ∙ sym c.word_of-word.ensures)) c.extend.new.words _ x.2 x.0 x.1 (omega arith)
    y.new.words y.result
    (rw c.word_of-word.ensures at y.ensures))
