-- The entries come into the journal, and then the answers that wait are written.
use Rattle.std.proofs.Common.{inl, inr}
use Rattle.std.proofs.lemmas.Result.{err_from_is_err_and}
use Rattle.live_command.proofs.Talking.{recorded, Talk-settled, Stopped-recording, Stopped-sending, Stopped-unsent}
use Rattle.live_command.proofs.turn.settle.Goals as goal

pub returns-in_err-record-clause-talk : goal.returns-in_err-record-clause-talk
returns-in_err-record-clause-talk g c = λ s v turns left talk.
    let p = err_from_is_err_and c.from_residual.result c.from_residual.ensures.1 in
    let part = rw c.history.ensures.value at (c.in_err-record.ensures.err v s.config) in
    rw p.1 (Stopped-recording s turns _ left _ _ _ talk _ part)

pub returns-in_err-send-clause-talk : goal.returns-in_err-send-clause-talk
returns-in_err-send-clause-talk g c = λ s v turns left talk.
    let exit = c.from_residual-in_err-send in
    let p = err_from_is_err_and exit.result exit.ensures.1 in
    let grows = rw c.history.ensures.value at (c.in_ok-record.ensures.ok v s.config) in
    let now = g.J.Journal.stands_for c.«record».new.journal v s.config in
    rw (p.1, c.forget.ensures) (elim c.in_err-send.ensures.sends [
      | inl out ↦ Stopped-sending s turns _ left _ _ _ talk _ now grows out.2
      | inr none ↦ rw none.1 (Stopped-unsent s turns _ left _ _ _ talk now grows)
    ])

pub returns-clause-talk : goal.returns-clause-talk
returns-clause-talk g c = λ s v turns left talk.
    let grows = rw c.history.ensures.value at (c.in_ok-record.ensures.ok v s.config) in
    let now = g.J.Journal.stands_for c.«record».new.journal v s.config in
    let stood = recorded s turns _ left _ _ _ talk now grows in (
      rw c.in_ok-send.ensures.empty
          (Talk-settled s turns _ left _ _ _ talk _ _ now grows c.in_ok-send.ensures.sends.0 c.forget.ensures),
      rw c.forget.ensures stood,
    )
