-- A conversation goes on turn by turn, and ends.
use Rattle.std.proofs.Common.{◌-◌, ◌^◌, ◌++◌, refl, inr, arith}
use Rattle.std.proofs.lemmas.Result.{err_from_is_err_and}
use Rattle.live_command.proofs.Talking.{Stopped-quiet, too_many}
use Rattle.live_command.proofs.Turning.{stops_anywhere}
use Rattle.live_command.proofs.talk.talk_on.Goals as goal

pub loop-init : goal.loop-init
loop-init g c = record { talk = λ s v same talk. talk; begun = c.requires; read = refl; written = refl; noted = refl }

pub returns-in_err-take_turn-clause-talk : goal.returns-in_err-take_turn-clause-talk
returns-in_err-take_turn-clause-talk g c = λ s v same talk.
    let p = err_from_is_err_and c.from_residual.result c.from_residual.ensures.1 in
    rw (p.1, p.2) (c.in_err-take_turn.ensures.talk s v c.loop.counter same (c.loop.invariant.talk s v same talk))

pub returns-then-not-branch-clause-talk : goal.returns-then-not-branch-clause-talk
returns-then-not-branch-clause-talk g c = λ s v same talk.
    rw c.if-not-branch.true at
    (c.in_ok-take_turn.ensures.talk s v c.loop.counter same (c.loop.invariant.talk s v same talk))

pub returns-in_err-settle-clause-talk : goal.returns-in_err-settle-clause-talk
returns-in_err-settle-clause-talk g c = λ s v same talk.
    let exit = c.from_residual-in_err-settle in
    let p = err_from_is_err_and exit.result exit.ensures.1 in
    rw (p.1, p.2) (
      c.in_err-settle.ensures.talk s v c.loop.counter _ (c.loop.invariant.talk s v same talk),
      stops_anywhere s _ _ _ _ _ c.in_err-settle.ensures.err,
    )

pub returns-clause-talk : goal.returns-clause-talk
returns-clause-talk g c = λ s v same talk.
    let settled = c.in_ok-settle.ensures.talk s v c.loop.counter _ (c.loop.invariant.talk s v same talk) in
    let lines = too_many s c.loop.counter _ _ _ _ _ settled.0 (2 ^ 64 - 1) (omega (arith, c.loop-test.false)) in (
      Stopped-quiet s c.loop.counter _ _ _ _ _ settled.0,
      inr (record { lines = settled.0.lines ++ settled.0.more; read = lines.0; many = lines.1 }),
    )
