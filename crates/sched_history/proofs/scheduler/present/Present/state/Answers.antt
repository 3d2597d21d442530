-- What is kept is the state after the history.
use Rattle.std.proofs.Common.{◌∙◌, ap}
use Rattle.sched_history.specs.Situation.{situation_of}
use Rattle.sched_history.specs.ChannelState.{state_of}
use Rattle.sched_history.specs.Machine.{Past}
use Rattle.sched_history.proofs.state.States.{state-after}
use Rattle.sched_history.proofs.scheduler.present.Present.state.Goals as goal

pub returns : goal.returns
returns c =
    let s = c.self.inside.state.now in
    let h = c.self.inside.ledger.now in
    rw (
      c.len.ensures.value,
      c.in_ok-receivers.ensures,
      c.in_ok-flows.ensures,
      c.in_ok-reserves_of.ensures,
    ) (state-after s (situation_of s.config h) c.self.invariant.is_after
    ∙ ap (λ (p : Past). state_of p.config p.history) c.self.view_is)
