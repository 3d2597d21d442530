-- The flow wakes in the table.
use Rattle.std.proofs.Common.{refl}
use Rattle.sched_history.proofs.steps.Passed.{passed-wake}
use Rattle.sched_history.proofs.state.Voices.{voice-placed}
use Rattle.sched_history.proofs.state.Moves.{IsStateAfter-woken}
use Rattle.sched_history.proofs.scheduler.state.State.wake.Goals as goal

pub wake-requires : goal.wake-requires
wake-requires c =
    let s = c.args.self.now in
    let opens = c.requires.1 in
    let may = passed-wake s.config c.requires.0 c.args.sid opens.unrefused in
    voice-placed s c.requires.0 c.args.sid opens.is_after opens.sound may.known may.voice

pub returns : goal.returns
returns c = λ x opens. record {
  config = refl;
  answers = refl;
  encodable = tt;
  is_after = IsStateAfter-woken c.args.self.now x opens.is_after c.args.sid c.wake.new.self c.wake.ensures;
}
