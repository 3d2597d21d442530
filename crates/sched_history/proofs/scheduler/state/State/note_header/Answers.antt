-- A header is noted.
use Rattle.std.proofs.Common.{refl}
use Rattle.sched_history.proofs.state.Moves.{IsStateAfter-headed}
use Rattle.sched_history.proofs.scheduler.state.State.note_header.Goals as goal

pub returns : goal.returns
returns c = λ x opens. record {
  config = refl;
  answers = refl;
  encodable = tt;
  is_after = IsStateAfter-headed c.args.self.now x opens.is_after c.args.header;
}
