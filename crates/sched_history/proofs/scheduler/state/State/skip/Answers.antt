-- Frames are left out.
use Rattle.std.proofs.Common.{refl}
use Rattle.sched_history.proofs.state.Moves.{IsStateAfter-skipped}
use Rattle.sched_history.proofs.scheduler.state.State.skip.Goals as goal

pub returns : goal.returns
returns c = λ x opens.
    let next = c.start_after-self.result in
    record {
      config = refl;
      answers = (next, c.start_after-self.ensures, refl);
      encodable = tt;
      is_after = IsStateAfter-skipped c.args.self.now x opens.is_after c.args.now next;
    }
