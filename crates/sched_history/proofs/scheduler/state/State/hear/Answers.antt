-- A progress is noted.
use Rattle.std.proofs.Common.{refl}
use Rattle.sched_history.proofs.state.Moves.{IsStateAfter-heard}
use Rattle.sched_history.proofs.scheduler.state.State.hear.Goals as goal

pub returns : goal.returns
returns c = λ x opens.
    rw (c.from.ensures) (record {
      config = refl;
      answers = refl;
      encodable = tt;
      is_after = IsStateAfter-heard c.args.self.now x opens.is_after c.args.receiver c.args.upto;
    })
