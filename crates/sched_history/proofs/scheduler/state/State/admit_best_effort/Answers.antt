-- A flow without a place is admitted.
use Rattle.std.proofs.Common.{refl}
use Rattle.sched_history.proofs.steps.Passed.{passed-admit}
use Rattle.sched_history.proofs.state.Present.{flow_of-fresh, answers-best_effort}
use Rattle.sched_history.proofs.state.Moves.{IsStateAfter-admitted}
use Rattle.sched_history.proofs.scheduler.state.State.admit_best_effort.Goals as goal

pub admit-requires : goal.admit-requires
admit-requires c =
    let s = c.args.self.now in
    let x = c.requires.open.0 in
    let opens = c.requires.open.1 in
    let admits = passed-admit s.config x c.args.sid c.args.spec opens.unrefused in
    flow_of-fresh s x c.args.sid opens.is_after admits.fresh

pub returns-clause-answered : goal.returns-clause-answered
returns-clause-answered c = λ x opens.
    let s = c.args.self.now in
    let sid = c.args.sid in
    let spec = c.args.spec in
    record {
      config = refl;
      answers = answers-best_effort s.config x spec c.requires.aperiodic;
      encodable = tt;
      is_after = IsStateAfter-admitted s x opens.is_after sid spec c.admit.new.self
          c.in_ok-admit.ensures.config c.in_ok-admit.ensures.ok;
    }
