-- A flow without a place has other parameters, and no placement.
use Rattle.std.proofs.Common.{None, refl, inr}
use Rattle.sched_calls.specs.declared.reply.Reply.TheVariants as replies
use Rattle.sched_history.proofs.state.ChangeMoves.{IsStateAfter-given}
use Rattle.sched_history.proofs.state.Changing.{change-live, change-kind, change-nowhere, answers-given}
use Rattle.sched_history.proofs.scheduler.state.State.change_unplaced.Goals as goal

pub change-requires-clause-live : goal.change-requires-clause-live
change-requires-clause-live c = change-live c.args.self.now c.requires.open.0 c.args.sid c.args.spec c.requires.open.1

pub change-requires-clause-kind : goal.change-requires-clause-kind
change-requires-clause-kind c = change-kind c.args.self.now c.requires.open.0 c.args.sid c.args.spec c.requires.open.1

pub returns : goal.returns
returns c = λ x opens.
    let s = c.args.self.now in
    record {
      config = refl;
      answers = answers-given s x c.args.sid c.args.spec opens (replies.Changed None)
          (inr (inr (c.requires.aperiodic, refl)));
      encodable = tt;
      is_after = IsStateAfter-given s x opens.is_after c.args.sid c.args.spec
          c.change.new.self c.change.ensures (change-nowhere s x c.args.sid c.args.spec opens c.requires.aperiodic);
    }
