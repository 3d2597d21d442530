-- A flow's bytes are told.
use Rattle.std.proofs.Common.{refl}
use Rattle.sched_calls.specs.declared.call.Call.TheVariants as calls
use Rattle.sched_calls.specs.declared.reply.Reply.TheVariants as replies
use Rattle.sched_history.proofs.steps.Passed.{passed-status}
use Rattle.sched_history.proofs.state.Present.{IsLive-after, status-after}
use Rattle.sched_history.proofs.state.Moves.{IsStateAfter-quiet}
use Rattle.sched_history.proofs.scheduler.state.State.tell.Goals as goal

pub bytes_of-asked-requires-clause-live : goal.bytes_of-asked-requires-clause-live
bytes_of-asked-requires-clause-live c =
    let s = c.args.self.now in
    let opens = c.requires.1 in
    IsLive-after s c.requires.0 c.args.sid opens.is_after
    (passed-status s.config c.requires.0 c.args.sid opens.unrefused)

pub returns : goal.returns
returns c = λ x opens.
    let s = c.args.self.now in
    let sums = c.bytes_of-asked.result in
    let reply = replies.Flow sums.0 sums.1 sums.2 in
    record {
      config = refl;
      answers = status-after s x c.args.sid opens.is_after (passed-status s.config x c.args.sid opens.unrefused) reply
          c.bytes_of-asked.ensures;
      encodable = tt;
      is_after = IsStateAfter-quiet s x opens.is_after (calls.Status c.args.sid) reply (λ y. refl);
    }
