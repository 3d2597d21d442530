-- The sums of the flow are told.
use Rattle.std.proofs.Common.{◌==◌}
use Rattle.flow_book.specs.Flows.{flow_of}
use Rattle.sched_history.specs.Facts.{IsWithinAsked}
use Rattle.sched_history.proofs.state.Sums.{find-all, flow_status-sums}
use Rattle.sched_history.proofs.scheduler.state.State.bytes_of.Goals as goal

pub returns : goal.returns
returns c =
    flow_status-sums (flow_of c.args.sid c.args.self.now.book.flows) c.sums-asked.result.0 c.sums-asked.result.1
    (find-all IsWithinAsked (λ f. f.sid == c.args.sid) c.args.self.now.book.flows c.requires.within)
    c.sums-asked.ensures.asked c.sums-asked.ensures.left
