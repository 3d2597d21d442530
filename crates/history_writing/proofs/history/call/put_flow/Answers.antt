-- The parameters of a flow by its kind.
use Rattle.history_writing.proofs.history.call.put_flow.Goals as goal

pub returns-in-Unsolicited-clause-ok : goal.returns-in-Unsolicited-clause-ok
returns-in-Unsolicited-clause-ok c = rw c.in-Unsolicited.is c.put_unsolicited.ensures.ok

pub returns-in-Polled-clause-ok : goal.returns-in-Polled-clause-ok
returns-in-Polled-clause-ok c = rw c.in-Polled.is c.put_polled.ensures.ok

pub returns-in-BestEffort-clause-ok : goal.returns-in-BestEffort-clause-ok
returns-in-BestEffort-clause-ok c = rw c.in-BestEffort.is c.put_best_effort.ensures.ok
