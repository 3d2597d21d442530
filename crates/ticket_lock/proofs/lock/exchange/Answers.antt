-- The slot that was held has the value, and what it had is the answer.
use Rattle.std.proofs.Common.{rules}
use Rattle.ticket_lock.proofs.lock.exchange.Goals as goal

pub returns-clause-put : goal.returns-clause-put
returns-clause-put g c = search rules

pub returns-clause-taken : goal.returns-clause-taken
returns-clause-taken g c = search rules
