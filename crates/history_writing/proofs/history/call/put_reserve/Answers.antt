-- A Reserve by its usage.
use Rattle.history_writing.specs.Json.{call_data}
use Rattle.history_writing.proofs.history.call.put_reserve.Goals as goal

pub returns-in-Station-clause-ok : goal.returns-in-Station-clause-ok
unfolding call_data
returns-in-Station-clause-ok c = rw c.in-Station.is c.put_reserve_to-in-Station.ensures.ok

pub returns-in-Request-clause-ok : goal.returns-in-Request-clause-ok
unfolding call_data
returns-in-Request-clause-ok c = rw c.in-Request.is c.put_reserve_to-in-Request.ensures.ok

pub returns-in-DataTo-clause-ok : goal.returns-in-DataTo-clause-ok
unfolding call_data
returns-in-DataTo-clause-ok c = rw c.in-DataTo.is c.put_reserve_to-in-DataTo.ensures.ok
