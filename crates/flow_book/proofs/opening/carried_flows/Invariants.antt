-- The flows gone through are carried.
use Rattle.flow_book.proofs.Carried.{AreCarried}
use Rattle.flow_book.proofs.opening.carried_flows.Given as goal

abbrev pub invariant-loop-state : goal.invariant-loop-state
invariant-loop-state l = AreCarried l.config l.states l.state-index l.flows
