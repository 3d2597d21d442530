-- Ranges that other fields decide.
use Rattle.minislots.proofs.Ranges.{requests_range, lead_range, quantum_range}
use Rattle.minislots.proofs.Ranges.{bursts_before_requests, bursts_before_quantum}
use Rattle.minislots.proofs.config.Config.range_of.Goals as goal

pub returns-in-ReqSlots-clause-exact : goal.returns-in-ReqSlots-clause-exact
returns-in-ReqSlots-clause-exact c =
    rw c.in-ReqSlots.is
    (λ right n.
    rw (c.saturating_sub.ensures, c.from-frame.ensures, c.least_burst.ensures (bursts_before_requests c.args.self.now right))
    (requests_range c.args.self.now n))

pub returns-in-Lead-clause-exact : goal.returns-in-Lead-clause-exact
returns-in-Lead-clause-exact c =
    rw c.in-Lead.is
    (λ right n. rw (c.saturating_sub-in-Lead.ensures, c.from-frame.ensures) (lead_range c.args.self.now right n))

pub returns-in-Quantum-clause-exact : goal.returns-in-Quantum-clause-exact
returns-in-Quantum-clause-exact c =
    rw c.in-Quantum.is
    (λ right n.
    rw (c.most_quantum.ensures (bursts_before_quantum c.args.self.now right)) (quantum_range c.args.self.now right n))
