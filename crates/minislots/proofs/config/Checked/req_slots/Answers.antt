-- What is shown is the field of the configuration.
use Rattle.std.proofs.Common.{ap}
use Rattle.minislots.proofs.config.Checked.req_slots.Goals as goal

pub returns-clause-value : goal.returns-clause-value
returns-clause-value c = ap (λ it. it.req_slots) c.self.view_is
