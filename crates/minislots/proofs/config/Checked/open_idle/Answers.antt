-- What is shown is the field of the configuration.
use Rattle.std.proofs.Common.{ap}
use Rattle.minislots.proofs.config.Checked.open_idle.Goals as goal

pub returns-clause-value : goal.returns-clause-value
returns-clause-value c = ap (λ it. it.open_idle) c.self.view_is
