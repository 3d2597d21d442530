-- What is shown is the field of the configuration.
use Rattle.std.proofs.Common.{ap}
use Rattle.minislots.proofs.config.Checked.settle.Goals as goal

pub returns-clause-value : goal.returns-clause-value
returns-clause-value c = ap (λ it. it.settle) c.self.view_is
