-- What is shown is what was handed in.
use Rattle.minislots.proofs.config.Checked.config.Goals as goal

pub returns-clause-value : goal.returns-clause-value
returns-clause-value c = c.self.view_is
