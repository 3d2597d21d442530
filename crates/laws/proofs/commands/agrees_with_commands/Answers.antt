-- What is found agrees with the commands.
use Rattle.laws.proofs.Agreement.{agreed}
use Rattle.laws.proofs.commands.agrees_with_commands.Goals as goal

pub returns : goal.returns
returns c = record { agrees = agreed }
