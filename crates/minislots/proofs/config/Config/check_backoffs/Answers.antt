-- The second field is named where the first is lawful.
use Rattle.std.proofs.Common.{rules}
use Rattle.minislots.proofs.config.Config.check_backoffs.Goals as goal

pub returns-in_err-require-2 : goal.returns-in_err-require-2
returns-in_err-require-2 c = search rules
