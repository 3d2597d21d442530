-- The law of restarts.
use Rattle.restart_laws.proofs.Law.{every-restart}
use Rattle.restart_laws.proofs.every_restart.Goals as goal

pub returns : goal.returns
returns c = every-restart
