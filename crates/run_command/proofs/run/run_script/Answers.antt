-- What was written is that of the run.
use Rattle.run_command.proofs.run.run_script.Goals as goal

pub returns-clause-ok : goal.returns-clause-ok
returns-clause-ok g c = rw (c.output_asked.ensures) at c.in_ok-run_with.ensures.ok.ran
