-- Bursts are of one kind or the other.
use Rattle.history_writing.specs.HistoryText.{config_data}
use Rattle.history_writing.proofs.history.config.put_config.Goals as goal

pub returns-in-Uniform-clause-ok : goal.returns-in-Uniform-clause-ok
unfolding config_data
returns-in-Uniform-clause-ok c = rw c.in-Uniform.is c.put_uniform.ensures.ok

pub returns-in-Described-clause-ok : goal.returns-in-Described-clause-ok
unfolding config_data
returns-in-Described-clause-ok c = rw c.in-Described.is c.put_described.ensures.ok
