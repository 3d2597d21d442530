-- What is written is the text.
use Rattle.std.proofs.Common.{rules}
use Rattle.history_writing.proofs.history.put_history.Goals as goal

pub returns-clause-ok : goal.returns-clause-ok
returns-clause-ok g c = search rules
