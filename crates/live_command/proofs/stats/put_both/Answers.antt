-- The numbers since the start, and since they were told last.
use Rattle.text_stream.proofs.Written.{where_ok}
use Rattle.live_command.specs.Stats.{both_text}
use Rattle.live_command.proofs.Telling.{two}
use Rattle.live_command.proofs.stats.put_both.Goals as goal

pub returns : goal.returns
unfolding both_text
returns c = where_ok c.put_named-2.result (λ put. two _ _ _ _ _ c.in_ok-put_named.ensures put) c.put_named-2.ensures
