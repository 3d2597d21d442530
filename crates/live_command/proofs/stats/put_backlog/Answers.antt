-- The flows that wait, and their bytes.
use Rattle.text_stream.proofs.Written.{where_ok}
use Rattle.live_command.specs.Stats.{backlog_text}
use Rattle.live_command.proofs.Telling.{two}
use Rattle.live_command.proofs.stats.put_backlog.Goals as goal

pub returns : goal.returns
unfolding backlog_text
returns c = where_ok c.put_wide.result (λ put. two _ _ _ _ _ c.in_ok-put_member.ensures put) c.put_wide.ensures
