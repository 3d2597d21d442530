-- What waits, the Reserves that lapsed, and the bytes of the journal.
use Rattle.text_stream.proofs.Written.{where_ok}
use Rattle.live_command.specs.Stats.{standing_text}
use Rattle.live_command.proofs.Telling.{three}
use Rattle.live_command.proofs.stats.put_standing.Goals as goal

pub returns : goal.returns
unfolding standing_text
returns c = where_ok c.put_member-2.result (λ put.
    three _ _ _ _ _ _ _ c.in_ok-put_backlog.ensures c.in_ok-put_member.ensures put) c.put_member-2.ensures
