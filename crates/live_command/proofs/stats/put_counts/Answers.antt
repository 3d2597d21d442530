-- The entries, the MAPs and the refusals.
use Rattle.text_stream.proofs.Written.{where_ok}
use Rattle.live_command.specs.Stats.{counts_text}
use Rattle.live_command.proofs.Telling.{three}
use Rattle.live_command.proofs.stats.put_counts.Goals as goal

pub returns : goal.returns
unfolding counts_text
returns c = where_ok c.put_refused.result (λ put.
    three _ _ _ _ _ _ _ c.in_ok-put_member.ensures c.in_ok-put_member-2.ensures put) c.put_refused.ensures
