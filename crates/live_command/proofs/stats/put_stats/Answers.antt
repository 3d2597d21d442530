-- The numbers since the start and since they were told last, how the conversation stands, and the end of the line.
use Rattle.live_command.specs.Stats.{stats_line}
use Rattle.live_command.proofs.Telling.{three}
use Rattle.live_command.proofs.stats.put_stats.Goals as goal

pub returns : goal.returns
unfolding stats_line
returns c = three _ _ _ _ _ _ _ c.in_ok-put_both.ensures c.in_ok-put_standing.ensures
    c.in_ok-extend_from_slice.ensures.items
