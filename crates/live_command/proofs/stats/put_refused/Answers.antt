-- A name, the counts, and the end of the array.
use Rattle.live_command.specs.Stats.{refused_text}
use Rattle.live_command.proofs.Telling.{three}
use Rattle.live_command.proofs.stats.put_refused.Goals as goal

pub returns : goal.returns
unfolding refused_text
returns c = three _ _ _ _ _ _ _ c.in_ok-extend_from_slice.ensures.items c.in_ok-put_each.ensures
    c.in_ok-extend_from_slice-2.ensures.items
