-- One more.
use Rattle.bursts_command.specs.Json.{burst_item}
use Rattle.bursts_command.proofs.Ranges.{one_more}
use Rattle.bursts_command.proofs.json.push_items.Goals as goal

pub loop-index-preserved : goal.loop-index-preserved
loop-index-preserved c =
    one_more (burst_item c.args.config.now c.args.sizes.now) c.loop-index.index _ _ _ c.loop-index.invariant
    c.in_ok-push_item.ensures
