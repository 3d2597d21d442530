-- One more.
use Rattle.bursts_command.specs.Json.{capacity_item}
use Rattle.bursts_command.proofs.Ranges.{one_more}
use Rattle.bursts_command.proofs.json.push_capacity_items.Goals as goal

pub loop-slots-preserved : goal.loop-slots-preserved
loop-slots-preserved c =
    one_more (capacity_item c.args.config.now) c.loop-slots.slots _ _ _ c.loop-slots.invariant
    c.in_ok-push_capacity_item.ensures
