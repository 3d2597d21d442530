-- One character more.
use Rattle.map_drawing.specs.Rows.{character_at}
use Rattle.map_drawing.proofs.Ranges.{map_step}
use Rattle.map_drawing.proofs.rows.push_characters.Goals as goal

pub loop-i-preserved : goal.loop-i-preserved
loop-i-preserved c =
    map_step (character_at c.args.front.now) c.args.from c.loop-i.i _ _ _ c.loop-i.invariant
    (rw c.character_at.ensures at c.in_ok-push.ensures.items)
