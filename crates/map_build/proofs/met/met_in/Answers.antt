-- The spots that the table writes are those of the frame, in another order.
use Rattle.std.proofs.Common.{◌∙◌, List, [], ap, drop, map, sym, take}
use Rattle.std.proofs.lemmas.Result.{IfOk-weaker}
use Rattle.periodic.specs.declared.placement.Spot.{Spot}
use Rattle.periodic.specs.Placement.{due_in}
use Rattle.map_build.specs.Reading.{met_in}
use Rattle.map_build.proofs.SameSpots.{met_over-reordered}
use Rattle.map_build.proofs.met.met_in.Goals as goal

pub returns : goal.returns
returns c =
    let table = c.args.table.now in
    let spots : List Spot = take c.in_frame-count.result c.in_frame-count.new.spots in
    let elements = c.args.elements.now in
    IfOk-weaker c.met_around.result _ _
    (λ met is. is
    ∙ ap (λ config. met_in config spots c.args.waiting.now elements) c.config.ensures.value
    ∙ sym (met_over-reordered table.config (due_in table.config c.args.frame table.placed) spots c.args.waiting.now []
    (map (λ e. e.offset) (drop 1 elements)) c.in_frame-count.ensures.spots))
    c.met_around.ensures
