use Rattle.std.proofs.Common.{drop, ap, sym, ◌∙◌}
use Rattle.map_snapshot.specs.Maps.{Printing}
use Rattle.map_snapshot.proofs.Showing.{waits_one}
use Rattle.map_snapshot.proofs.press.Press.publish.Goals as goal

pub replace_with-requires : goal.replace_with-requires
replace_with-requires g c =
    let writer = c.self.inside.writer in
    let shown = writer.desk.shown.value in
    let one = waits_one shown.press shown.list (drop writer.behind writer.log.items) c.self.invariant.3
    (c.has_pending_operations.ensures.0 c.if-has_pending_operations.true) in
    (one.0, sym (ap (λ (p : Printing). p.waiting) c.self.view_is) ∙ one.1)
