-- One frame more.
use Rattle.std.proofs.Common.{◌+◌, List, Some, refl, ap, ◌∙◌}
use Rattle.map_codec.specs.declared.element.Element.{Element}
use Rattle.map_drawing.specs.Allocation.{allocations_of}
use Rattle.frame_picture.specs.Frames.{is_unsolicited_after}
use Rattle.sched_report.specs.Uses.{slots_among, sum_of}
use Rattle.sched_report.proofs.Totalled.{same_totals}
use Rattle.sched_report.proofs.totals.Totals.add_frame.Goals as goal

pub returns-clause-value : goal.returns-clause-value
returns-clause-value c = λ h told.
    same_totals _ _ refl c.or-self.ensures (ap (λ n. Some (c.args.map.now.start + n)) c.from.ensures) refl refl
    refl
    (c.and-self.ensures
    ∙ ap (sum_of c.args.self.now.slots) (c.of_frame-slots.ensures.value h told
    ∙ ap (λ (es : List Element). slots_among c.args.met.now (is_unsolicited_after h) (allocations_of es))
    c.as_slice.ensures))
    refl
