-- The front of many spaces is so many spaces.
use Rattle.std.proofs.lemmas.List.{take-replicate}
use Rattle.report_writing.specs.Columns.{spaces}
use Rattle.map_drawing.proofs.Ranges.{appended}
use Rattle.report_writing.proofs.text.push_spaces.Goals as goal

pub returns : goal.returns
unfolding spaces
returns c =
    appended c.extend_from_slice.result _ _ _ _ c.extend_from_slice.ensures.items
    (take-replicate c.args.count 40 32 c.requires)
