-- The front stands before the last two bytes of an opening's line.
use Rattle.std.proofs.Common.{◌≡◌, ◌-◌, ◌∙◌, ap, arith, length, take}
use Rattle.history_writing.specs.Journal.{opening_line}
use Rattle.segment_line.specs.Spelled.{config_front}
use Rattle.segment_line.proofs.SegmentText.{length-opening_line, take-opening_line}
use Rattle.segment_line.proofs.writing.config_front.Goals as goal

pub overflow_sub-len : goal.overflow_sub-len
overflow_sub-len c =
    omega (
      arith,
      c.len.ensures,
      ap length c.in_ok-text.ensures,
      length-opening_line c.config_of.result,
    )

pub returns-clause-ok : goal.returns-clause-ok
returns-clause-ok c =
    let n = c.len.result - 2 in
    let whole = c.in_ok-text.ensures in
    let last : n ≡ length (opening_line c.config_of.result) - 2 =
    omega (arith, c.len.ensures, c.in_ok-text.text.ok.0, ap length whole) in
    c.truncate.ensures.items ∙ ap (take n) whole ∙ take-opening_line c.config_of.result n last
    ∙ ap config_front c.config_of.ensures.value
