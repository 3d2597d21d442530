-- First lines whose numbers fit the types of their fields.
use Rattle.std.specs.Prelude.{◌<◌, ◌^◌}
use Rattle.history_writing.specs.Fits.{ConfigFits}
use Rattle.state_text.specs.Fits.{StateFits}
use Rattle.segment_line.specs.declared.segment.FirstLine.{FirstLine}
use Rattle.segment_line.specs.declared.segment.FirstLine.TheVariants.{First, Later}
use Rattle.segment_line.specs.declared.segment.Segment.{Segment}

-- The numbers of a segment's first line fit their types
pub record SegmentFits (s : Segment) : Type 0 where
  pub config : ConfigFits s.config
  pub number : s.number < 2 ^ 64
  pub state : StateFits s.state

-- the same of any first line
abbrev pub FirstFits : FirstLine → Type 0
FirstFits (First c) = ConfigFits c
FirstFits (Later s) = SegmentFits s
