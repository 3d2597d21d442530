-- The value and the text of a segment's first line, as they are compared and made. Only private clauses cite them.
use Rattle.std.specs.Prelude.{◌≡◌, ℕ, List, ◌∷◌, ◌++◌, codes}
use Rattle.json.specs.Print.{quoted}
use Rattle.serde_json.specs.Data.{Data}
use Rattle.serde_json.specs.Written.{compact_text}
use Rattle.minislots.specs.declared.config.Config.{Config}
use Rattle.wire_frame.specs.Checksum.{IsCrc}
use Rattle.history_writing.specs.HistoryText.{config_data}
use Rattle.state_text.specs.StateText.{state_text}
use Rattle.segment_line.specs.declared.segment.Segment.{Segment}
use Rattle.segment_line.specs.SegmentLine.{segment_data}

-- A value is that of a segment's first line, whether it can go on or not
pub record IsValueOf (value : Data) (s : Segment) : Type 0 where
  pub sum : ℕ
  pub is_crc : IsCrc (state_text s.state) sum
  pub is : value ≡ segment_data sum s

-- an object that has a configuration, without what closes it
unfoldable pub config_front : Config → List ℕ
config_front c = 123 ∷ (quoted (codes "config") ++ 58 ∷ compact_text (config_data c))
