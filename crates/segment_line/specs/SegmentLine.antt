-- The first line of a segment: a journal that may go on after others, and stands for what they leave. That of the first
-- segment is its configuration alone. That of a later one has the configuration, its number, the state after all entries
-- before it, and the checksum of that state's text.
use Rattle.std.specs.Prelude.{◌≡◌, ℕ, ◌<◌, ◌≤◌, List, [], ◌∷◌, ◌++◌, length, codes, None, Some, IsSomeAnd, IsUtf8}
use Rattle.json.specs.Json.{document}
use Rattle.json.specs.Strict.{HasUniqueKeys}
use Rattle.serde_json.specs.Data.{Data, object, no_members, member}
use Rattle.serde_json.specs.Find.{get}
use Rattle.serde_json.specs.Read.{read}
use Rattle.serde_json.specs.Written.{compact_text}
use Rattle.minislots.specs.declared.config.Config.{Config}
use Rattle.minislots.specs.Config.{IsLawful}
use Rattle.text_stream.specs.declared.TheConstants.{NEWLINE}
use Rattle.text_stream.specs.Lines.{IsWithinLine}
use Rattle.wire_frame.specs.Checksum.{IsCrc}
use Rattle.channel_states.specs.Possible.{IsPossible}
use Rattle.history_writing.specs.Json.{count}
use Rattle.history_writing.specs.HistoryText.{config_data}
use Rattle.state_text.specs.StateText.{state_data, state_text}
use Rattle.segment_line.specs.declared.segment.FirstLine.{FirstLine}
use Rattle.segment_line.specs.declared.segment.FirstLine.TheVariants.{First, Later}
use Rattle.segment_line.specs.declared.segment.Segment.{Segment}
use Rattle.segment_line.specs.declared.segment.TheConstants.{MAX_FIRST_LINE}
use Rattle.segment_line.specs.Opening.{opening_of}

-- what a later segment has beside its entries, with this checksum
unfoldable pub parts_data : ℕ → Segment → Data
parts_data sum s = object (
    member (codes "config") (config_data s.config) (member (codes "crc") (count sum) (
    member (codes "number") (count s.number) (member (codes "state") (state_data s.state) no_members))))

-- the value of its first line
unfoldable pub segment_data : ℕ → Segment → Data
segment_data sum s = object (member (codes "segment") (parts_data sum s) no_members)

-- ---- what is written

-- The text of a segment: its value in compact form, members in ascending order of their keys, in which the checksum is
-- the CRC-32 of the state's text
pub record IsSegmentText (s : Segment) (text : List ℕ) : Type 0 where
  pub sum : ℕ
  pub is_crc : IsCrc (state_text s.state) sum
  pub is : text ≡ compact_text (segment_data sum s)

-- The line of a segment: its text, and a newline
pub record IsSegmentLine (s : Segment) (line : List ℕ) : Type 0 where
  pub text : List ℕ
  pub is_text : IsSegmentText s text
  pub ended : line ≡ text ++ NEWLINE ∷ []

-- ---- what is read

-- A value is that of a segment, with the CRC-32 of the state's text without spaces. It is a later one, and in it
-- something can go on: its configuration is lawful, and its state possible
pub record IsSegmentValue (value : Data) (s : Segment) : Type 0 where
  pub sum : ℕ
  pub is_crc : IsCrc (state_text s.state) sum
  pub is : value ≡ segment_data sum s
  pub later : 1 < s.number
  pub lawful : IsLawful s.config
  pub possible : IsPossible s.config s.state

-- A line is that of the first segment: an object with its configuration, and with none of what tells another kind of
-- text
pub record IsFirst (line : List ℕ) (c : Config) : Type 0 where
  pub value : Data
  pub utf8 : IsUtf8 line
  pub reads : read line ≡ Some value
  pub alone : get (codes "segment") value ≡ None
  pub config_is : opening_of value ≡ Some c

-- A line is that of a later segment, whatever the order of its keys and the spaces between them, and no object in it
-- has a key twice
pub record IsLater (line : List ℕ) (s : Segment) : Type 0 where
  pub value : Data
  pub utf8 : IsUtf8 line
  pub reads : read line ≡ Some value
  pub is : IsSegmentValue value s
  pub once : IsSomeAnd (document line) HasUniqueKeys

-- what the text of a first line stands for
abbrev pub StandsFor : List ℕ → FirstLine → Type 0
StandsFor line (First c) = IsFirst line c
StandsFor line (Later s) = IsLater line s

-- A first line, which is not too long
pub record IsFirstLine (line : List ℕ) (first : FirstLine) : Type 0 where
  pub short : length line ≤ MAX_FIRST_LINE
  pub stands : StandsFor line first

-- A text is a first line that stands for this, and its newline
pub record IsLineOf (first : FirstLine) (text : List ℕ) : Type 0 where
  pub line : List ℕ
  pub within : IsWithinLine line
  pub is : IsFirstLine line first
  pub ended : text ≡ line ++ NEWLINE ∷ []
