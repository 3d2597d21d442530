-- What a drawing of a history reads and writes.
use Rattle.std.specs.Prelude.{ℕ, List, Option, Ok}
use Rattle.std.specs.Io.KnownBytes.{Appends}
use Rattle.text_stream.specs.declared.run_fault.RunFault.{RunFault}
use Rattle.history_reading.specs.Recorded.{History, GivesHistory, StopsHistory}
use Rattle.frame_picture.specs.declared.span.Span.{Span}
use Rattle.frame_picture.specs.Meeting.{IsLegalFront, met_within}
use Rattle.frame_picture.specs.Picture.{picture_text}
use Rattle.text_stream.specs.declared.fault.TextFault.TheVariants.{Input, TooLong, NotJson, Shape, Config, Memory}
use Rattle.text_stream.specs.declared.fault.TextFault.TheVariants.{Output}
use Rattle.text_stream.specs.declared.run_fault.RunFault.TheVariants.{Text, Threads}

-- The reader's bytes are a history, and the picture of its frames in the span was written, and nothing else: by the
-- plan as far as the history is legal, and behind that by the words of the elements alone
pub record DrawnHistory (span : Span) (unread left written_before written_after : Option (List ℕ)) : Type 0 where
  pub history : History
  pub read : GivesHistory unread left (Ok history)
  pub legal : ℕ
  pub front : IsLegalFront history.config history.entries legal
  pub written : Appends written_before written_after
      (picture_text history.config (met_within history.config legal) span history.entries)

-- why a drawing of a history ends: a write is tried only after a whole history was read; lack of memory and a failed
-- read tell nothing more
abbrev pub StopsHistoryDrawing : Option (List ℕ) → Option (List ℕ) → RunFault → Type 0
StopsHistoryDrawing unread left (Text Input) = StopsHistory unread left Input
StopsHistoryDrawing unread left (Text TooLong) = StopsHistory unread left TooLong
StopsHistoryDrawing unread left (Text NotJson) = StopsHistory unread left NotJson
StopsHistoryDrawing unread left (Text (Shape n)) = StopsHistory unread left (Shape n)
StopsHistoryDrawing unread left (Text (Config field)) = StopsHistory unread left (Config field)
StopsHistoryDrawing unread left (Text Memory) = Unit {0}
StopsHistoryDrawing unread left (Text Output) = (history : History) × GivesHistory unread left (Ok history)
StopsHistoryDrawing unread left Threads = ⊥
