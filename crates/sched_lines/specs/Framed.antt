-- The lines of answers in which a MAP has its whole frame.
use Rattle.std.specs.Prelude.{ℕ, List, ◌++◌, codes, Option, Some, None, Ok, Err}
use Rattle.hex.specs.Hex.{encode_lower}
use Rattle.map_codec.specs.WireMap.{spelling}
use Rattle.sched_calls.specs.declared.frame_map.FrameMap.{FrameMap}
use Rattle.sched_calls.specs.declared.reply.Reply.TheVariants.{Admitted, Removed, Taken, Noted, Built, Skipped, Flow}
use Rattle.sched_calls.specs.declared.reply.Reply.TheVariants.{Refused, Reserved, Changed}
use Rattle.wire_frame.specs.MapFrame.{frame_of_map}
use Rattle.sched_calls.specs.Reply.{Answer}
use Rattle.sched_lines.specs.Line.{line_of}

-- the MAP that an answer has
abbrev pub map_in : Answer → Option FrameMap
map_in (Ok (Built m)) = Some m
map_in (Ok (Admitted p)) = None
map_in (Ok (Changed p)) = None
map_in (Ok Removed) = None
map_in (Ok Taken) = None
map_in (Ok Noted) = None
map_in (Ok Reserved) = None
map_in (Ok (Skipped next)) = None
map_in (Ok (Flow asked granted outstanding)) = None
map_in (Ok (Refused refusal)) = None
map_in (Err unrecorded) = None

-- the frame of a MAP from an address
abbrev pub frame_of : List ℕ → FrameMap → List ℕ
frame_of address m = frame_of_map address (spelling m.wire)

-- the line of a MAP: its frame in hexadecimal
unfoldable pub map_line : List ℕ → FrameMap → List ℕ
map_line address m = codes "map " ++ encode_lower (frame_of address m) ++ codes "\n"

-- the line of a MAP where there is one, or the line that an answer has by itself
abbrev pub line_or : List ℕ → Option FrameMap → Answer → List ℕ
line_or address None answer = line_of answer
line_or address (Some m) answer = map_line address m

-- the line of an answer, with the whole frame of its MAP where it has one
abbrev pub framed_line : List ℕ → Answer → List ℕ
framed_line address answer = line_or address (map_in answer) answer
