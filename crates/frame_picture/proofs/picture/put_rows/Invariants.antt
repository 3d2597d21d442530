-- Rows, one after the other.
use Rattle.std.proofs.Common.{◌≡◌, ◌++◌, List, take}
use Rattle.std.specs.Io.KnownBytes.{Appends, append_known}
use Rattle.map_build.specs.declared.met.Met.{Met}
use Rattle.sched_calls.specs.declared.reply.Entry.{Entry}
use Rattle.sched_calls.specs.declared.reply.Reply.{Reply}
use Rattle.frame_picture.specs.Along.{IsAlong}
use Rattle.frame_picture.specs.Frames.{frames_of, frames_in}
use Rattle.frame_picture.specs.Meeting.{TellsMet, met_lists}
use Rattle.frame_picture.specs.Picture.{rows_text}
use Rattle.frame_picture.proofs.picture.put_rows.Given as goal

-- it is known what the entries so far tell, and the rows so far are written or wait
abbrev pub invariant-loop-i : goal.invariant-loop-i
invariant-loop-i g l = record {
  along : (before : List Entry) → IsAlong l.scale l.initial.along before
      → IsAlong l.scale l.along (before ++ take l.i l.entries);
  rows : (met : List Entry → Reply → List Met) (before : List Entry) → IsAlong l.scale l.initial.along before
      → TellsMet met before l.entries (met_lists l.found)
      → Appends (append_known (g.W.Sink.contents l.initial.writer) l.initial.lines)
      (append_known (g.W.Sink.contents l.writer) l.lines)
      (rows_text l.scale met l.span.from 0 (frames_in l.span (frames_of (before ++ take l.i l.entries))));
  unfailed : g.W.Sink.has_failed l.writer ≡ g.W.Sink.has_failed l.initial.writer;
}
