-- Axes, one after the other.
use Rattle.std.proofs.Common.{◌≡◌, flat_map}
use Rattle.std.specs.List.{range_with_len}
use Rattle.std.specs.Io.KnownBytes.{Appends, append_known}
use Rattle.frame_picture.specs.Axis.{axis_text}
use Rattle.frame_picture.proofs.axis.put_axes.Given as goal

-- the axes so far are written or wait
abbrev pub invariant-loop-axis : goal.invariant-loop-axis
invariant-loop-axis g l =
    Appends (append_known (g.W.Sink.contents l.initial.writer) l.initial.lines)
    (append_known (g.W.Sink.contents l.writer) l.lines)
    (flat_map (axis_text l.scale l.rows) (range_with_len 0 l.axis))
    × (g.W.Sink.has_failed l.writer ≡ g.W.Sink.has_failed l.initial.writer)
