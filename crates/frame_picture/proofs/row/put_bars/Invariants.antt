-- Bars, one after the other.
use Rattle.std.proofs.Common.{◌≡◌, false, get_or, map, flat_map}
use Rattle.std.specs.List.{range_with_len}
use Rattle.std.specs.Io.KnownBytes.{Appends, append_known}
use Rattle.frame_picture.specs.Bar.{bar_at}
use Rattle.frame_picture.specs.Bars.{bar_text}
use Rattle.frame_picture.proofs.row.put_bars.Given as goal

-- the bars so far are written or wait
abbrev pub invariant-loop-i : goal.invariant-loop-i
invariant-loop-i g l =
    Appends (append_known (g.W.Sink.contents l.initial.writer) l.initial.lines)
    (append_known (g.W.Sink.contents l.writer) l.lines)
    (flat_map bar_text
    (map (bar_at l.units (λ sid. get_or l.flows sid false) l.met l.elements l.bytes) (range_with_len 0 l.i)))
    × (g.W.Sink.has_failed l.writer ≡ g.W.Sink.has_failed l.initial.writer)
