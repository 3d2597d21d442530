-- Ticks, one after the other.
use Rattle.std.proofs.Common.{◌≡◌, ◌*◌, flat_map}
use Rattle.std.specs.List.{range_with_len}
use Rattle.std.specs.Io.KnownBytes.{Appends, append_known}
use Rattle.frame_picture.specs.Axis.{tick_step, tick_text}
use Rattle.frame_picture.proofs.axis.put_ticks.Given as goal

-- the ticks so far are written or wait
abbrev pub invariant-loop-i : goal.invariant-loop-i
invariant-loop-i g l =
    Appends (append_known (g.W.Sink.contents l.initial.writer) l.initial.lines)
    (append_known (g.W.Sink.contents l.writer) l.lines)
    (flat_map (λ i. tick_text l.scale l.depth (tick_step l.scale.frame * i)) (range_with_len 0 l.i))
    × (g.W.Sink.has_failed l.writer ≡ g.W.Sink.has_failed l.initial.writer)
