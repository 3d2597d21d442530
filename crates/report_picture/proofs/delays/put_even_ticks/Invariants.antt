-- One after the other.
use Rattle.std.proofs.Common.{◌≡◌, ◌*◌, flat_map}
use Rattle.std.specs.List.{range_with_len}
use Rattle.std.specs.Io.KnownBytes.{Appends, append_known}
use Rattle.report_picture.specs.Axis.{round_step}
use Rattle.report_picture.specs.Delays.{delay_tick}
use Rattle.report_picture.proofs.delays.put_even_ticks.Given as goal

-- those so far are written or wait
abbrev pub invariant-loop-i : goal.invariant-loop-i
invariant-loop-i g l =
    Appends (append_known (g.W.Sink.contents l.initial.writer) l.initial.lines)
    (append_known (g.W.Sink.contents l.writer) l.lines)
    (flat_map (λ i. delay_tick l.scale l.rows (round_step l.scale.tenths * i)) (range_with_len 0 l.i))
    × (g.W.Sink.has_failed l.writer ≡ g.W.Sink.has_failed l.initial.writer)
