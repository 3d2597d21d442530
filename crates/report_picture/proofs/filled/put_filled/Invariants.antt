-- Characters, one after the other.
use Rattle.std.proofs.Common.{◌≡◌, take, get_or, slice_get, flat_map}
use Rattle.std.specs.List.{range_with_len}
use Rattle.std.specs.Io.KnownBytes.{Appends, append_known}
use Rattle.report_picture.specs.Filled.{part_text, holes}
use Rattle.report_picture.proofs.filled.put_filled.Given as goal

-- the characters so far are written or wait, and the next number has the place of the next hole
abbrev pub invariant-loop-i : goal.invariant-loop-i
invariant-loop-i g l =
    (l.next ≡ holes (take l.i l.template))
    × Appends (append_known (g.W.Sink.contents l.initial.writer) l.initial.lines)
    (append_known (g.W.Sink.contents l.writer) l.lines)
    (flat_map (λ j. part_text (get_or l.template j 0) (slice_get l.numbers (holes (take j l.template))))
    (range_with_len 0 l.i))
    × (g.W.Sink.has_failed l.writer ≡ g.W.Sink.has_failed l.initial.writer)
