-- Shades, one after the other.
use Rattle.std.proofs.Common.{◌≡◌, flat_map}
use Rattle.std.specs.List.{range_with_len}
use Rattle.std.specs.Io.KnownBytes.{Appends, append_known}
use Rattle.frame_picture.specs.Shade.{shade_rule}
use Rattle.frame_picture.proofs.shade.put_shade_rules.Given as goal

-- the shades so far are written or wait
abbrev pub invariant-loop-shade : goal.invariant-loop-shade
invariant-loop-shade g l =
    Appends (append_known (g.W.Sink.contents l.initial.writer) l.initial.lines)
    (append_known (g.W.Sink.contents l.writer) l.lines)
    (flat_map shade_rule (range_with_len 0 l.shade))
    × (g.W.Sink.has_failed l.writer ≡ g.W.Sink.has_failed l.initial.writer)
