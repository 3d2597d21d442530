-- Writing bytes one after the other.
use Rattle.std.proofs.Common.{◌≡◌, take}
use Rattle.std.specs.List.{flat_map}
use Rattle.std.specs.Io.KnownBytes.{Appends}
use Rattle.decode_command.specs.Frame.{byte_text}
use Rattle.decode_command.proofs.frame.put_bytes.Given as goal

-- the bytes so far are written, and no write failed
abbrev pub invariant-loop-byte : goal.invariant-loop-byte
invariant-loop-byte g l =
    Appends (g.W.Sink.contents l.initial.writer) (g.W.Sink.contents l.writer)
    (flat_map byte_text (take l.byte-index l.bytes))
    × (g.W.Sink.has_failed l.writer ≡ g.W.Sink.has_failed l.initial.writer)
