-- Writing bytes piece by piece.
use Rattle.std.proofs.Common.{◌≡◌, ◌-◌, ◌≤◌, length, take}
use Rattle.std.specs.Io.KnownBytes.{Appends}
use Rattle.live_command.proofs.outbox.write.Given as goal

-- the bytes before the place are written, and no write failed
abbrev pub invariant-loop-at : goal.invariant-loop-at
invariant-loop-at g l = record {
  within : l.at ≤ length l.bytes;
  written : Appends (g.W.Sink.contents l.initial.writer) (g.W.Sink.contents l.writer) (take l.at l.bytes);
  unfailed : g.W.Sink.has_failed l.writer ≡ g.W.Sink.has_failed l.initial.writer;
}

abbrev pub decreases-loop-at : goal.decreases-loop-at
decreases-loop-at g l = length l.bytes - l.at
