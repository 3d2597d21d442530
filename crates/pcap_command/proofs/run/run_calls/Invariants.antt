-- The calls so far, and their answers, of which what they put on the channel is written or waits, and no write failed.
use Rattle.std.proofs.Common.{◌≡◌, take}
use Rattle.std.specs.Io.KnownBytes.{append_known}
use Rattle.pcap_command.proofs.OnWire.{Runs}
use Rattle.pcap_command.specs.Items.{item_of}
use Rattle.pcap_command.proofs.run.run_calls.Given as goal

abbrev pub invariant-loop-place : goal.invariant-loop-place
invariant-loop-place g l =
    Runs (item_of l.output l.config l.address) l.initial.scheduler l.scheduler (take l.place l.calls)
    (append_known (g.W.Sink.contents l.initial.writer) l.initial.buffer)
    (append_known (g.W.Sink.contents l.writer) l.buffer)
    × (g.W.Sink.has_failed l.writer ≡ g.W.Sink.has_failed l.initial.writer)
