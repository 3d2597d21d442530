-- The entries so far, as many as there were turns, of which what they add is written or waits, and nothing failed.
use Rattle.std.proofs.Common.{◌≡◌, ℕ, List, Option, length}
use Rattle.std.specs.Io.KnownBytes.{Appends, append_known}
use Rattle.journal_entries.specs.Next.{HasGiven}
use Rattle.pcap_command.specs.Journal.{entries_text}
use Rattle.pcap_command.proofs.journal.put_entries.Given as goal

abbrev pub invariant-loop : goal.invariant-loop
invariant-loop g l = record {
  so_far : (before : Option (List ℕ)) → HasGiven before (g.R.Source.remaining l.initial.reader) l.initial.entries
      → HasGiven before (g.R.Source.remaining l.reader) l.entries;
  same : l.entries.auditor.config ≡ l.initial.entries.auditor.config;
  written : Appends (append_known (g.W.Sink.contents l.initial.writer) l.initial.buffer)
      (append_known (g.W.Sink.contents l.writer) l.buffer)
      (entries_text l.config l.address l.entries.auditor.history);
  count : l.counter ≡ length l.entries.auditor.history;
  read : g.R.Source.has_failed l.reader ≡ g.R.Source.has_failed l.initial.reader;
  wrote : g.W.Sink.has_failed l.writer ≡ g.W.Sink.has_failed l.initial.writer;
}
