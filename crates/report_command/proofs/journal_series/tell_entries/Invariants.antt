-- What was told so far is of as many entries as there were turns, and nothing failed.
use Rattle.std.proofs.Common.{◌≡◌, ◌≤◌, ℕ, List, Option, length}
use Rattle.sched_calls.specs.declared.reply.TheConstants.{MAX_WHOLE_HISTORY}
use Rattle.report_command.specs.JournalSeries.{IsToldSoFar}
use Rattle.report_command.proofs.journal_series.tell_entries.Given as goal

abbrev pub invariant-loop-place : goal.invariant-loop-place
invariant-loop-place g l = record {
  so_far : (unread before : Option (List ℕ))
      → IsToldSoFar l.form unread (g.R.Source.remaining l.initial.reader) l.initial.entries l.initial.series before
      (g.W.Sink.contents l.initial.writer)
      → IsToldSoFar l.form unread (g.R.Source.remaining l.reader) l.entries l.series before
      (g.W.Sink.contents l.writer);
  config : l.series.told.config ≡ l.initial.series.told.config;
  every : l.series.every ≡ l.initial.series.every;
  count : l.place ≡ length l.series.told.history;
  most : length l.series.told.history ≤ MAX_WHOLE_HISTORY;
  reader : g.R.Source.has_failed l.reader ≡ g.R.Source.has_failed l.initial.reader;
  writer : (unread before : Option (List ℕ))
      → IsToldSoFar l.form unread (g.R.Source.remaining l.initial.reader) l.initial.entries l.initial.series before
      (g.W.Sink.contents l.initial.writer)
      → g.W.Sink.has_failed l.writer ≡ g.W.Sink.has_failed l.initial.writer;
}
