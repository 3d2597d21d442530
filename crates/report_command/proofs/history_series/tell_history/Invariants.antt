-- What was told so far is of the entries gone through, which are legal, and nothing failed.
use Rattle.std.proofs.Common.{◌≡◌, List, ℕ, take}
use Rattle.std.specs.Prelude.{max}
use Rattle.std.specs.Io.KnownBytes.{Appends}
use Rattle.sched_history.specs.History.{IsLegal}
use Rattle.report_command.specs.Series.{IsTellerOf}
use Rattle.report_command.proofs.history_series.tell_history.Given as goal

abbrev pub invariant-loop-index : goal.invariant-loop-index
invariant-loop-index g l = record {
  tells : (text : List ℕ) × IsTellerOf l.fn.form l.series text
      × Appends (g.W.Sink.contents l.initial.writer) (g.W.Sink.contents l.writer) text;
  config : l.series.told.config ≡ l.config;
  every : l.series.every ≡ max l.fn.every 1;
  history : l.series.told.history ≡ take l.index l.entries;
  legal : IsLegal l.config (take l.index l.entries);
  writer : g.W.Sink.has_failed l.writer ≡ g.W.Sink.has_failed l.initial.writer;
}
