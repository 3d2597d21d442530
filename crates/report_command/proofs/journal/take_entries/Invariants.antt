-- The entries so far, as many as there were turns, were taken by the reporter, and no read failed.
use Rattle.std.proofs.Common.{◌≡◌, ◌≤◌, ℕ, List, [], Option, length}
use Rattle.sched_calls.specs.declared.reply.TheConstants.{MAX_WHOLE_HISTORY}
use Rattle.journal_entries.specs.Unjudged.{HasRead}
use Rattle.report_command.proofs.journal.take_entries.Given as goal

abbrev pub invariant-loop-place : goal.invariant-loop-place
invariant-loop-place g l = record {
  so_far : (before : Option (List ℕ))
      → HasRead before (g.R.Source.remaining l.initial.reader) l.initial.entries l.initial.reporter.config []
      → HasRead before (g.R.Source.remaining l.reader) l.entries l.reporter.config l.reporter.history;
  config : l.reporter.config ≡ l.initial.reporter.config;
  range : l.reporter.range ≡ l.initial.reporter.range;
  count : l.place ≡ length l.reporter.history;
  most : length l.reporter.history ≤ MAX_WHOLE_HISTORY;
  unfailed : g.R.Source.has_failed l.reader ≡ g.R.Source.has_failed l.initial.reader;
}
