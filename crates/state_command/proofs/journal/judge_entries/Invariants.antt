-- The lines so far stand for the entries that were given, as many as there were turns,
-- under the same configuration, and no read failed.
use Rattle.std.proofs.Common.{◌≡◌, ℕ, List, Option, length}
use Rattle.journal_entries.specs.Next.{HasGiven}
use Rattle.state_command.proofs.journal.judge_entries.Given as goal

abbrev pub invariant-loop : goal.invariant-loop
invariant-loop g l = record {
  so_far : (before : Option (List ℕ)) → HasGiven before (g.R.Source.remaining l.fn.reader) l.fn.entries
      → HasGiven before (g.R.Source.remaining l.reader) l.entries;
  count : l.counter ≡ length l.entries.auditor.history;
  config : l.entries.auditor.config ≡ l.fn.entries.auditor.config;
  unfailed : g.R.Source.has_failed l.reader ≡ g.R.Source.has_failed l.fn.reader;
}
