-- What was found was written.
use Rattle.check_lines.proofs.check.check_journal.Goals as goal

pub returns-clause-ok : goal.returns-clause-ok
returns-clause-ok g c = record {
  count = c.in_ok-report.report.entries;
  found = c.in_ok-report.ensures.finds;
  words = c.as_str.result.now;
  written = c.in_ok-put_journal_as.ensures.ok;
}
