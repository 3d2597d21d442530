-- No line is too long, each is read again, and those of a journal that was cut, or was resumed and left, stand for its
-- first entries, or all.
use Rattle.laws.proofs.LinesAgain.{entry_line-read, journal_text-read}
use Rattle.laws.proofs.ReadableLines.{history_readable}
use Rattle.laws.proofs.CutLines.{journal_text-cut}
use Rattle.laws.proofs.FoundAgain.{found_again, whole_again}
use Rattle.laws.proofs.journal.every_journal.Goals as goal

pub returns-clause-entry_line : goal.returns-clause-entry_line
returns-clause-entry_line c = entry_line-read

pub returns-clause-readable : goal.returns-clause-readable
returns-clause-readable c = history_readable

pub returns-clause-journal_again : goal.returns-clause-journal_again
returns-clause-journal_again c =
    λ config es is types. journal_text-read config es is.config_fits is.lawful (history_readable config es is types)

pub returns-clause-cut : goal.returns-clause-cut
returns-clause-cut c = journal_text-cut

pub returns-clause-found_again : goal.returns-clause-found_again
returns-clause-found_again c = found_again

pub returns-clause-whole_again : goal.returns-clause-whole_again
returns-clause-whole_again c = whole_again
