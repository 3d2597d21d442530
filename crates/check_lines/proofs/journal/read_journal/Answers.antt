-- What was found behind the configuration.
use Rattle.check_lines.proofs.ReadJournals.{FindsEnd-opened}
use Rattle.check_lines.proofs.journal.read_journal.Goals as goal

pub returns-in-Ok-Some-clause-finds : goal.returns-in-Ok-Some-clause-finds
returns-in-Ok-Some-clause-finds g c =
    let opened = (rw c.in-Ok-Some.field-0-is at c.in-Ok-Some.ensures).opened in
    FindsEnd-opened c.read_entries.result _ _ _ c.in-Ok-Some.entries c.read_entries.ensures.finds opened.stand
