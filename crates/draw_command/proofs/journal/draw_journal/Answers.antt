-- No write but those of the picture.
use Rattle.draw_command.proofs.journal.draw_journal.Goals as goal

pub returns-in-Ok-Some-clause-failed_write : goal.returns-in-Ok-Some-clause-failed_write
returns-in-Ok-Some-clause-failed_write g c =
    c.draw_entries.ensures.failed_write (g.R.Source.remaining c.args.reader.now)
    (rw c.in-Ok-Some.field-0-is at c.in-Ok-Some.ensures.opened)
