-- Lines were told, all of them blank, and no read failed.
use Rattle.std.proofs.Common.{◌≡◌}
use Rattle.text_stream.specs.Told.{untold}
use Rattle.live_command.proofs.OpeningLines.{PassesBlanks}
use Rattle.live_command.proofs.opening.next_spoken.Given as goal

abbrev pub invariant-loop : goal.invariant-loop
invariant-loop g l = record {
  passes : PassesBlanks (untold l.fn.lines (g.R.Source.remaining l.fn.reader))
      (untold l.lines (g.R.Source.remaining l.reader)) l.counter;
  unfailed : g.R.Source.has_failed l.reader ≡ g.R.Source.has_failed l.fn.reader;
}
