-- Lines were told, all of them blank, and no read failed.
use Rattle.std.proofs.Common.{◌≡◌}
use Rattle.text_stream.specs.Told.{untold}
use Rattle.check_lines.proofs.Openings.{Passes}
use Rattle.check_lines.proofs.opening.next_numbered.Given as goal

abbrev pub invariant-loop-before : goal.invariant-loop-before
invariant-loop-before g l = record {
  passes : Passes (untold l.fn.lines (g.R.Source.remaining l.fn.reader))
      (untold l.lines (g.R.Source.remaining l.reader)) l.before;
  unfailed : g.R.Source.has_failed l.reader ≡ g.R.Source.has_failed l.fn.reader;
}
