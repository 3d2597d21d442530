-- The lines so far were heard, and no read failed.
use Rattle.std.proofs.Common.{◌≡◌}
use Rattle.text_stream.specs.Told.{untold}
use Rattle.check_lines.specs.Live.{HearsSoFar}
use Rattle.check_lines.proofs.live.hear_lines.Given as goal

abbrev pub invariant-loop-before : goal.invariant-loop-before
invariant-loop-before g l = record {
  so_far : HearsSoFar l.passed l.before (untold l.fn.lines (g.R.Source.remaining l.fn.reader))
      (untold l.lines (g.R.Source.remaining l.reader)) l.talk;
  unfailed : g.R.Source.has_failed l.reader ≡ g.R.Source.has_failed l.fn.reader;
}
