-- Where no line is at hand nothing has changed.
use Rattle.std.proofs.Common.{subst}
use Rattle.text_stream.specs.Told.{AtHand, untold, StopsLine}
use Rattle.text_stream.proofs.lines.Lines.next_whole.Goals as goal

pub returns-in-Err-clause-stops : goal.returns-in-Err-clause-stops
returns-in-Err-clause-stops g c =
    subst (λ (h : AtHand). StopsLine (untold h (g.R.Source.remaining c.args.reader.now))
    (g.R.Source.remaining c.read_on.new.reader) c.in-Err.fault) c.in_default.ensures.1 c.in-Err.ensures.stops
