-- A line at hand is the next one, and else one that was read. Where none is at hand nothing has changed.
use Rattle.std.proofs.Common.{subst}
use Rattle.text_stream.specs.Told.{AtHand, untold, TellsNext, StopsReading}
use Rattle.text_stream.proofs.Reading.{TellsNext-whole, TellsWhole-at_hand, TellsNext-cut}
use Rattle.text_stream.proofs.lines.Lines.next_reading.Goals as goal

pub returns-in-Some-clause-told : goal.returns-in-Some-clause-told
returns-in-Some-clause-told g c =
    TellsNext-whole _ _ _ c.in-Some.told (TellsWhole-at_hand _ _ _ c.in-Some.told c.in-Some.ensures)

pub returns-in-Ok-Some-clause-told : goal.returns-in-Ok-Some-clause-told
returns-in-Ok-Some-clause-told g c =
    let left = untold c.read_on.new.self (g.R.Source.remaining c.read_on.new.reader) in
    let told = (rw c.in-Ok-Some.field-0-is at c.in-Ok-Some.ensures).told in
    subst (λ (h : AtHand). TellsNext (untold h (g.R.Source.remaining c.args.reader.now)) left c.read_on.new.self
    c.in-Ok-Some.cut.told) c.in_default.ensures.1 (TellsNext-cut _ left c.read_on.new.self c.in-Ok-Some.cut told)

pub returns-in-Err-clause-stops : goal.returns-in-Err-clause-stops
returns-in-Err-clause-stops g c =
    subst (λ (h : AtHand). StopsReading c.args.reads_on
    (untold h (g.R.Source.remaining c.args.reader.now))
    (g.R.Source.remaining c.read_on.new.reader) c.in-Err.fault) c.in_default.ensures.1 c.in-Err.ensures.stops
