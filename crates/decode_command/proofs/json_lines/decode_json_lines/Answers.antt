-- Each line is decoded behind the others, and nothing is told of one that is not.
use Rattle.std.proofs.Common.{refl, ap, ◌∙◌, arith}
use Rattle.text_stream.specs.Told.{AtHand, untold}
use Rattle.decode_command.proofs.JsonDecoding.{Telling-none, front-none, Telling-push, Telling-stops, Telling-much}
use Rattle.decode_command.proofs.json_lines.decode_json_lines.Goals as goal

pub returns-in_default-clause-stops : goal.returns-in_default-clause-stops
returns-in_default-clause-stops g c =
    front-none c.args.form (g.R.Source.remaining c.args.reader.now) (g.W.Sink.contents c.args.writer.now)

pub loop-line-init : goal.loop-line-init
loop-line-init g c = (
  Telling-none c.args.form (g.R.Source.remaining c.args.reader.now) (g.W.Sink.contents c.args.writer.now)
      c.in-Ok.lines (ap (λ (h : AtHand). h.bytes) c.in-Ok.ensures),
  refl,
  refl,
)

pub returns-in-Err-clause-stops : goal.returns-in-Err-clause-stops
returns-in-Err-clause-stops g c =
    Telling-stops c.args.form (g.R.Source.remaining c.args.reader.now) (g.W.Sink.contents c.args.writer.now)
    (untold c.loop-line.lines (g.R.Source.remaining c.loop-line.reader)) (g.R.Source.remaining c.next.new.reader)
    (g.W.Sink.contents c.loop-line.writer) c.loop-line.is_well c.loop-line.line c.in-Err.fault
    c.loop-line.invariant.0 c.in-Err.ensures.stops

pub loop-line-preserved : goal.loop-line-preserved
loop-line-preserved g c =
    let at = c.loop-line in
    let next = rw c.in-Ok-Some.field-0-is at c.in-Ok-Some.ensures.told in
    let puts = rw c.line.ensures at c.in-Ok-push_told.ensures in
    let writes = rw c.deref.ensures.value at c.in_ok-put.ensures in (
      rw c.stays_well-is_well.ensures
          (Telling-push c.args.form (g.R.Source.remaining c.args.reader.now) (g.W.Sink.contents c.args.writer.now)
          (untold at.lines (g.R.Source.remaining at.reader))
          (untold c.next.new.self (g.R.Source.remaining c.next.new.reader))
          (g.W.Sink.contents at.writer) (g.W.Sink.contents c.put.new.writer) at.is_well c.in-Ok-push_told.is' at.line
          next.line c.push_told.new.words.items at.invariant.0 next.taken (puts next.line next.is) writes.0),
      c.in-Ok-Some.ensures.failed ∙ at.invariant.1,
      writes.1 ∙ at.invariant.2,
    )

pub returns-clause-stops : goal.returns-clause-stops
returns-clause-stops g c =
    Telling-much c.args.form (g.R.Source.remaining c.args.reader.now) (g.W.Sink.contents c.args.writer.now)
    (untold c.loop-line.lines (g.R.Source.remaining c.loop-line.reader)) (g.R.Source.remaining c.loop-line.reader)
    (g.W.Sink.contents c.loop-line.writer) c.loop-line.is_well c.loop-line.line
    c.loop-line.invariant.0 (omega (arith, c.loop-line-test.false))
