-- Each line is decoded behind the others, and nothing is told of one that is not.
use Rattle.std.proofs.Common.{refl, ap, ◌∙◌, arith}
use Rattle.text_stream.specs.Told.{AtHand, untold}
use Rattle.decode_command.specs.Lines.{start_at}
use Rattle.decode_command.proofs.Decoding.{Decoding-none, DecodesFront-none, Decoding-push, Decoding-stops}
use Rattle.decode_command.proofs.Decoding.{Decoding-much}
use Rattle.decode_command.proofs.lines.decode_lines.Goals as goal

pub returns-in_default-clause-stops : goal.returns-in_default-clause-stops
returns-in_default-clause-stops g c =
    DecodesFront-none (start_at c.args.form c.args.columns (g.R.Source.remaining c.args.reader.now)
    (g.W.Sink.contents c.args.writer.now) (g.E.Sink.contents c.args.errors.now)) _

pub loop-line-init : goal.loop-line-init
loop-line-init g c = (
  Decoding-none (start_at c.args.form c.args.columns (g.R.Source.remaining c.args.reader.now)
      (g.W.Sink.contents c.args.writer.now) (g.E.Sink.contents c.args.errors.now)) c.in-Ok.lines _
      (ap (λ (h : AtHand). h.bytes) c.in-Ok.ensures),
  refl,
  refl,
)

pub returns-in-Err-clause-stops : goal.returns-in-Err-clause-stops
returns-in-Err-clause-stops g c =
    Decoding-stops (start_at c.args.form c.args.columns (g.R.Source.remaining c.args.reader.now)
    (g.W.Sink.contents c.args.writer.now) (g.E.Sink.contents c.args.errors.now))
    (untold c.loop-line.lines (g.R.Source.remaining c.loop-line.reader)) (g.R.Source.remaining c.next.new.reader)
    (g.W.Sink.contents c.loop-line.writer) (g.E.Sink.contents c.loop-line.errors)
    (g.E.Sink.has_failed c.loop-line.errors) c.loop-line.is_first c.loop-line.is_well c.loop-line.line c.in-Err.fault
    c.loop-line.invariant.0 c.in-Err.ensures.stops

pub loop-line-preserved : goal.loop-line-preserved
loop-line-preserved g c =
    let at = c.loop-line in
    let found = c.in-Ok-decode_line.found in
    let told = c.decode_line.new.buffer.items in
    let next = rw c.in-Ok-Some.field-0-is at c.in-Ok-Some.ensures.told in
    let becomes = rw c.line.ensures at c.in-Ok-decode_line.ensures.ok in
    let shown = rw c.deref.ensures.value at c.in_ok-tell.ensures.shown in
    let said = rw c.deref.ensures.value at c.in_ok-tell.ensures.said in (
      rw (c.stays_first-is_first.ensures, c.stays_well-is_well.ensures)
          (Decoding-push (start_at c.args.form c.args.columns (g.R.Source.remaining c.args.reader.now)
          (g.W.Sink.contents c.args.writer.now) (g.E.Sink.contents c.args.errors.now))
          (untold at.lines (g.R.Source.remaining at.reader)) (untold c.next.new.self (g.R.Source.remaining c.next.new.reader))
          (g.W.Sink.contents at.writer) (g.W.Sink.contents c.tell.new.writer)
          (g.E.Sink.contents at.errors) (g.E.Sink.contents c.tell.new.errors)
          (g.E.Sink.has_failed at.errors) (g.E.Sink.has_failed c.tell.new.errors) at.is_first at.is_well at.line
          next.line told found at.invariant.0 next.taken (becomes next.line next.is) shown.0 said),
      c.in-Ok-Some.ensures.failed ∙ at.invariant.1,
      shown.1 ∙ at.invariant.2,
    )

pub returns-clause-stops : goal.returns-clause-stops
returns-clause-stops g c =
    Decoding-much (start_at c.args.form c.args.columns (g.R.Source.remaining c.args.reader.now)
    (g.W.Sink.contents c.args.writer.now) (g.E.Sink.contents c.args.errors.now))
    (untold c.loop-line.lines (g.R.Source.remaining c.loop-line.reader)) (g.R.Source.remaining c.loop-line.reader)
    (g.W.Sink.contents c.loop-line.writer) (g.E.Sink.contents c.loop-line.errors)
    (g.E.Sink.has_failed c.loop-line.errors) c.loop-line.is_first c.loop-line.is_well c.loop-line.line
    c.loop-line.invariant.0 (omega (arith, c.loop-line-test.false))
