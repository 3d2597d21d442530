-- A turn more is told of.
use Rattle.std.proofs.Common.{◌∙◌, sym, refl, subst, arith}
use Rattle.minislots.specs.declared.config.Config.{Config}
use Rattle.report_command.specs.JournalSeries.{IsJournalTold}
use Rattle.report_command.proofs.journal_series.tell_entries.Goals as goal

pub returns-in-Ok-Some-clause-told : goal.returns-in-Ok-Some-clause-told
returns-in-Ok-Some-clause-told g c = λ unread before start.
    let at = c.loop-place in
    let form = c.args.form in
    let left = g.R.Source.remaining c.tell_next.new.reader in
    let to = g.W.Sink.contents c.tell_next.new.writer in
    let end = c.in-Ok-Some.end in
    let told = (rw c.in-Ok-Some.field-0-is at c.in-Ok-Some.ensures).told unread before
    (at.invariant.so_far unread before start) in
    subst (λ (k : Config). IsJournalTold form c.args.series.every unread left k before to end) at.invariant.config
    (subst (λ n. IsJournalTold form n unread left at.series.told.config before to end) at.invariant.every told)

pub returns-in-Ok-Some-clause-failed_write : goal.returns-in-Ok-Some-clause-failed_write
returns-in-Ok-Some-clause-failed_write g c = λ unread before start.
    let at = c.loop-place.invariant in
    c.in-Ok-Some.ensures.failed_write unread before (at.so_far unread before start) ∙ at.writer unread before start

pub returns-in-Err-clause-stops : goal.returns-in-Err-clause-stops
returns-in-Err-clause-stops g c = λ unread before start.
    c.in-Err.ensures.stops unread before (c.loop-place.invariant.so_far unread before start)

pub returns-in-Err-clause-failed_write : goal.returns-in-Err-clause-failed_write
returns-in-Err-clause-failed_write g c = λ unread before start.
    c.in-Err.ensures.failed_write unread before (c.loop-place.invariant.so_far unread before start)

pub loop-place-preserved : goal.loop-place-preserved
loop-place-preserved g c =
    let at = c.loop-place.invariant in
    let next = (rw c.in-Ok-None.field-0-is at c.in-Ok-None.ensures) in
    record {
      so_far = λ unread before start. next.told unread before (at.so_far unread before start);
      config = c.tell_next.ensures.config ∙ at.config;
      every = c.tell_next.ensures.every ∙ at.every;
      count = sym (next.few refl).0;
      most = omega (arith, (next.few refl).0, (next.few refl).1);
      reader = next.failed_read ∙ at.reader;
      writer = λ unread before start. next.failed_write unread before (at.so_far unread before start)
          ∙ at.writer unread before start;
    }
