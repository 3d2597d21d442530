-- The entries that were taken are drawn.
use Rattle.std.proofs.Common.{◌≡◌, ◌∙◌, List, ℕ, Option}
use Rattle.std.proofs.lemmas.Result.{err_from_is_err_and}
use Rattle.text_stream.specs.declared.fault.TextFault.{TextFault}
use Rattle.text_stream.specs.declared.fault.TextFault.TheVariants.{Input, TooLong, NotJson, Shape, Config, Memory}
use Rattle.text_stream.specs.declared.fault.TextFault.TheVariants.{Output}
use Rattle.text_stream.specs.declared.run_fault.RunFault.TheVariants.{Text}
use Rattle.frame_picture.specs.declared.span.Span.{Span}
use Rattle.draw_command.specs.Journal.{StopsEntries, StopsJournalDrawing}
use Rattle.draw_command.proofs.journal.draw_entries.Goals as goal

-- what stops the entries stops their drawing
stops_drawing : (span : Span) (unread left : Option (List ℕ)) (fault : TextFault) → StopsEntries span unread left fault
    → StopsJournalDrawing span unread left (Text fault)
stops_drawing span unread left Input stops = stops
stops_drawing span unread left TooLong stops = stops
stops_drawing span unread left NotJson stops = absurd stops
stops_drawing span unread left (Shape n) stops = absurd stops
stops_drawing span unread left (Config field) stops = absurd stops
stops_drawing span unread left Memory stops = tt
stops_drawing span unread left Output stops = absurd stops

-- and it is no write that failed
no_write : (span : Span) (unread left : Option (List ℕ)) (fault : TextFault) → StopsEntries span unread left fault
    → Text fault ≡ Text Output → ⊥
no_write span unread left Input stops is = cc
no_write span unread left TooLong stops is = cc
no_write span unread left NotJson stops is = stops
no_write span unread left (Shape n) stops is = stops
no_write span unread left (Config field) stops is = stops
no_write span unread left Memory stops is = cc
no_write span unread left Output stops is = stops

pub returns-in-Err-clause-stops : goal.returns-in-Err-clause-stops
returns-in-Err-clause-stops g c = λ before read.
    stops_drawing c.args.span before (g.R.Source.remaining c.take_entries.new.reader) c.in-Err.fault
    (rw c.in-Ok.ensures.span at (c.in-Err.ensures.stops before (rw c.in-Ok.ensures.config read)))

pub returns-in-Err-clause-failed_write : goal.returns-in-Err-clause-failed_write
returns-in-Err-clause-failed_write g c = λ before read is.
    absurd (no_write c.args.span before (g.R.Source.remaining c.take_entries.new.reader) c.in-Err.fault
    (rw c.in-Ok.ensures.span at (c.in-Err.ensures.stops before (rw c.in-Ok.ensures.config read))) is)

pub returns-in_err-put_part-clause-failed_write : goal.returns-in_err-put_part-clause-failed_write
returns-in_err-put_part-clause-failed_write g c = λ before read.
    let p = err_from_is_err_and c.from_residual.result c.from_residual.ensures.1 in
    rw (p.1, p.2) (λ is. c.in_err-put_part.ensures.1)

pub returns-clause-draws : goal.returns-clause-draws
returns-clause-draws g c = λ before read.
    let config = c.in-Ok.ensures.config in
    let ends = c.in-Ok-take_entries.ensures.takes before (rw config read) in
    record {
      config = c.args.config.now;
      entries = c.take_entries.new.part.auditor.history;
      ends = rw config at ends;
      written = rw (
        c.in-Ok-take_entries.ensures.config ∙ config,
        c.in-Ok-take_entries.ensures.span ∙ c.in-Ok.ensures.span,
      ) at c.in_ok-put_part.ensures.0;
    }
