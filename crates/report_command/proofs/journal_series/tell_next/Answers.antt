-- Behind what was told so far stands the part that is over, or what ends the journal.
use Rattle.std.proofs.Common.{◌≡◌, ◌++◌, ◌∷◌, [], List, ℕ, Option, sym, subst, inl, arith}
use Rattle.std.proofs.Common.{◌+◌, codes}
use Rattle.journal_entries.specs.Standing.{StandFor}
use Rattle.std.specs.Io.KnownBytes.{Appends}
use Rattle.std.proofs.KnownBytes.{Appends-trans}
use Rattle.text_stream.specs.declared.fault.TextFault.{TextFault}
use Rattle.text_stream.specs.declared.fault.TextFault.TheVariants.{Input, TooLong, NotJson, Shape, Config, Memory}
use Rattle.text_stream.specs.declared.fault.TextFault.TheVariants.{Output}
use Rattle.text_stream.specs.declared.run_fault.RunFault.TheVariants.{Text as Stopped}
use Rattle.sched_lines.specs.Line.{number_line}
use Rattle.journal_entries.specs.Journal.{StopsJournal, FindsIllegalIn, FindsNoEntryIn}
use Rattle.journal_entries.specs.End.{StopsCommand, EndsIllegal}
use Rattle.journal_entries.proofs.Reading.{FindsIllegal-with, HasTooMany-with}
use Rattle.report_command.specs.JournalSeries.{IsJournalTold}
use Rattle.report_command.proofs.Growing.{entered-as, ended}
use Rattle.report_command.proofs.journal_series.tell_next.Goals as goal

stopped : (before left : Option (List ℕ)) (fault : TextFault) → StopsJournal before left fault
    → StopsCommand before left (Stopped fault)
stopped before left Input is = is
stopped before left TooLong is = is
stopped before left NotJson is = is
stopped before left (Shape n) is = is
stopped before left (Config field) is = is
stopped before left Memory is = is
stopped before left Output is = absurd is

no-output : (before left : Option (List ℕ)) (fault : TextFault) → StopsJournal before left fault → fault ≡ Output → ⊥
no-output before left Output stops is = stops
no-output before left Input stops is = cc
no-output before left TooLong stops is = cc
no-output before left NotJson stops is = stops
no-output before left (Shape n) stops is = stops
no-output before left (Config field) stops is = stops
no-output before left Memory stops is = cc

pub overflow_add-result : goal.overflow_add-result
overflow_add-result g c = omega (arith, c.requires.few)

pub returns-in-Ok-NoEntry-clause-told : goal.returns-in-Ok-NoEntry-clause-told
returns-in-Ok-NoEntry-clause-told g c = λ unread before so_far.
    let s = c.args.series.now in (
      s.told.history,
      so_far.text,
      subst (λ n. FindsNoEntryIn unread (g.R.Source.remaining c.next.new.reader) s.told.config s.told.history (n + 1))
          (sym c.requires.count)
          ((rw c.in-Ok-NoEntry.field-0-is at c.in-Ok-NoEntry.ensures).reads unread s.told.config s.told.history so_far.read),
      ended c.args.form s so_far.text so_far.tells,
      so_far.written,
    )

pub returns-in-Ok-End-clause-told : goal.returns-in-Ok-End-clause-told
returns-in-Ok-End-clause-told g c = λ unread before so_far.
    let s = c.args.series.now in
    let rest = c.in_ok-tell_last-in-Ok-End.ensures.ok in (
      s.told.history,
      so_far.text ++ rest.last,
      (rw c.in-Ok-End.field-0-is at c.in-Ok-End.ensures).reads unread s.told.config s.told.history so_far.read,
      rest.tells so_far.text so_far.tells,
      Appends-trans before (g.W.Sink.contents c.args.writer.now) (g.W.Sink.contents c.tell_last.new.writer) so_far.text
          rest.last so_far.written rest.written,
    )

pub returns-in-Err-clause-stops : goal.returns-in-Err-clause-stops
returns-in-Err-clause-stops g c = λ unread before so_far.
    let s = c.args.series.now in
    stopped unread (g.R.Source.remaining c.next.new.reader) c.in-Err.fault
    (c.in-Err.ensures.stops unread s.told.config s.told.history so_far.read)

pub returns-in-Err-clause-failed_write : goal.returns-in-Err-clause-failed_write
returns-in-Err-clause-failed_write g c = λ unread before so_far output.
    let s = c.args.series.now in
    absurd (no-output unread (g.R.Source.remaining c.next.new.reader) c.in-Err.fault
    (c.in-Err.ensures.stops unread s.told.config s.told.history so_far.read) output)

pub returns-in-Ok-clause-told : goal.returns-in-Ok-clause-told
returns-in-Ok-clause-told g c = λ unread before so_far.
    let s = c.args.series.now in
    let new = c.tell_entry.new.series in
    let e = c.in-Ok-Entry.entry in
    let told = c.in-Ok.ensures.ok in
    let stands = (rw c.in-Ok-Entry.field-0-is at c.in-Ok-Entry.ensures).reads unread s.told.config s.told.history so_far.read in
    record {
      read = record {
        lines = stands.lines;
        came = stands.came;
        stand = entered-as (StandFor stands.lines) s new e told.entered stands.stand;
        legal = c.tell_entry.ensures.legal;
      };
      text = so_far.text ++ told.more;
      tells = told.tells so_far.text so_far.tells;
      written = Appends-trans before (g.W.Sink.contents c.args.writer.now) (g.W.Sink.contents c.tell_entry.new.writer)
          so_far.text told.more so_far.written told.written;
    }

pub returns-in-Err-Judged-Illegal-clause-told : goal.returns-in-Err-Judged-Illegal-clause-told
returns-in-Err-Judged-Illegal-clause-told g c = λ unread before so_far.
    let s = c.args.series.now in
    let e = c.in-Ok-Entry.entry in
    let left = g.R.Source.remaining c.next.new.reader in
    let from = g.W.Sink.contents c.args.writer.now in
    let to = g.W.Sink.contents c.put_illegal_entry.new.writer in
    let line = number_line (codes "illegal") c.args.place in
    let end = c.in_ok-end-in-Err-Judged-Illegal.ensures in
    let stands = (rw c.in-Ok-Entry.field-0-is at c.in-Ok-Entry.ensures).reads unread s.told.config s.told.history so_far.read in
    let fault = (rw (c.in-Err-Judged-Illegal.field-0-is, c.in-Err-Judged-Illegal.field-0-0-is)
    at c.in-Err-Judged-Illegal.ensures).err in
    let here : EndsIllegal unread left s.told.config s.told.history c.args.place = record {
      entry = e;
      found = subst (FindsIllegalIn unread left s.told.config (s.told.history ++ e ∷ [])) (sym c.requires.count)
          (FindsIllegal-with unread _ left s.told.config s.told.history e stands so_far.read.legal fault.0);
      behind = c.requires.count;
    } in
    let wrote : Appends before to (so_far.text ++ line) =
    Appends-trans before from to so_far.text line so_far.written
    (subst (λ (mid : Option (List ℕ)). Appends mid to line) fault.1 end.written.0) in
    subst (IsJournalTold c.args.form s.every unread left s.told.config before to) (sym end.end)
    (s.told.history, so_far.text, here, ended c.args.form s so_far.text so_far.tells, wrote)

pub returns-in-Err-Judged-Full-clause-stops : goal.returns-in-Err-Judged-Full-clause-stops
returns-in-Err-Judged-Full-clause-stops g c = λ unread before so_far.
    let s = c.args.series.now in
    let e = c.in-Ok-Entry.entry in
    let stands = (rw c.in-Ok-Entry.field-0-is at c.in-Ok-Entry.ensures).reads unread s.told.config s.told.history so_far.read in
    let fault = (rw (c.in-Err-Judged-Full.field-0-is, c.in-Err-Judged-Full.field-0-0-is)
    at c.in-Err-Judged-Full.ensures).err in
    inl (HasTooMany-with unread _ _ s.told.config s.told.history e stands fault.0)
