-- An entry more, and whatever ends the journal.
use Rattle.std.proofs.Common.{◌≡◌, ℕ, ◌+◌, List, Option, ◌∷◌, [], length, refl, sym, ap, subst, ◌∙◌, arith}
use Rattle.std.proofs.Common.{length-append}
use Rattle.std.specs.Io.KnownBytes.{Appends}
use Rattle.std.proofs.KnownBytes.{Appends-nil}
use Rattle.sched_history.specs.Machine.{Past}
use Rattle.text_stream.specs.declared.fault.TextFault.{TextFault}
use Rattle.text_stream.specs.declared.fault.TextFault.TheVariants.{Input, TooLong, NotJson, Shape, Config, Memory}
use Rattle.text_stream.specs.declared.fault.TextFault.TheVariants.{Output}
use Rattle.journal_entries.specs.Journal.{StopsJournal}
use Rattle.pcap_command.specs.Journal.{StopsEntries, entries_text}
use Rattle.journal_entries.specs.declared.end.EntriesEnd.TheVariants.{Legal, Illegal, Bad}
use Rattle.journal_entries.specs.End.{EndsBehind}
use Rattle.pcap_command.proofs.Entries.{Puts-push, entries_text-none}
use Rattle.pcap_command.proofs.journal.put_entries.Goals as goal

-- what stops a journal stops its capture
stops_capture : (unread left : Option (List ℕ)) (fault : TextFault) → StopsJournal unread left fault
    → StopsEntries unread left fault
stops_capture unread left Input stops = tt
stops_capture unread left TooLong stops = stops
stops_capture unread left NotJson stops = absurd stops
stops_capture unread left (Shape n) stops = absurd stops
stops_capture unread left (Config field) stops = absurd stops
stops_capture unread left Memory stops = tt
stops_capture unread left Output stops = absurd stops

-- and it is no write that failed
no_write : (unread left : Option (List ℕ)) (fault : TextFault) → StopsJournal unread left fault → fault ≡ Output → ⊥
no_write unread left fault stops is = subst (StopsJournal unread left) is stops

pub returns-in-Ok-Illegal-clause-puts : goal.returns-in-Ok-Illegal-clause-puts
returns-in-Ok-Illegal-clause-puts g c = λ before given.
    let at = c.loop.invariant in
    let es = c.loop.entries.auditor.history in
    let meets = (rw c.in-Ok-Illegal.field-0-is at c.in-Ok-Illegal.ensures).gives before (at.so_far before given) in
    record {
      entries = es;
      ends = subst (λ d. EndsBehind before (g.R.Source.remaining c.next.new.reader) d es
          (Illegal c.in-Ok-Illegal.place)) (at.same ∙ sym c.requires.same)
          (record { entry = meets.entry; found = meets.found; behind = meets.behind });
      written = at.written;
    }

pub returns-in-Ok-Bad-clause-puts : goal.returns-in-Ok-Bad-clause-puts
returns-in-Ok-Bad-clause-puts g c = λ before given.
    let at = c.loop.invariant in
    let es = c.loop.entries.auditor.history in
    let found = (rw c.in-Ok-Bad.field-0-is at c.in-Ok-Bad.ensures).gives before (at.so_far before given) in
    record {
      entries = es;
      ends = subst (λ d. EndsBehind before (g.R.Source.remaining c.next.new.reader) d es
          (Bad c.in-Ok-Bad.line)) (at.same ∙ sym c.requires.same) found;
      written = at.written;
    }

pub returns-in-Ok-End-clause-puts : goal.returns-in-Ok-End-clause-puts
returns-in-Ok-End-clause-puts g c = λ before given.
    let at = c.loop.invariant in
    let es = c.loop.entries.auditor.history in
    let found = (rw c.in-Ok-End.field-0-is at c.in-Ok-End.ensures).gives before (at.so_far before given) in
    record {
      entries = es;
      ends = subst (λ d. EndsBehind before (g.R.Source.remaining c.next.new.reader) d es
          (Legal c.in-Ok-End.torn)) (at.same ∙ sym c.requires.same) found;
      written = at.written;
    }

pub returns-in-Err-clause-stops : goal.returns-in-Err-clause-stops
returns-in-Err-clause-stops g c = λ before given.
    stops_capture before _ c.in-Err.fault (c.in-Err.ensures.stops before (c.loop.invariant.so_far before given))

pub loop-preserved : goal.loop-preserved
loop-preserved g c =
    let at = c.loop.invariant in
    let entry = rw c.in-Ok-Entry.field-0-is at c.in-Ok-Entry.ensures in
    let all = ap (λ (p : Past). p.history) entry.takes.0 in
    let more = ap length all ∙ length-append c.loop.entries.auditor.history (_ ∷ []) in
    record {
      so_far = λ before given. entry.gives before (at.so_far before given);
      same = ap (λ (p : Past). p.config) entry.takes.0 ∙ at.same;
      written = rw all (Puts-push c.args.config.now c.args.address.now c.loop.entries.auditor.history
          c.in-Ok-Entry.entry _ _ _ at.written c.in_ok-put_entry-in-Ok-Entry.ensures.0);
      count = omega (arith, more, at.count);
      read = c.in-Ok-Entry.ensures.failed ∙ at.read;
      wrote = c.in_ok-put_entry-in-Ok-Entry.ensures.1 ∙ at.wrote;
    }

pub returns-in-Err-clause-failed_write : goal.returns-in-Err-clause-failed_write
returns-in-Err-clause-failed_write g c = λ before given is.
    absurd (no_write before (g.R.Source.remaining c.next.new.reader) c.in-Err.fault
    (c.in-Err.ensures.stops before (c.loop.invariant.so_far before given)) is)

pub loop-init : goal.loop-init
loop-init g c = record {
  so_far = λ before given. given;
  same = refl;
  written = subst (Appends _ _) (sym (ap (entries_text c.args.config.now c.args.address.now) c.requires.none
      ∙ entries_text-none c.args.config.now c.args.address.now)) (Appends-nil _);
  count = sym (ap length c.requires.none);
  read = refl;
  wrote = refl;
}
