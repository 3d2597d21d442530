-- An entry more, and whatever ends the reading.
use Rattle.std.proofs.Common.{◌∷◌, ◌++◌, [], length, ap, ◌∙◌, arith, length-append, inr}
use Rattle.sched_history.specs.Machine.{Past}
use Rattle.journal_entries.specs.declared.end.EntriesEnd.TheVariants.{Illegal, Bad}
use Rattle.journal_entries.specs.Next.{HasGiven}
use Rattle.check_lines.proofs.ReadJournals.{FindsEnd-reported}
use Rattle.check_lines.proofs.journal.read_entries.Goals as goal

pub returns-in-Ok-Illegal-clause-finds : goal.returns-in-Ok-Illegal-clause-finds
returns-in-Ok-Illegal-clause-finds g c =
    let at = c.loop.invariant in
    let old = c.loop.entries.auditor in
    FindsEnd-reported (λ before. HasGiven before (g.R.Source.remaining c.args.reader.now) c.args.entries) _
    (Illegal c.in-Ok-Illegal.place) c.illegal.result c.illegal.ensures.end
    (λ before given count.
    let meets = (rw c.in-Ok-Illegal.field-0-is at c.in-Ok-Illegal.ensures).gives before (at.so_far before given) in
    (old.config, old.history ++ meets.entry ∷ [], meets.found))

pub returns-in-Ok-Bad-clause-finds : goal.returns-in-Ok-Bad-clause-finds
returns-in-Ok-Bad-clause-finds g c =
    let at = c.loop.invariant in
    let old = c.loop.entries.auditor in
    FindsEnd-reported (λ before. HasGiven before (g.R.Source.remaining c.args.reader.now) c.args.entries) _
    (Bad c.in-Ok-Bad.line) c.bad.result c.bad.ensures.end
    (λ before given count.
    inr (
      old.config,
      old.history,
      (rw c.in-Ok-Bad.field-0-is at c.in-Ok-Bad.ensures).gives before (at.so_far before given),
    ))

pub returns-in-Ok-End-clause-finds : goal.returns-in-Ok-End-clause-finds
returns-in-Ok-End-clause-finds g c = λ before given.
    let at = c.loop.invariant in
    let ends = rw c.in-Ok-End.field-0-is at c.in-Ok-End.ensures in
    rw (c.legal.ensures.end, c.legal.ensures.entries) (record {
      config = c.loop.entries.auditor.config;
      entries = c.loop.entries.auditor.history;
      found = ends.gives before (at.so_far before given);
      count_is = c.taken.ensures.value ∙ ap (λ (p : Past). length p.history) ends.takes;
    })

pub returns-in-Err-clause-stops : goal.returns-in-Err-clause-stops
returns-in-Err-clause-stops g c = λ before given.
    c.in-Err.ensures.stops before (c.loop.invariant.so_far before given)

pub loop-preserved : goal.loop-preserved
loop-preserved g c =
    let at = c.loop.invariant in
    let entry = rw c.in-Ok-Entry.field-0-is at c.in-Ok-Entry.ensures in
    let more = ap (λ (p : Past). length p.history) entry.takes.0
    ∙ length-append c.loop.entries.auditor.history (_ ∷ []) in
    record {
      so_far = λ before given. entry.gives before (at.so_far before given);
      count = omega (arith, more, at.count);
      unfailed = c.in-Ok-Entry.ensures.failed ∙ at.unfailed;
    }
