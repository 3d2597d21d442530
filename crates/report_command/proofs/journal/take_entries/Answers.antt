-- Whatever ends the journal: an entry that may not follow, or one too many, a line that is none, or the end.
use Rattle.std.proofs.Common.{◌≡◌, true, ◌+◌, ◌++◌, ◌∷◌, [], length, refl, sym, ◌∙◌, subst, inl, inr}
use Rattle.report_command.specs.declared.range.Range.{Range}
use Rattle.report_command.specs.Range.{Ranged, GoesOn, ticks_after, is_over, entries_until}
use Rattle.journal_entries.specs.Journal.{FindsIllegalIn, FindsNoEntryIn}
use Rattle.journal_entries.specs.End.{EndsIllegal}
use Rattle.journal_entries.proofs.Reading.{FindsIllegal-with, HasTooMany-with}
use Rattle.report_command.proofs.journal.take_entries.Goals as goal

pub returns-in-Err-Illegal-clause-takes : goal.returns-in-Err-Illegal-clause-takes
returns-in-Err-Illegal-clause-takes g c = λ before read.
    let at = c.loop-place.invariant in
    let k = c.loop-place.reporter.config in
    let es = c.loop-place.reporter.history in
    let e = c.in-Ok-Entry.entry in
    let left = g.R.Source.remaining c.next.new.reader in
    let so_far = at.so_far before read in
    let stands = (rw c.in-Ok-Entry.field-0-is at c.in-Ok-Entry.ensures).reads before k es so_far in
    let fault = rw c.in-Err-Illegal.field-0-is at c.in-Err-Illegal.ensures in
    let here : EndsIllegal before left k es c.loop-place.place = record {
      entry = e;
      found = subst (FindsIllegalIn before left k (es ++ e ∷ [])) (sym at.count)
          (FindsIllegal-with before _ left k es e stands so_far.legal (fault.illegal refl));
      behind = at.count;
    } in
    let goes_on : GoesOn k c.args.reporter.now.range es =
    subst (λ (r : Range). GoesOn k r es) at.range (c.is_over.ensures.goes_on c.if-is_over.false) in
    subst (λ (p : Ranged). EndsIllegal before left p.config p.history c.loop-place.place
    × GoesOn p.config c.args.reporter.now.range p.history) (sym fault.err) (here, goes_on)

pub returns-in-Err-Full-clause-stops : goal.returns-in-Err-Full-clause-stops
returns-in-Err-Full-clause-stops g c = λ before read.
    let k = c.loop-place.reporter.config in
    let es = c.loop-place.reporter.history in
    let so_far = c.loop-place.invariant.so_far before read in
    let stands = (rw c.in-Ok-Entry.field-0-is at c.in-Ok-Entry.ensures).reads before k es so_far in
    let fault = rw c.in-Err-Full.field-0-is at c.in-Err-Full.ensures in
    inl (HasTooMany-with before _ _ k es c.in-Ok-Entry.entry stands (fault.full.0 refl))

pub returns-in-Ok-NoEntry-clause-takes : goal.returns-in-Ok-NoEntry-clause-takes
returns-in-Ok-NoEntry-clause-takes g c = λ before read.
    let at = c.loop-place.invariant in
    let k = c.loop-place.reporter.config in
    let es = c.loop-place.reporter.history in (
      subst (λ n. FindsNoEntryIn before (g.R.Source.remaining c.next.new.reader) k es (n + 1)) (sym at.count)
          ((rw c.in-Ok-NoEntry.field-0-is at c.in-Ok-NoEntry.ensures).reads before k es (at.so_far before read)),
      subst (λ (r : Range). GoesOn k r es) at.range (c.is_over.ensures.goes_on c.if-is_over.false),
    )

pub returns-in-Ok-End-clause-takes : goal.returns-in-Ok-End-clause-takes
returns-in-Ok-End-clause-takes g c = λ before read.
    let at = c.loop-place in
    inl (
      (rw c.in-Ok-End.field-0-is at c.in-Ok-End.ensures).reads before at.reporter.config at.reporter.history
          (at.invariant.so_far before read),
      subst (λ (r : Range). GoesOn at.reporter.config r at.reporter.history) at.invariant.range
          (c.is_over.ensures.goes_on c.if-is_over.false),
    )

pub returns-then-is_over-clause-takes : goal.returns-then-is_over-clause-takes
returns-then-is_over-clause-takes g c = λ before read.
    let at = c.loop-place in
    let over : is_over at.reporter.range.to (ticks_after at.reporter.config at.reporter.history) ≡ true =
    sym c.is_over.ensures.over ∙ c.if-is_over.true in
    inr (
      refl,
      subst (λ (r : Range). is_over r.to (ticks_after at.reporter.config at.reporter.history) ≡ true) at.invariant.range
          over,
      subst (λ (r : Range). entries_until at.reporter.config r.to at.reporter.history ≡ length at.reporter.history)
          at.invariant.range c.is_over.ensures.until,
      at.entries,
      at.invariant.so_far before read,
    )

pub returns-in-Err-clause-stops : goal.returns-in-Err-clause-stops
returns-in-Err-clause-stops g c = λ before read.
    c.in-Err.ensures.stops before c.loop-place.reporter.config c.loop-place.reporter.history
    (c.loop-place.invariant.so_far before read)
