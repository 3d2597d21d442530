-- An entry more, and whatever ends the journal.
use Rattle.std.proofs.Common.{◌≡◌, ◌⊎◌, ◌+◌, ◌≤◌, ℕ, ◌∙◌, ◌++◌, [], ◌∷◌, List, Option, length, length-append, sym, ap}
use Rattle.std.proofs.Common.{subst, refl, arith, inl, inr}
use Rattle.minislots.specs.declared.config.Config.{Config as Configuration}
use Rattle.text_stream.specs.declared.fault.TextFault.{TextFault}
use Rattle.text_stream.specs.declared.fault.TextFault.TheVariants.{Input, TooLong, NotJson, Shape, Config, Memory}
use Rattle.text_stream.specs.declared.fault.TextFault.TheVariants.{Output}
use Rattle.sched_calls.specs.declared.reply.Entry.{Entry}
use Rattle.sched_calls.specs.declared.reply.TheConstants.{MAX_WHOLE_HISTORY}
use Rattle.sched_history.specs.Machine.{Past}
use Rattle.sched_history.specs.History.{IsStep, IsLegal}
use Rattle.journal_entries.specs.Journal.{StandSoFar, StopsJournal, FindsIllegalIn, FindsNoEntryIn}
use Rattle.journal_entries.specs.Unjudged.{StandWith}
use Rattle.journal_entries.specs.End.{EndsIllegal}
use Rattle.journal_entries.proofs.Reading.{StandSoFar-with, FindsIllegal-with, HasTooMany-with}
use Rattle.frame_picture.specs.declared.part.Part.{Part}
use Rattle.frame_picture.specs.declared.span.Span.{Span}
use Rattle.frame_picture.specs.Part.{HasManyDrawn}
use Rattle.draw_command.specs.Journal.{StopsEntries}
use Rattle.draw_command.proofs.journal.take_entries.Goals as goal

-- what stops a journal stops its drawing
stops_drawing : (span : Span) (unread left : Option (List ℕ)) (fault : TextFault) → StopsJournal unread left fault
    → StopsEntries span unread left fault
stops_drawing span unread left Input stops = tt
stops_drawing span unread left TooLong stops = inr stops
stops_drawing span unread left NotJson stops = absurd stops
stops_drawing span unread left (Shape n) stops = absurd stops
stops_drawing span unread left (Config field) stops = absurd stops
stops_drawing span unread left Memory stops = tt
stops_drawing span unread left Output stops = absurd stops

-- and so do too many entries
stops_full : (span : Span) (unread mid left : Option (List ℕ)) (c : Configuration) (es : List Entry) (e : Entry)
    → StandWith unread mid left c es e → HasManyDrawn span (es ++ e ∷ []) ⊎ (MAX_WHOLE_HISTORY ≤ length es)
    → StopsEntries span unread left TooLong
stops_full span unread mid left c es e stands (inl many) =
    inl (record {
      lines = stands.lines;
      behind = stands.behind;
      came = stands.at_hand;
      config = c;
      entries = es ++ e ∷ [];
      stand = stands.stand;
      many = many;
    })
stops_full span unread mid left c es e stands (inr full) =
    inr (inl (HasTooMany-with unread mid left c es e stands full))

pub returns-in-Err-Illegal-clause-takes : goal.returns-in-Err-Illegal-clause-takes
returns-in-Err-Illegal-clause-takes g c = λ before read.
    let at = c.loop-place.invariant in
    let k = c.args.part.now.config in
    let es = c.loop-place.part.auditor.history in
    let e = c.in-Ok-Entry.entry in
    let left = g.R.Source.remaining c.next.new.reader in
    let so_far = at.so_far before read in
    let stands = (rw c.in-Ok-Entry.field-0-is at c.in-Ok-Entry.ensures).reads before k es so_far in
    let fault = (rw c.in-Err-Illegal.field-0-is at c.in-Err-Illegal.ensures).illegal refl in
    let here : EndsIllegal before left k es c.loop-place.place = record {
      entry = e;
      found = subst (FindsIllegalIn before left k (es ++ e ∷ [])) (sym at.count)
          (FindsIllegal-with before _ left k es e stands so_far.legal
          (subst (λ (q : Configuration). IsStep q es e.call e.reply → ⊥) at.config fault.0));
      behind = at.count;
    } in
    subst (λ (p : Part). EndsIllegal before left k p.auditor.history c.loop-place.place) (sym fault.1) here

pub returns-in-Err-Full-clause-stops : goal.returns-in-Err-Full-clause-stops
returns-in-Err-Full-clause-stops g c = λ before read.
    let at = c.loop-place.invariant in
    let k = c.args.part.now.config in
    let es = c.loop-place.part.auditor.history in
    let e = c.in-Ok-Entry.entry in
    let stands = (rw c.in-Ok-Entry.field-0-is at c.in-Ok-Entry.ensures).reads before k es (at.so_far before read) in
    let full = (rw c.in-Err-Full.field-0-is at c.in-Err-Full.ensures).full refl in
    stops_full c.args.part.now.span before _ _ k es e stands
    (subst (λ (s : Span). HasManyDrawn s (es ++ e ∷ []) ⊎ (MAX_WHOLE_HISTORY ≤ length es)) at.span full)

pub returns-in-Ok-NoEntry-clause-takes : goal.returns-in-Ok-NoEntry-clause-takes
returns-in-Ok-NoEntry-clause-takes g c = λ before read.
    let at = c.loop-place.invariant in
    let k = c.args.part.now.config in
    let es = c.loop-place.part.auditor.history in
    subst (λ n. FindsNoEntryIn before (g.R.Source.remaining c.next.new.reader) k es (n + 1)) (sym at.count)
    ((rw c.in-Ok-NoEntry.field-0-is at c.in-Ok-NoEntry.ensures).reads before k es (at.so_far before read))

pub returns-in-Ok-End-clause-takes : goal.returns-in-Ok-End-clause-takes
returns-in-Ok-End-clause-takes g c = λ before read.
    (rw c.in-Ok-End.field-0-is at c.in-Ok-End.ensures).reads before c.args.part.now.config
    c.loop-place.part.auditor.history (c.loop-place.invariant.so_far before read)

pub returns-in-Err-clause-stops : goal.returns-in-Err-clause-stops
returns-in-Err-clause-stops g c = λ before read.
    stops_drawing c.args.part.now.span before _ c.in-Err.fault
    (c.in-Err.ensures.stops before c.args.part.now.config c.loop-place.part.auditor.history
    (c.loop-place.invariant.so_far before read))

pub loop-place-preserved : goal.loop-place-preserved
loop-place-preserved g c =
    let at = c.loop-place.invariant in
    let k = c.args.part.now.config in
    let es = c.loop-place.part.auditor.history in
    let e = c.in-Ok-Entry.entry in
    let next = rw c.in-Ok-Entry.field-0-is at c.in-Ok-Entry.ensures in
    let now = c.take.new.self in
    let grown : now.auditor.history ≡ es ++ e ∷ [] = ap (λ (p : Past). p.history) c.in-Ok.ensures.taken in
    let same : now.config ≡ k = c.in-Ok.ensures.config ∙ at.config in
    let legal : IsLegal k (es ++ e ∷ []) = rw (same, grown) at c.in-Ok.ensures.ok.legal in
    record {
      so_far = λ before read.
          subst (StandSoFar before _ k) (sym grown)
          (StandSoFar-with before _ _ k es e (next.reads before k es (at.so_far before read)) legal);
      taken = c.in-Ok.ensures.ok;
      config = same;
      span = c.in-Ok.ensures.span ∙ at.span;
      count = omega (arith, at.count, ap length grown, length-append es (e ∷ []));
      unfailed = next.failed ∙ at.unfailed;
    }
