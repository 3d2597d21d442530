-- What ended the entries.
use Rattle.std.proofs.Common.{◌≡◌, [], sym, ap, ◌∙◌, subst, append-nil, inr}
use Rattle.minislots.specs.declared.config.Config.{Config as Configuration}
use Rattle.sched_report.specs.Window.{Window}
use Rattle.report_command.specs.declared.range.Range.{Range}
use Rattle.report_command.specs.Range.{Ranged, GoesOn, window_of}
use Rattle.report_command.specs.Journal.{FindsTold}
use Rattle.report_command.proofs.journal.show_entries.Goals as goal

pub returns-in-Ok-Legal-clause-shown : goal.returns-in-Ok-Legal-clause-shown
returns-in-Ok-Legal-clause-shown g c = λ before read.
    let told = rw c.in-Ok-Legal.field-0-is at c.in-Ok-Legal.ensures in
    let config = ap (λ (p : Ranged). p.config) c.in-Ok.ensures in
    let range = ap (λ (p : Ranged). p.range) c.in-Ok.ensures in
    let v = c.take_entries.new.reporter in
    let h = v.history in
    let k = c.args.config in
    let r = c.args.range in
    let left = g.R.Source.remaining c.take_entries.new.reader in
    let is : c.end.result ≡ window_of k r h =
    c.end.ensures.told [] tt ∙ ap (window_of v.config v.range) (append-nil h)
    ∙ ap (λ (k : Configuration). window_of k v.range h) (told.config ∙ config)
    ∙ ap (λ (r : Range). window_of k r h) (told.range ∙ range) in (
      sym (ap (λ (w : Window). w.config) is),
      (
        h,
        is,
        subst (λ (r : Range). FindsTold r before left k h c.in-Ok-Legal.torn) range
            (subst (λ (k : Configuration). FindsTold c.in-Ok.reporter.range before left k h c.in-Ok-Legal.torn)
            (told.config ∙ config) (told.takes before (rw config read))),
      ),
    )

pub returns-in-Ok-Illegal-clause-shown : goal.returns-in-Ok-Illegal-clause-shown
returns-in-Ok-Illegal-clause-shown g c = λ before read.
    let config = ap (λ (p : Ranged). p.config) c.in-Ok.ensures in
    let ends = (rw c.in-Ok-Illegal.field-0-is at c.in-Ok-Illegal.ensures).takes before (rw config read) in
    let v = c.take_entries.new.reporter in
    let range = ap (λ (p : Ranged). p.range) c.in-Ok.ensures in
    (v.config, v.history, ends.0, subst (λ (r : Range). GoesOn v.config r v.history) range ends.1)

pub returns-in-Ok-Bad-clause-shown : goal.returns-in-Ok-Bad-clause-shown
returns-in-Ok-Bad-clause-shown g c = λ before read.
    let config = ap (λ (p : Ranged). p.config) c.in-Ok.ensures in
    let found = (rw c.in-Ok-Bad.field-0-is at c.in-Ok-Bad.ensures).takes before (rw config read) in
    let v = c.take_entries.new.reporter in
    let range = ap (λ (p : Ranged). p.range) c.in-Ok.ensures in
    inr (v.config, v.history, found.0, subst (λ (r : Range). GoesOn v.config r v.history) range found.1)

pub returns-clause-stops : goal.returns-clause-stops
returns-clause-stops g c = λ before read.
    let config = ap (λ (p : Ranged). p.config) c.in-Ok.ensures in
    c.in-Err.ensures.stops before (rw config read)
