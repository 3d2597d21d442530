-- What is told has begun, or begins behind all.
use Rattle.std.proofs.Common.{◌≡◌, ◌++◌, List, ap, ◌∙◌, subst}
use Rattle.sched_calls.specs.declared.reply.Entry.{Entry}
use Rattle.sched_report.specs.Window.{Window}
use Rattle.report_command.specs.Range.{Ranged, ends_here, IsCut, window_of}
use Rattle.report_command.proofs.Ranges.{told-begun, told-none}
use Rattle.report_command.proofs.ranged.RangedReporter.end.Goals as goal

pub returns-then-not-begun-clause-told : goal.returns-then-not-begun-clause-told
returns-then-not-begun-clause-told c =
    let s = c.self.inside in
    subst (λ (v : Ranged). (rest : List Entry) → IsCut rest (ends_here v)
    → c.renew.new.self ≡ window_of v.config v.range (v.history ++ rest)) c.self.view_is
    (λ rest cut. c.renew.ensures
    ∙ told-none s.config s.range s.begun s.timed c.self.invariant c.if-not-begun.true rest cut)

pub returns-then-not-begun-clause-same : goal.returns-then-not-begun-clause-same
returns-then-not-begun-clause-same c =
    ap (λ (w : Window). w.history) c.renew.ensures ∙ ap (λ (v : Ranged). v.history) c.self.view_is

pub returns-else-not-begun-clause-told : goal.returns-else-not-begun-clause-told
returns-else-not-begun-clause-told c =
    let s = c.self.inside in
    subst (λ (v : Ranged). (rest : List Entry) → IsCut rest (ends_here v)
    → s.timed ≡ window_of v.config v.range (v.history ++ rest)) c.self.view_is
    (λ rest cut. told-begun s.config s.range s.begun s.timed c.self.invariant c.if-not-begun.false rest cut)
