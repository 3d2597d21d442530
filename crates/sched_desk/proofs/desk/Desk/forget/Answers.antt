-- The scheduler forgot what it kept, and the mark was noted.
use Rattle.std.proofs.Common.{◌≡◌, false, [], ◌∷◌, ◌++◌, length, sym, ap, ◌∙◌, subst}
use Rattle.sched_history.specs.History.{IsLegal}
use Rattle.sched_history.specs.Machine.{Machine}
use Rattle.sched_desk.specs.declared.event.Event.TheVariants.{Marked}
use Rattle.sched_desk.specs.Desk.{Docketed, Agrees}
use Rattle.sched_desk.specs.Events.{history_in}
use Rattle.sched_desk.proofs.Agreed.{agrees-marked, legal-marked}
use Rattle.sched_desk.proofs.desk.Desk.forget.Goals as goal

pub invariant_of-self : goal.invariant_of-self
invariant_of-self g c =
    let r = g.S.Records.recording c.self.inside.recorder.value in
    let x = g.S.Records.recording c.forget.new.self in
    let handed = subst (λ s. x.machine ≡ record (g.S.Records.recording s).machine {
      handed = length (g.S.Records.recording s).machine.history;
    }) c.deref_mut.ensures.value c.forget.ensures.forgotten in
    let press = subst (λ s. x.press ≡ (g.S.Records.recording s).press) c.deref_mut.ensures.value
    c.forget.ensures.press in
    let mark = c.mark.ensures
    ∙ ap (λ (k : Docketed). record k { events = k.events ++ Marked c.args.stamp ∷ [] }) c.deref_mut-2.ensures.value in
    let free : c.self.inside.docket.value.keeps ≡ false =
    sym (ap (λ (k : Docketed). k.keeps) c.deref-2.ensures) ∙ sym c.keeps.ensures ∙ c.if-keeps.false in
    subst (Agrees x) (sym mark)
    (agrees-marked r c.self.inside.docket.value c.self.invariant c.args.stamp x press handed free)

pub returns-clause-legal : goal.returns-clause-legal
returns-clause-legal g c =
    let r = g.S.Records.recording c.self.inside.recorder.value in
    let x = g.S.Records.recording c.forget.new.self in
    let handed = subst (λ s. x.machine ≡ record (g.S.Records.recording s).machine {
      handed = length (g.S.Records.recording s).machine.history;
    }) c.deref_mut.ensures.value c.forget.ensures.forgotten in
    let press = subst (λ s. x.press ≡ (g.S.Records.recording s).press) c.deref_mut.ensures.value
    c.forget.ensures.press in
    let mark = c.mark.ensures
    ∙ ap (λ (k : Docketed). record k { events = k.events ++ Marked c.args.stamp ∷ [] }) c.deref_mut-2.ensures.value in
    let lawful = subst (λ (m : Machine). IsLegal m.config m.history)
    (c.scheduler.ensures ∙ ap (λ s. (g.S.Records.recording s).machine) c.deref.ensures) c.history-kept.ensures.legal in
    subst (λ (k : Docketed). IsLegal x.machine.config (history_in k.events)) (sym mark)
    (legal-marked r c.self.inside.docket.value c.self.invariant c.args.stamp x press handed lawful)
