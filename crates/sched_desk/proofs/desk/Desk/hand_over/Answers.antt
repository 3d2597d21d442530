-- The scheduler handed over what it kept, and the mark was noted.
use Rattle.std.proofs.Common.{◌≡◌, ◌≤◌, ◌↔◌, IsOk, false, [], ◌∷◌, ◌++◌, length, Ok, sym, ap, ◌∙◌, subst}
use Rattle.sched_history.specs.History.{IsLegal}
use Rattle.sched_history.specs.Machine.{Machine, kept_of}
use Rattle.sched_calls.specs.declared.reply.Entry.{Entry}
use Rattle.sched_history.specs.declared.scheduler.handing_over.HandedOver.{HandedOver}
use Rattle.std.specs.Global.{Vec}
use Rattle.std.specs.Prelude.{vec_capacity}
use Rattle.sched_desk.specs.declared.event.Event.TheVariants.{Marked}
use Rattle.sched_desk.specs.Desk.{DeskState, Docketed, Agrees, desk_of}
use Rattle.sched_desk.specs.Events.{history_in}
use Rattle.sched_desk.specs.Handing.{HasHandedOver}
use Rattle.sched_desk.proofs.Agreed.{agrees-marked, legal-marked, gave}
use Rattle.sched_desk.proofs.desk.Desk.hand_over.Goals as goal

pub invariant_of-self-2 : goal.invariant_of-self-2
invariant_of-self-2 g c =
    let r = g.S.Records.recording c.self.inside.recorder.value in
    let x = g.S.Records.recording c.hand_over.new.self in
    let handed = subst (λ s. x.machine ≡ record (g.S.Records.recording s).machine {
      handed = length (g.S.Records.recording s).machine.history;
    }) c.deref_mut.ensures.value c.in_ok-given.ensures.handed in
    let press = subst (λ s. x.press ≡ (g.S.Records.recording s).press) c.deref_mut.ensures.value
    c.in_ok-given.ensures.press in
    let mark = c.mark.ensures
    ∙ ap (λ (k : Docketed). record k { events = k.events ++ Marked c.args.stamp ∷ [] }) c.deref_mut-2.ensures.value in
    let free : c.self.inside.docket.value.keeps ≡ false =
    sym (ap (λ (k : Docketed). k.keeps) c.deref-2.ensures) ∙ sym c.keeps.ensures ∙ c.if-keeps.false in
    subst (Agrees x) (sym mark)
    (agrees-marked r c.self.inside.docket.value c.self.invariant c.args.stamp x press handed free)

pub returns-clause-legal : goal.returns-clause-legal
returns-clause-legal g c =
    let r = g.S.Records.recording c.self.inside.recorder.value in
    let x = g.S.Records.recording c.hand_over.new.self in
    let handed = subst (λ s. x.machine ≡ record (g.S.Records.recording s).machine {
      handed = length (g.S.Records.recording s).machine.history;
    }) c.deref_mut.ensures.value c.in_ok-given.ensures.handed in
    let press = subst (λ s. x.press ≡ (g.S.Records.recording s).press) c.deref_mut.ensures.value
    c.in_ok-given.ensures.press in
    let mark = c.mark.ensures
    ∙ ap (λ (k : Docketed). record k { events = k.events ++ Marked c.args.stamp ∷ [] }) c.deref_mut-2.ensures.value in
    let lawful = subst (λ (m : Machine). IsLegal m.config m.history)
    (c.scheduler.ensures ∙ ap (λ s. (g.S.Records.recording s).machine) c.deref.ensures) c.history-kept.ensures.legal in
    subst (λ (k : Docketed). IsLegal x.machine.config (history_in k.events)) (sym mark)
    (legal-marked r c.self.inside.docket.value c.self.invariant c.args.stamp x press handed lawful)

pub returns-clause-handed : goal.returns-clause-handed
returns-clause-handed g c =
    let r = g.S.Records.recording c.self.inside.recorder.value in
    let x = g.S.Records.recording c.hand_over.new.self in
    let value = c.deref_mut.ensures.value in
    let told = c.in_ok-given.ensures in
    let given = c.in_ok-given.given in
    let handed = subst (λ s. x.machine ≡ record (g.S.Records.recording s).machine {
      handed = length (g.S.Records.recording s).machine.history;
    }) value told.handed in
    let press = subst (λ s. x.press ≡ (g.S.Records.recording s).press) value told.press in
    let mark = c.mark.ensures
    ∙ ap (λ (k : Docketed). record k { events = k.events ++ Marked c.args.stamp ∷ [] }) c.deref_mut-2.ensures.value in
    let free : c.self.inside.docket.value.keeps ≡ false =
    sym (ap (λ (k : Docketed). k.keeps) c.deref-2.ensures) ∙ sym c.keeps.ensures ∙ c.if-keeps.false in
    let entries = subst (λ s. given.entries.items ≡ kept_of (g.S.Records.recording s).machine) value told.entries in
    let first = subst (λ s. given.first ≡ (g.S.Records.recording s).machine.handed) value told.first in
    let exact = subst (λ s. IsOk {T = HandedOver} {E = Vec Entry} (Ok given) ↔ ((c.args.room.items ≡ [])
    × ((g.S.Records.recording s).machine.config.calls ≤ vec_capacity c.args.room))) value told.exact in
    subst (λ (y : DeskState × Docketed). HasHandedOver y.0 c.args.stamp c.args.room (desk_of x y.1) (Ok given))
    (λ i. (c.self.view_is i, sym mark i))
    (gave r c.self.inside.docket.value c.self.invariant c.args.stamp x press handed given c.args.room free entries first
    told.encodable exact)
