-- What lapses by what is kept is what lapses after the history.
use Rattle.std.proofs.Common.{◌≡◌, ◌∙◌, true, false, sym, ap, subst, refl}
use Rattle.sched_history.specs.Situation.{situation_of}
use Rattle.sched_history.specs.Machine.{Machine}
use Rattle.sched_history.specs.Planned.{PlannedBuild}
use Rattle.sched_history.specs.Reserves.{reserves_of, lapses_of, lapses_with}
use Rattle.sched_history.specs.Settling.{settles_after}
use Rattle.sched_history.proofs.settling.SettlesNext.{settles_next-after}
use Rattle.sched_history.proofs.scheduler.Scheduler.lapses.Goals as goal

pub returns-then-settles : goal.returns-then-settles
returns-then-settles c =
    let s = c.self.inside.state in
    let h = c.self.inside.ledger in
    let sound = c.self.invariant in
    let after : settles_after s.config h ≡ true =
    sym (settles_next-after s (situation_of s.config h) sound.is_after) ∙ sym c.if-settles.ensures in
    subst (λ (m : Machine). 0 ≡ lapses_with (settles_after m.config m.history) c.args.planned.now.met
    (reserves_of m.config m.history)) c.self.view_is (rw after refl)

pub returns : goal.returns
returns c =
    let s = c.self.inside.state in
    let h = c.self.inside.ledger in
    let sound = c.self.invariant in
    let after : settles_after s.config h ≡ false =
    sym (settles_next-after s (situation_of s.config h) sound.is_after) ∙ sym c.if-settles.ensures in
    subst (λ (m : Machine). c.lapses.result ≡ lapses_with (settles_after m.config m.history) c.args.planned.now.met
    (reserves_of m.config m.history)) c.self.view_is
    (rw after (c.lapses.ensures ∙ ap (λ (p : PlannedBuild). lapses_of p.met s.reserves) c.planned.view_is
    ∙ ap (λ rs. lapses_of c.args.planned.now.met rs) sound.is_after.reserves))
