-- Who waits by what is kept is who waits after the history.
use Rattle.std.proofs.Common.{◌≡◌, sym, refl, if◌then◌else◌, List, [], map, filter, subst}
use Rattle.std.proofs.lemmas.Result.{IfOk-weaker}
use Rattle.flow_book.specs.Standing.{waits_so}
use Rattle.flow_book.specs.declared.standing.Standing.{Standing}
use Rattle.sched_calls.specs.declared.reply.Entry.{Entry}
use Rattle.sched_history.specs.declared.scheduler.state.State.{State}
use Rattle.sched_history.specs.Facts.{waits_by, waits_next}
use Rattle.sched_history.specs.Situation.{situation_of}
use Rattle.sched_history.specs.Machine.{Past}
use Rattle.sched_history.specs.Settling.{settles_after}
use Rattle.sched_history.specs.State.{settles_next, IsStateAfter}
use Rattle.sched_history.proofs.settling.SettlesNext.{settles_next-after}
use Rattle.sched_history.proofs.scheduler.present.Present.who_waits.Goals as goal

pub who_waits-requires : goal.who_waits-requires
who_waits-requires c = c.self.invariant.bounded.started

waits-after : (standing : Standing) (s : State) (h : List Entry)
    → IsStateAfter s (situation_of s.config h)
    → (if settles_next s then [] else map (λ f. f.sid) (filter (waits_so standing s.book.config s.next) s.book.flows))
    ≡ (if settles_after s.config h then [] else waits_next standing s.config h)
waits-after standing s h is_after =
    rw (
      settles_next-after s
          (situation_of s.config h) is_after,
      is_after.book_config,
      is_after.next,
      is_after.flows,
    ) refl

pub returns-in-Built-clause-waits : goal.returns-in-Built-clause-waits
returns-in-Built-clause-waits c =
    let s = c.self.inside.state.now in
    let h = c.self.inside.ledger.now in
    let kept = c.self.invariant in
    IfOk-weaker c.who_waits.result _ _
    (λ sids is step.
    subst (λ (p : Past). sids.items ≡ waits_by c.args.standing p.config p.history c.args.entry.now.reply) c.self.view_is
    (rw (c.in-Built.is) (rw (sym (waits-after c.args.standing s h kept.is_after)) is)))
    c.who_waits.ensures
