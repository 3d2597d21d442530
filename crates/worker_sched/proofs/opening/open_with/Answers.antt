-- The lock is one of a desk of this configuration, which has recorded nothing.
use Rattle.std.proofs.Common.{◌≡◌, [], sym, ap, ◌∙◌, subst, arith}
use Rattle.ticket_lock.specs.Standing.{Lock, seats_of}
use Rattle.sched_desk.specs.declared.event.Event.{Event}
use Rattle.sched_desk.specs.Desk.{FixedDesk, IsDeskLock, HasPress, no_press, alone, desk_of}
use Rattle.sched_history.specs.Machine.{Machine}
use Rattle.worker_sched.proofs.Opened.{is_desk_lock}
use Rattle.worker_sched.proofs.opening.open_with.Goals as goal

pub invariant_of-workplace : goal.invariant_of-workplace
invariant_of-workplace c =
    let zero = c.if-seats-eq0.false in
    let many = c.if-seats-gt-MAX_SEATS.false in
    subst (λ (l : Lock FixedDesk Event). IsDeskLock c.args.checked l × HasPress c.args.checked no_press c.args.keeps l
    × (c.args.seats ≡ seats_of l)) (sym c.of.ensures)
    (is_desk_lock c.args.checked c.args.keeps c.in-Ok-new.desk c.args.seats c.in-Ok-open.lock c.in-Ok-open.row.items
    (c.in-Ok-new.ensures.made
    ∙ ap (λ (m : Machine). desk_of (alone m) (record { keeps = c.args.keeps; events = [] })) c.in-Ok.ensures)
    (omega (arith, zero)) (omega (arith, many)) c.in-Ok-open.ensures.opened)
