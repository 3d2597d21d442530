-- The workplace was opened, and this is its first worker.
use Rattle.std.proofs.Common.{◌≡◌, true, false, inl, arith}
use Rattle.sched_desk.specs.Desk.{fixed_of, events_of, empty_desk, no_press}
use Rattle.worker_sched.proofs.First.{first_ok}
use Rattle.worker_sched.proofs.Seats.{opens_own}
use Rattle.worker_sched.proofs.worker.Worker.open.Goals as goal

pub first-requires : goal.first-requires
first-requires c = record {
  own = opens_own fixed_of events_of (empty_desk c.args.checked no_press true) c.args.seats 0 c.in_ok-place.place.lock
      c.in_ok-place.row.items c.in_ok-place.ensures.opened;
}

pub returns-clause-opened : goal.returns-clause-opened
returns-clause-opened c =
    let told = c.in_ok-place.ensures in
    let none : c.args.seats ≡ 0 → ⊥ = λ e. absurd (let bad = told.count.1 (inl e) in cc) in
    first_ok (λ w. w.value) c.args.checked true c.args.seats c.in_ok-place.place c.in_ok-place.row.items c.first.result
    told.config told.keeps (omega (arith, none)) told.opened c.first.ensures.first
