use Rattle.std.proofs.Common.{false, ap}
use Rattle.periodic.specs.Placement.{Placed}
use Rattle.periodic.specs.Table.{TableView}
use Rattle.sched_history.specs.declared.scheduler.state.State.{State}
use Rattle.sched_history.proofs.placements.Tables.{find-with_placed, table-undone}
use Rattle.sched_history.proofs.scheduler.state.State.admit_periodic.Goals as goal

pub remove-requires : goal.remove-requires
remove-requires c =
    let p : Placed = record { sid = c.args.sid; spec = c.args.spec; placement = c.in_ok-placement.placement; rests = false } in
    rw (c.in-Err.ensures.err, c.in_ok-placement.ensures.placed) (find-with_placed p c.args.self.now.table.placed)

pub returns-in-Err-clause-err : goal.returns-in-Err-clause-err
returns-in-Err-clause-err c =
    let old : State = c.args.self.now in
    let p : Placed = record { sid = c.args.sid; spec = c.args.spec; placement = c.in_ok-placement.placement; rests = false } in
    let put : TableView = c.place.new.self in
    rw (c.remove.ensures, c.in-Err.ensures.err)
    (ap (λ (t : TableView). record old { table = t })
    (table-undone old.table put p c.requires.unplaced c.in_ok-placement.ensures.config
    c.in_ok-placement.ensures.placed))
