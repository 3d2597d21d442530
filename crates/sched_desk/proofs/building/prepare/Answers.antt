-- There are no more MAPs than entries, and there is room for another.
use Rattle.std.proofs.Common.{arith}
use Rattle.sched_calls.specs.declared.reply.Unrecorded.TheVariants.{HistoryFull}
use Rattle.sched_history.proofs.state.Recording.{room-whole}
use Rattle.sched_history.proofs.rows.Limits.{most_history}
use Rattle.sched_desk.proofs.Published.{published-few}
use Rattle.sched_desk.proofs.building.prepare.Goals as goal

pub overflow_add-maps : goal.overflow_add-maps
overflow_add-maps c =
    let shows = c.requires.shows in
    let room = room-whole c.args.scheduler.now c.in_ok-planned.ensures.fits.room in
    let count = shows.count in
    let most = published-few c.args.scheduler.now.history in
    omega (arith, room, count, most, most_history)
