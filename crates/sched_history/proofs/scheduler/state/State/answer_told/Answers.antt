-- The one answer owns no memory, so its copy takes none.
use Rattle.sched_history.proofs.state.Following.{told-owns}
use Rattle.sched_history.proofs.scheduler.state.State.answer_told.Goals as goal

pub unreachable-requires : goal.unreachable-requires
unreachable-requires c =
    let x = c.requires.open.0 in
    let answered = c.in_ok-reply.ensures.answered x c.requires.open.1 in
    told-owns c.args.self.now.config x c.args.call c.in_ok-reply.reply c.requires.told answered.answers
    c.in-Err.ensures.memory
