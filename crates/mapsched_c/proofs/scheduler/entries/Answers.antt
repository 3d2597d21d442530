-- What is kept of a legal history has room.
use Rattle.std.proofs.Common.{subst}
use Rattle.minislots.specs.Config.{IsLawful}
use Rattle.mapsched_c.specs.Reply.{HasRoom}
use Rattle.mapsched_c.proofs.Room.{legal_room}
use Rattle.mapsched_c.proofs.Kept.{AllByRecursion-drop}
use Rattle.mapsched_c.proofs.scheduler.entries.Goals as goal

pub returns-clause-room : goal.returns-clause-room
returns-clause-room c =
    let m = c.args.scheduler.now in
    let lawful = subst IsLawful c.config.ensures c.cycle-cycle.ensures.lawful in
    AllByRecursion-drop (λ e. HasRoom e.reply) m.handed m.history
    (legal_room m.config lawful m.history c.history.ensures.legal)
