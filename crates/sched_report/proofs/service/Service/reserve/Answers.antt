-- The requests that wait stay.
use Rattle.std.proofs.Common.{refl, arith}
use Rattle.sched_report.proofs.Serving.{IsServiceOf-same}
use Rattle.sched_report.proofs.service.Service.reserve.Goals as goal

pub returns-clause-same : goal.returns-clause-same
returns-clause-same c = λ config claims bytes grants is.
    IsServiceOf-same config c.args.self.now _ claims bytes grants refl refl refl refl refl c.reserve.ensures.items
    c.reserve-2.ensures.items
    (omega (arith, is.room, c.reserve.ensures.len, c.reserve-2.ensures.len, c.reserve-2.ensures.capacity)) is
