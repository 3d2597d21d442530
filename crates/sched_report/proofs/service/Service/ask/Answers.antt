-- A request more, which waits.
use Rattle.std.proofs.Common.{refl, arith}
use Rattle.sched_report.proofs.Serving.{IsServiceOf-asked}
use Rattle.sched_report.proofs.service.Service.ask.Goals as goal

pub returns : goal.returns
returns c = λ k claims bytes grants is.
    IsServiceOf-asked k c.args.self.now _ claims bytes grants is c.args.request c.requires.may.1.some refl refl refl
    refl refl c.push_back_reserved.ensures.items refl
    (omega (arith, c.requires.room.1, c.push_back_reserved.ensures.len))
