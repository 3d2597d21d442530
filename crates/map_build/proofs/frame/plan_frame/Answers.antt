-- The MAP alone.
use Rattle.std.proofs.Common.{[]}
use Rattle.periodic.specs.Placement.{due_in}
use Rattle.sched_calls.specs.Header.{header_of}
use Rattle.map_build.specs.Plan.{demand_at}
use Rattle.map_build.proofs.Planned.{lawful-from_frame}
use Rattle.map_build.proofs.frame.plan_frame.Goals as goal

pub returns-clause-lawful : goal.returns-clause-lawful
returns-clause-lawful c =
    let book = c.args.book.now in
    lawful-from_frame book.config (demand_at book.flows (due_in book.config c.args.frame c.args.table.now.placed) []
    _) (header_of book.config) c.args.progress _
    (rw (c.of-header.ensures, c.config.ensures.value) at c.in_ok-planned.ensures.lawful)

pub returns-clause-only : goal.returns-clause-only
returns-clause-only c = rw (c.of-header.ensures, c.config.ensures.value) at c.in_ok-planned.ensures.only
