-- The law holds of a lock just opened, and each move keeps it.
use Rattle.ticket_core.specs.Schedule.{opened_run}
use Rattle.ticket_core.proofs.Turns.{KeepsTurns-opened_run, KeepsTurns-run_all}
use Rattle.ticket_core.proofs.every_schedule.Goals as goal

pub returns : goal.returns
returns c = record {
  turns = λ seats first moves.
      KeepsTurns-run_all first (opened_run seats first) moves (KeepsTurns-opened_run seats first);
}
