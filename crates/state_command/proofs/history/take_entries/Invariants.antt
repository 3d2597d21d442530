-- The entries gone through are taken, and are legal.
use Rattle.std.proofs.Common.{◌≡◌, take}
use Rattle.sched_history.specs.History.{IsLegal}
use Rattle.sched_history.specs.Machine.{Past}
use Rattle.state_command.proofs.history.take_entries.Given as goal

abbrev pub invariant-loop-index : goal.invariant-loop-index
invariant-loop-index l = record {
  taken : ◌≡◌ {A = Past} l.auditor (record { config = l.config; history = take l.index l.entries });
  legal : IsLegal l.config (take l.index l.entries);
}
