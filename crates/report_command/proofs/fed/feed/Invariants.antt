-- The entries gone through are taken, and are legal.
use Rattle.std.proofs.Common.{◌≡◌, take}
use Rattle.sched_history.specs.History.{IsLegal}
use Rattle.report_command.specs.Range.{Ranged}
use Rattle.report_command.proofs.fed.feed.Given as goal

abbrev pub invariant-loop-index : goal.invariant-loop-index
invariant-loop-index l = record {
  taken : ◌≡◌ {A = Ranged} l.reporter
      (record { config = l.config; range = l.fn.range; history = take l.index l.entries });
  legal : IsLegal l.config (take l.index l.entries);
}
