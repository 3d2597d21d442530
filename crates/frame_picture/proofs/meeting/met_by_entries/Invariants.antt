-- The entries gone through are taken and legal, and what each meets is found.
use Rattle.std.proofs.Common.{◌≡◌, [], take}
use Rattle.sched_history.specs.History.{IsLegal}
use Rattle.sched_history.specs.Machine.{Past}
use Rattle.frame_picture.specs.Meeting.{met_by_each, met_lists}
use Rattle.frame_picture.proofs.meeting.met_by_entries.Given as goal

abbrev pub invariant-loop-i : goal.invariant-loop-i
invariant-loop-i l = record {
  taken : ◌≡◌ {A = Past} l.auditor (record { config = l.config; history = take l.i l.entries });
  legal : IsLegal l.config (take l.i l.entries);
  each : met_lists l.found.items ≡ met_by_each l.config [] (take l.i l.entries);
}
