-- The lives are counted by the SIDs gone through.
use Rattle.std.proofs.Common.{take}
use Rattle.sched_report.specs.Waits.{HasCounted}
use Rattle.sched_report.proofs.waits.count_each.Given as goal

abbrev pub invariant-loop-i : goal.invariant-loop-i
invariant-loop-i l = HasCounted (take l.i l.sids) l.lives l.initial.counts l.counts
