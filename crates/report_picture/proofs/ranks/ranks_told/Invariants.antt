-- The ranks so far.
use Rattle.std.proofs.Common.{◌≤◌, length}
use Rattle.sched_report.proofs.RanksTold.{AreFirstRanks}
use Rattle.report_picture.proofs.ranks.ranks_told.Given as goal

abbrev pub invariant-loop-index : goal.invariant-loop-index
invariant-loop-index l =
    AreFirstRanks l.reporter l.ranks l.index × (length l.ranks ≤ l.index)
