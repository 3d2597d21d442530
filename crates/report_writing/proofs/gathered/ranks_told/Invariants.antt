-- The ranks so far.
use Rattle.sched_report.proofs.RanksTold.{AreFirstRanks}
use Rattle.report_writing.proofs.gathered.ranks_told.Given as goal

abbrev pub invariant-loop-index : goal.invariant-loop-index
invariant-loop-index l = AreFirstRanks l.reporter l.ranks.items l.index
