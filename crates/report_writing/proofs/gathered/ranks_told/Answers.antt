-- One rank more, where it asked.
use Rattle.std.proofs.Common.{refl, arith}
use Rattle.std.specs.Prelude.{slice_index}
use Rattle.sched_report.specs.declared.ranks_told.RankTold.{RankTold}
use Rattle.sched_report.specs.RanksTold.{ranks_served}
use Rattle.sched_report.proofs.RanksTold.{first-ranks-more, first-ranks-same}
use Rattle.report_writing.proofs.gathered.ranks_told.Goals.{then-numbers-gt0+in_ok-push, else-numbers-gt0}
use Rattle.report_writing.proofs.gathered.ranks_told.Goals as goal

pub loop-index-preserved : goal.loop-index-preserved
loop-index-preserved c =
    let past = c.args.reporter.now in
    let at = c.loop-index in
    let numbers = c.rank-numbers.result in
    let new : RankTold = record { rank = slice_index ranks_served at.index; numbers = numbers } in
    elim c.if-numbers-gt0.branch [
      | then-numbers-gt0+in_ok-push w ↦
          rw (w.ranks-is, w.in_ok-push.ensures.items)
          (first-ranks-more past at.ranks.items at.index 0 new at.invariant c.loop-index-test.true
          refl c.rank-numbers.ensures w.if-numbers-gt0.true)
      | else-numbers-gt0 w ↦
          rw (w.ranks-is)
          (first-ranks-same past at.ranks.items at.index 0 numbers at.invariant
          c.loop-index-test.true c.rank-numbers.ensures (omega (arith, w.if-numbers-gt0.false)))
    ]
