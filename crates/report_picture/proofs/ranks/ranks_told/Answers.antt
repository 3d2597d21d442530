-- One rank more, where it asked.
use Rattle.std.proofs.Common.{length, ◌∙◌, ap, refl, arith}
use Rattle.std.specs.Prelude.{slice_index}
use Rattle.std.proofs.lemmas.List.{length_push}
use Rattle.sched_report.specs.declared.ranks_told.RankTold.{RankTold}
use Rattle.sched_report.specs.RanksTold.{ranks_served}
use Rattle.sched_report.proofs.RanksTold.{first-ranks-more, first-ranks-same}
use Rattle.report_picture.proofs.ranks.ranks_told.Goals.{then-numbers-gt0, else-numbers-gt0}
use Rattle.report_picture.proofs.ranks.ranks_told.Goals as goal

pub loop-index-preserved : goal.loop-index-preserved
loop-index-preserved c =
    let past = c.args.reporter.now in
    let at = c.loop-index in
    let numbers = c.rank-numbers.result in
    let new : RankTold = record { rank = slice_index ranks_served at.index; numbers = numbers } in
    elim c.if-numbers-gt0.branch [
      | then-numbers-gt0 w ↦
          let is = w.ranks-is ∙ w.push.ensures in (
            rw is
                (first-ranks-more past at.ranks at.index 0 new at.invariant.0 c.loop-index-test.true
                refl c.rank-numbers.ensures w.if-numbers-gt0.true),
            omega (arith, ap length is, length_push at.ranks new, at.invariant.1),
          )
      | else-numbers-gt0 w ↦ (
        rw w.ranks-is
            (first-ranks-same past at.ranks at.index 0 numbers at.invariant.0 c.loop-index-test.true
            c.rank-numbers.ensures (omega (arith, w.if-numbers-gt0.false))),
        omega (arith, ap length w.ranks-is, at.invariant.1),
      )
    ]
