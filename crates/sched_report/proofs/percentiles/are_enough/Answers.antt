-- What is counted up to a delay decides.
use Rattle.std.proofs.Common.{◌*◌, inl, inr, arith}
use Rattle.std.proofs.lemmas.Bool.{leb-true, leb-false}
use Rattle.sched_report.proofs.percentiles.are_enough.Goals as goal

pub returns-clause-no : goal.returns-clause-no
returns-clause-no c = λ not_enough k ls are n before.
    let counts = c.upto.ensures.counts k ls are in
    elim before [
      | inl near ↦ omega (arith, counts.near n near, leb-false c.args.wanted (100 * c.upto.result) not_enough)
      | inr small ↦
          omega (
            arith,
            counts.exact n small.1 (omega (arith, small.0)),
            leb-false c.args.wanted (100 * c.upto.result) not_enough,
          )
    ]

pub returns-clause-yes : goal.returns-clause-yes
returns-clause-yes c = λ enough k ls are.
    omega (
      arith,
      (c.upto.ensures.counts k ls are).within,
      leb-true c.args.wanted (100 * c.upto.result) enough,
    )
