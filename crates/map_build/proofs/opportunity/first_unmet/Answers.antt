-- None of the places before the one that is found is unmet and fits.
use Rattle.std.proofs.Common.{arith}
use Rattle.sched_calls.specs.declared.opportunity.Usage.TheVariants.{Initial}
use Rattle.sched_calls.specs.declared.opportunity.Opportunity.{Opportunity}
use Rattle.map_build.proofs.Unmet.{first-unmet, marked-met, long-unfit, none-more, none-unmet}
use Rattle.map_build.proofs.opportunity.first_unmet.Goals as goal
use Rattle.map_build.proofs.opportunity.first_unmet.Goals.{else-not-met-place-via-then-not-met-place+else-waiting-place}
use Rattle.map_build.proofs.opportunity.first_unmet.Goals.{else-not-met-place-via-else-not-met-place}

-- what a place past the end is read as
abbrev no_opportunity : Opportunity
no_opportunity = record { usage = Initial; slots = 0 }

pub returns-then-waiting-place-clause-found : goal.returns-then-waiting-place-clause-found
returns-then-waiting-place-clause-found c =
    first-unmet c.args.waiting.now c.args.met.now c.args.room c.loop-place.place no_opportunity c.loop-place-test.true
    (omega (arith, c.requires, c.type_inv.met)) c.if-not-met-place.true c.if-waiting-place.true c.loop-place.invariant

pub loop-place-preserved : goal.loop-place-preserved
loop-place-preserved c =
    none-more c.args.waiting.now c.args.met.now c.args.room c.loop-place.place c.loop-place.invariant
    (elim c.else-not-met-place.branch [
      | else-not-met-place-via-then-not-met-place+else-waiting-place w ↦
          long-unfit c.args.waiting.now c.args.met.now c.args.room c.loop-place.place no_opportunity
          (omega (arith, w.if-waiting-place.false))
      | else-not-met-place-via-else-not-met-place w ↦
          marked-met c.args.waiting.now c.args.met.now c.args.room c.loop-place.place w.if-not-met-place.false
    ])

pub returns-clause-none : goal.returns-clause-none
returns-clause-none c =
    none-unmet c.args.waiting.now c.args.met.now c.args.room c.loop-place.place c.loop-place.invariant
    c.loop-place-test.false
