-- Half of what is left is left.
use Rattle.std.proofs.Common.{◌≡◌, inl, inr, subst, arith}
use Rattle.sched_report.specs.Steps.{IsBelow}
use Rattle.sched_report.proofs.percentiles.search.Goals as goal

pub loop-least-init : goal.loop-least-init
loop-least-init c = record {
  order = omega arith;
  enough = c.requires.enough;
  below = λ k ls are n before. elim before [
    | inl near ↦ absurd (omega (arith, near))
    | inr small ↦ absurd (omega (arith, small.0))
  ];
}

pub loop-least-preserved-then-are_enough : goal.loop-least-preserved-then-are_enough
loop-least-preserved-then-are_enough c = record {
  order = omega arith;
  enough = c.are_enough.ensures.yes c.if-are_enough.true;
  below = c.loop-least.invariant.below;
}

pub loop-least-preserved : goal.loop-least-preserved
loop-least-preserved c = record {
  order = omega arith;
  enough = c.loop-least.invariant.enough;
  below = c.are_enough.ensures.no c.if-are_enough.false;
}

pub returns-clause-least : goal.returns-clause-least
returns-clause-least c = λ k ls are n before.
    let same : c.loop-least.most ≡ c.loop-least.least =
    omega (arith, c.loop-least.invariant.order, c.loop-least-test.false) in
    c.loop-least.invariant.below k ls are n (subst (IsBelow n) same before)
