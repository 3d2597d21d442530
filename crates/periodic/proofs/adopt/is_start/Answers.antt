-- No minislot before the first that is taken is taken.
use Rattle.std.proofs.Common.{arith}
use Rattle.periodic.proofs.adopt.is_start.Goals as goal

pub returns-then-taken-start-clause-unlawful : goal.returns-then-taken-start-clause-unlawful
returns-then-taken-start-clause-unlawful c = λ no is.
    let taken = c.next_taken-taken in
    omega (arith, taken.ensures.is (omega arith), is.free.clear taken.result (omega arith) (omega arith))

pub returns-clause-lawful : goal.returns-clause-lawful
returns-clause-lawful c = λ yes. record {
  free = record {
    after = omega arith;
    within = omega arith;
    clear = λ m from to. c.next_taken-taken.ensures.none_before m from (omega (arith, to));
  };
  within_jitter = omega arith;
}
