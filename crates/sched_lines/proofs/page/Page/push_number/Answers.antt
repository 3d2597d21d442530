-- A space, and the digits.
use Rattle.std.proofs.Common.{arith, append_assoc, refl}
use Rattle.itoa.proofs.Decimal.{decimal_four}
use Rattle.sched_lines.specs.Line.{number_text}
use Rattle.sched_lines.proofs.page.Page.push_number.Goals as goal

pub returns-then-number-lt10000-clause-put : goal.returns-then-number-lt10000-clause-put
unfolding number_text
returns-then-number-lt10000-clause-put c = rw (c.push_few.ensures.put, c.push.ensures, append_assoc) refl

pub returns-then-number-lt100000000-clause-put : goal.returns-then-number-lt100000000-clause-put
unfolding number_text
returns-then-number-lt100000000-clause-put c =
    rw (
      c.push_four.ensures.put,
      c.push_few-then-number-lt100000000.ensures.put,
      c.push.ensures,
      decimal_four c.args.number c.if-number-lt10000.false (omega arith),
      append_assoc,
      append_assoc,
    ) refl

pub returns-else-number-lt100000000-clause-put : goal.returns-else-number-lt100000000-clause-put
unfolding number_text
returns-else-number-lt100000000-clause-put c = rw (c.push_many.ensures.put, c.push.ensures, append_assoc) refl
