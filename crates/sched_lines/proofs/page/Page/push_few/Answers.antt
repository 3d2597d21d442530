-- The last two digits, behind those before them.
use Rattle.std.proofs.Common.{arith, append_assoc, refl}
use Rattle.itoa.proofs.Decimal.{decimal_pair}
use Rattle.sched_lines.proofs.page.Page.push_few.Goals as goal

pub returns-else-number-lt100-clause-put : goal.returns-else-number-lt100-clause-put
returns-else-number-lt100-clause-put c =
    rw (
      c.push_pair.ensures,
      c.push_first-else-number-lt100.ensures.put,
      decimal_pair c.args.number c.if-number-lt100.false (omega arith),
      append_assoc,
    ) refl
