-- One digit, or two.
use Rattle.std.proofs.Common.{refl}
use Rattle.std.proofs.lemmas.Fmt.{decimal_digit}
use Rattle.itoa.proofs.Decimal.{decimal_two}
use Rattle.sched_lines.proofs.page.Page.push_first.Goals as goal

pub returns-then-number-lt10-clause-put : goal.returns-then-number-lt10-clause-put
returns-then-number-lt10-clause-put c = rw (c.push.ensures, decimal_digit c.args.number c.if-number-lt10.true) refl

pub returns-else-number-lt10-clause-put : goal.returns-else-number-lt10-clause-put
returns-else-number-lt10-clause-put c =
    rw (c.push_pair.ensures, decimal_two c.args.number c.if-number-lt10.false c.requires.below) refl
