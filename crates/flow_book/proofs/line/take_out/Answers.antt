-- The others are left.
use Rattle.std.proofs.Common.{◌∙◌}
use Rattle.flow_book.proofs.Numbers.{taken-out}
use Rattle.flow_book.proofs.line.take_out.Goals as goal

pub returns-in-Some : goal.returns-in-Some
returns-in-Some c =
    rw c.in-Some.is (λ ns new is. c.remove.ensures.keys ∙ taken-out c.in-Some.number ns c.args.numbers.now.keys new is)
