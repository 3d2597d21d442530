-- It is apart from all spots where it is from those that are left.
use Rattle.periodic.specs.Table.{IsApart}
use Rattle.channel_states.proofs.Left.{IsLeft}
use Rattle.channel_states.proofs.frame.is_apart.Given as goal

abbrev pub invariant-loop-other : goal.invariant-loop-other
invariant-loop-other l = IsLeft (λ s. IsApart s l.fn.spot) l.spots l.other-index
