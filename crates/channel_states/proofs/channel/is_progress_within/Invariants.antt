-- It holds of all receivers where it holds of those that are left.
use Rattle.std.proofs.Common.{◌≤◌}
use Rattle.channel_states.proofs.Left.{IsLeft}
use Rattle.channel_states.proofs.channel.is_progress_within.Given as goal

abbrev pub invariant-loop-slot : goal.invariant-loop-slot
invariant-loop-slot l = record {
  acknowledged : IsLeft (λ slot. l.ack ≤ slot) l.progress l.slot-index;
  described : IsLeft (λ slot. slot ≤ l.next) l.progress l.slot-index;
}
