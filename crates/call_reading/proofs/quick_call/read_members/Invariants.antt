-- What was found is what the members so far say, which stand before those that are left.
use Rattle.std.proofs.Common.{length}
use Rattle.call_reading.specs.Seen.{seen_of}
use Rattle.call_reading.specs.Made.{SayBefore}
use Rattle.call_reading.proofs.quick_call.read_members.Given as goal

abbrev pub invariant-members : goal.invariant-members
invariant-members l = SayBefore l.depth l.initial.reader l.reader (seen_of l.found)

abbrev pub decreases-members : goal.decreases-members
decreases-members l = length l.reader
