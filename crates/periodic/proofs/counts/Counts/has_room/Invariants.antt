-- The frames gone through have room.
use Rattle.std.proofs.Common.{ℕ, ◌+◌, ◌*◌, ◌<◌, ◌≤◌, get_or}
use Rattle.periodic.specs.declared.TheConstants.{MAX_SPOTS}
use Rattle.periodic.proofs.counts.Counts.has_room.Given as goal

abbrev pub invariant-loop-index : goal.invariant-loop-index
invariant-loop-index l = record {
  room : (i : ℕ) → i < l.index → get_or l.self.starts (l.phase + i * l.wanted.interval) 0 + l.wanted.grants ≤ MAX_SPOTS;
}
