-- The frames gone through have lawful starts.
use Rattle.std.proofs.Common.{ℕ, ◌<◌}
use Rattle.periodic.specs.Placement.{group_at}
use Rattle.channel_states.specs.Nominal.{AreStartsFrom}
use Rattle.channel_states.proofs.place.has_lawful_starts.Given as goal

abbrev pub invariant-loop-index : goal.invariant-loop-index
invariant-loop-index l = (index : ℕ) → index < l.index
    → AreStartsFrom l.config l.nominal l.place.offset (group_at l.nominal.grants index l.place.starts)
