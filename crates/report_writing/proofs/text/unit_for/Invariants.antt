-- The number has room in none of the units so far.
use Rattle.std.proofs.Common.{◌≡◌, ℕ, ◌<◌, false}
use Rattle.report_writing.specs.Columns.{has_room}
use Rattle.report_writing.proofs.text.unit_for.Given as goal

abbrev pub invariant-loop-power : goal.invariant-loop-power
invariant-loop-power l = (k : ℕ) → k < l.power → has_room l.places l.number k ≡ false
