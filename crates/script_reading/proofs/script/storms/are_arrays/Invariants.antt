-- The values so far are arrays.
use Rattle.std.proofs.Common.{◌≡◌, drop}
use Rattle.serde_json.specs.View.{items_view}
use Rattle.script_reading.specs.StormScript.{are_arrays}
use Rattle.script_reading.proofs.script.storms.are_arrays.Given as goal

abbrev pub invariant-loop-value : goal.invariant-loop-value
invariant-loop-value l = are_arrays (items_view l.values) ≡ are_arrays (items_view (drop l.value-index l.values))
