-- The calls so far are followed by those of the values that are left.
use Rattle.std.proofs.Common.{◌≡◌, ◌≤◌, ◌+◌, length, vec_len, vec_capacity}
use Rattle.serde_json.specs.View.{items_view}
use Rattle.script_reading.specs.Script.{calls_of}
use Rattle.script_reading.proofs.StormCalls.{left_after}
use Rattle.script_reading.proofs.script.calls_after.Given as goal

abbrev pub invariant-loop-index : goal.invariant-loop-index
invariant-loop-index l =
    (calls_of (l.before + 1) (items_view l.values) ≡ left_after l.before l.values l.calls.items l.index)
    × (vec_len l.calls ≡ l.index) × (length l.values ≤ vec_capacity l.calls)
