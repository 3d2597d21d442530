-- The scripts so far are followed by those of the arrays that are left.
use Rattle.std.proofs.Common.{◌≡◌, ◌≤◌, ◌*◌, ◌^◌, length, vec_len, vec_capacity}
use Rattle.serde_json.specs.View.{items_view}
use Rattle.script_reading.specs.StormScript.{calls_each}
use Rattle.script_reading.specs.StormScript.{scripts_of}
use Rattle.script_reading.proofs.StormCalls.{left_scripts}
use Rattle.script_reading.proofs.script.storms.scripts_of.Given as goal

abbrev pub invariant-loop-array : goal.invariant-loop-array
invariant-loop-array l = record {
  left : scripts_of 0 (items_view l.arrays) ≡ left_scripts l.arrays (calls_each l.scripts.items) l.before l.array-index;
  len : vec_len l.scripts ≡ l.array-index;
  room : length l.arrays ≤ vec_capacity l.scripts;
  bound : l.before ≤ l.array-index * 2 ^ 59;
}
