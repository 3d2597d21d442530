-- Those so far are followed by those of the values that are left.
use Rattle.std.proofs.Common.{◌≡◌, ◌≤◌, length, vec_len, vec_capacity, map}
use Rattle.serde_json.specs.View.{items_of}
use Rattle.state_text.specs.Found.{flow_state_in, each_in}
use Rattle.state_text.proofs.Each.{each_left}
use Rattle.state_text.proofs.found.flow.flow_states_in.Given as goal

abbrev pub invariant-loop-value : goal.invariant-loop-value
invariant-loop-value g l =
    (each_in flow_state_in (items_of (map g.T.Tree.shown l.values))
    ≡ each_left g.T.Tree.shown flow_state_in l.values l.found.items l.value-index)
    × (vec_len l.found ≡ l.value-index) × (length l.values ≤ vec_capacity l.found)
