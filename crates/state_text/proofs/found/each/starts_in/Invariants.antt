-- Those so far are followed by those of the values that are left.
use Rattle.std.proofs.Common.{◌≡◌, ◌≤◌, ◌^◌, length, vec_len, vec_capacity, map}
use Rattle.serde_json.specs.View.{items_of}
use Rattle.state_text.specs.Found.{number_in, each_in}
use Rattle.state_text.proofs.Each.{each_left}
use Rattle.state_text.proofs.found.each.starts_in.Given as goal

abbrev pub invariant-loop-value : goal.invariant-loop-value
invariant-loop-value g l =
    (each_in (number_in (2 ^ 16)) (items_of (map g.T.Tree.shown l.values))
    ≡ each_left g.T.Tree.shown (number_in (2 ^ 16)) l.values l.found.items l.value-index)
    × (vec_len l.found ≡ l.value-index) × (length l.values ≤ vec_capacity l.found)
