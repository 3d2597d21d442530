-- The numbers so far are followed by those of the values that are left.
use Rattle.std.proofs.Common.{◌≡◌, ◌≤◌, ◌^◌, length, vec_len, vec_capacity, map}
use Rattle.serde_json.specs.View.{items_of}
use Rattle.history_reading.specs.Replies.{numbers_of}
use Rattle.history_reading.proofs.Numbers.{numbers_left}
use Rattle.history_reading.proofs.recorded.numbers.each_u16.Given as goal

abbrev pub invariant-loop-value : goal.invariant-loop-value
invariant-loop-value g l =
    (numbers_of (2 ^ 16) (items_of (map g.T.Tree.shown l.values))
    ≡ numbers_left g.T.Tree.shown (2 ^ 16) l.values l.numbers.items l.value-index)
    × (vec_len l.numbers ≡ l.value-index) × (length l.values ≤ vec_capacity l.numbers)
