-- The entries so far are followed by those of the values that are left.
use Rattle.std.proofs.Common.{◌≡◌, ◌≤◌, length, vec_len, vec_capacity}
use Rattle.serde_json.specs.View.{items_view}
use Rattle.history_reading.specs.Recorded.{entries_of}
use Rattle.history_reading.proofs.Entries.{entries_left}
use Rattle.history_reading.proofs.recorded.entries_of.Given as goal

abbrev pub invariant-loop-index : goal.invariant-loop-index
invariant-loop-index l =
    (entries_of 1 (items_view l.values) ≡ entries_left l.values l.entries.items l.index)
    × (vec_len l.entries ≡ l.index) × (length l.values ≤ vec_capacity l.entries)
