-- The members so far stand before those that the tokens left give.
use Rattle.std.proofs.Common.{◌≡◌, ℕ, ◌+◌, ◌*◌, ◌≤◌, length}
use Rattle.json.specs.Json.{members, value}
use Rattle.serde_json.specs.Data.{no_members}
use Rattle.serde_json.specs.Read.{of_members, converted}
use Rattle.json_fields.specs.Plain.{members_of}
use Rattle.call_reading.proofs.quick_call.+object.Given as goal

abbrev pub decreases-read_object : goal.decreases-read_object
decreases-read_object l = 3 * l.depth

abbrev pub decreases-read_object_value : goal.decreases-read_object_value
decreases-read_object_value l = 3 * l.depth + 1

abbrev pub decreases-read_object_members : goal.decreases-read_object_members
decreases-read_object_members l = 3 * l.depth + 2

abbrev pub invariant-read_object_members-members : goal.invariant-read_object_members-members
invariant-read_object_members-members l =
    (n : ℕ) × (length l.reader ≤ n)
    × (converted (λ ms. of_members ms no_members) (members (value l.depth) (length l.initial.reader) l.initial.reader)
    ≡ converted (λ ms. of_members ms (members_of l.found.items)) (members (value l.depth) n l.reader))
    × (length l.reader ≤ length l.initial.reader)

abbrev pub decreases-read_object_members-members : goal.decreases-read_object_members-members
decreases-read_object_members-members l = length l.reader
