-- The members so far stand before those that the tokens left give.
use Rattle.std.proofs.Common.{◌≡◌, ℕ, ◌+◌, ◌*◌, ◌≤◌, length, map}
use Rattle.json.specs.Json.{members, value}
use Rattle.serde_json.specs.Data.{no_members}
use Rattle.serde_json.specs.Read.{of_members, converted}
use Rattle.json_fields.specs.Plain.{data_of, members_of}
use Rattle.json_fields.proofs.Items.{ItemsLeft}
use Rattle.json_fields.proofs.plain.+read.Given as goal

abbrev pub decreases-read_plain : goal.decreases-read_plain
decreases-read_plain l = 2 * l.depth

abbrev pub decreases-read_items : goal.decreases-read_items
decreases-read_items l = 2 * l.depth + 1

abbrev pub invariant-read_items-items : goal.invariant-read_items-items
invariant-read_items-items l =
    ItemsLeft (value l.depth) l.initial.reader (map data_of l.found.items) l.reader

abbrev pub decreases-read_items-items : goal.decreases-read_items-items
decreases-read_items-items l = length l.reader

abbrev pub decreases-read_members : goal.decreases-read_members
decreases-read_members l = 2 * l.depth + 1

abbrev pub invariant-read_members-members : goal.invariant-read_members-members
invariant-read_members-members l =
    (n : ℕ) × (length l.reader ≤ n)
    × (converted (λ ms. of_members ms no_members) (members (value l.depth) (length l.initial.reader) l.initial.reader)
    ≡ converted (λ ms. of_members ms (members_of l.found.items)) (members (value l.depth) n l.reader))
    × (length l.reader ≤ length l.initial.reader)

abbrev pub decreases-read_members-members : goal.decreases-read_members-members
decreases-read_members-members l = length l.reader
