-- The items so far stand for the things so far, before the items that are left.
use Rattle.std.proofs.Common.{◌≤◌, List, length}
use Rattle.json.specs.Json.{value}
use Rattle.serde_json.specs.Data.{Data}
use Rattle.json_fields.specs.Listed.{StandEach}
use Rattle.json_fields.proofs.Items.{ItemsLeft}
use Rattle.call_reading.proofs.usual.read_things.Given as goal

abbrev pub invariant-items : goal.invariant-items
invariant-items g l = (ds : List Data) × ItemsLeft (value l.depth) l.initial.reader ds l.reader
    × StandEach g.X.FromTokens.stands_for ds l.things.items × (length l.reader ≤ length l.initial.reader)

abbrev pub decreases-items : goal.decreases-items
decreases-items g l = length l.reader
