-- The members from the one before on have other keys.
use Rattle.std.proofs.Common.{◌≡◌, ◌≤◌, length, take}
use Rattle.serde_json.specs.Find.{get_member}
use Rattle.json_fields.specs.Plain.{members_of}
use Rattle.json_fields.proofs.plain.find.Given as goal

abbrev pub invariant-loop-left : goal.invariant-loop-left
invariant-loop-left l =
    (get_member l.key (members_of l.list.items) ≡ get_member l.key (members_of (take l.left l.list.items)))
    × (l.left ≤ length l.list.items)

abbrev pub decreases-loop-left : goal.decreases-loop-left
decreases-loop-left l = l.left
