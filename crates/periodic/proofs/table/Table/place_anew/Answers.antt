-- Where a placement was chosen there is a place.
use Rattle.std.proofs.Common.{◌≡◌, Option, Result, Err}
use Rattle.sched_calls.specs.declared.placement.Placement.{Placement}
use Rattle.periodic.specs.declared.placement.PlaceFault.{PlaceFault}
use Rattle.periodic.specs.declared.placement.PlaceFault.TheVariants.{NoPlace, Memory}
use Rattle.periodic.specs.Fields.{placement_at}
use Rattle.periodic.specs.Search.{starts_of}
use Rattle.periodic.proofs.table.Table.place_anew.Goals as goal

differ : ◌≡◌ {A = Result (Placement × Option Placement) PlaceFault} (Err Memory) (Err NoPlace) → ⊥
differ same = cc

pub returns-in_default-copies_of-clause-no_place : goal.returns-in_default-copies_of-clause-no_place
returns-in_default-copies_of-clause-no_place c = (
  λ is. absurd (differ is),
  λ none. absurd (none (placement_at c.in-Some.reference (starts_of c.chosen_without.new.row)) c.in-Some.ensures.chosen.lawful),
)

pub move_to-requires-clause-lawful : goal.move_to-requires-clause-lawful
move_to-requires-clause-lawful c =
    rw (c.chosen_without.ensures.same, c.in-Ok.ensures.kept, c.starts.ensures)
    (c.args.next, c.in-Some.ensures.chosen.lawful)
