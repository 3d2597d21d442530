-- Where a placement was chosen there is a place, and the flows of the table are sound.
use Rattle.std.proofs.Common.{◌≡◌, refl, sym, Result, Err}
use Rattle.sched_calls.specs.declared.placement.Placement.{Placement}
use Rattle.periodic.specs.declared.placement.PlaceFault.{PlaceFault}
use Rattle.periodic.specs.declared.placement.PlaceFault.TheVariants.{NoPlace, Memory}
use Rattle.periodic.specs.Fields.{placement_at}
use Rattle.periodic.specs.Search.{starts_of}
use Rattle.periodic.proofs.table.Table.place.Goals as goal

differ : ◌≡◌ {A = Result Placement PlaceFault} (Err Memory) (Err NoPlace) → ⊥
differ same = cc

pub returns-in-Err-clause-no_place : goal.returns-in-Err-clause-no_place
returns-in-Err-clause-no_place c = (
  λ is. absurd (differ is),
  λ none. absurd (none (placement_at c.in-Some.reference (starts_of c.chosen.new.row)) c.in-Some.ensures.chosen.lawful),
)

pub returns-in_default-clause-no_place : goal.returns-in_default-clause-no_place
returns-in_default-clause-no_place c =
    (λ is. c.in_default.ensures.absent, λ none. refl)

pub returns-in_default-clause-memory : goal.returns-in_default-clause-memory
returns-in_default-clause-memory c = λ is. absurd (differ (sym is))
