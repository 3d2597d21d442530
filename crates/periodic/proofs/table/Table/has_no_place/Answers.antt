-- What is chosen is a placement.
use Rattle.std.proofs.Common.{◌≡◌, ℕ, Option, Some, None, true, ap, ◌∙◌}
use Rattle.std.specs.Prelude.{IfSome, is_some, not}
use Rattle.minislots.specs.declared.config.Config.{Config}
use Rattle.sched_calls.specs.declared.spec.FlowSpec.{FlowSpec}
use Rattle.periodic.specs.Placement.{Placed}
use Rattle.periodic.specs.Choice.{IsChosen}
use Rattle.periodic.specs.Fields.{placement_at}
use Rattle.periodic.specs.Search.{starts_of}
use Rattle.periodic.specs.Table.{HasPlacement}
use Rattle.std.proofs.Common.{List}
use Rattle.periodic.proofs.table.Table.has_no_place.Goals as goal

some-place : (c : Config) (placed : List Placed) (spec : FlowSpec) (next : ℕ) (starts : List ℕ)
    (o : Option ℕ) → IfSome o (λ reference. IsChosen c placed spec next (placement_at reference starts)) → is_some o ≡ true
    → HasPlacement c placed spec next
some-place c placed spec next starts None chosen some = absurd cc
some-place c placed spec next starts (Some reference) is some = (placement_at reference starts, is.lawful)

pub returns-clause-some : goal.returns-clause-some
returns-clause-some c = λ some.
    some-place _ _ _ _ _ c.chosen_without-reference.result c.chosen_without-reference.ensures.chosen (c.is_none.ensures ∙ ap not some)
