-- The spots of the groups gone through are written.
use Rattle.std.proofs.Common.{◌≡◌, ◌≤◌, length, take, drop}
use Rattle.std.specs.List.{flat_map}
use Rattle.periodic.specs.declared.TheConstants.{MAX_SPOTS}
use Rattle.periodic.proofs.Grouped.{due_here}
use Rattle.periodic.proofs.group.fill.Given as goal

abbrev pub invariant-loop-group : goal.invariant-loop-group
invariant-loop-group l = record {
  long : length l.spots ≡ MAX_SPOTS;
  spots : take l.count l.spots ≡ flat_map (due_here l.config l.k) (take l.group-index l.groups);
  rest : drop l.count l.spots ≡ drop l.count l.fn.spots;
  most : l.count ≤ MAX_SPOTS;
}
