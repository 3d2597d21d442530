-- The spots of the flows gone through are written.
use Rattle.std.proofs.Common.{◌≡◌, ◌<◌, ◌≤◌, ◌++◌, length, take, drop}
use Rattle.std.specs.List.{flat_map}
use Rattle.minislots.specs.declared.config.Config.{Config}
use Rattle.periodic.specs.declared.TheConstants.{MAX_SPOTS}
use Rattle.periodic.specs.Placement.{due_of}
use Rattle.periodic.specs.Fields.{placed_of}
use Rattle.periodic.specs.Groups.{IsSoundGroup}
use Rattle.periodic.proofs.group.Group.put_all.Given as goal

abbrev pub invariant-loop-flow : goal.invariant-loop-flow
invariant-loop-flow l = record {
  long : length l.spots ≡ MAX_SPOTS;
  spots : (c : Config) → IsSoundGroup c l.self → l.place < c.cycle
      → take l.next l.spots ≡ take l.count l.fn.spots
      ++ flat_map (λ f. due_of c l.place (placed_of f)) (take l.flow-index l.self.flows.items);
  rest : drop l.next l.spots ≡ drop l.next l.fn.spots;
  more : l.count ≤ l.next;
  most : l.next ≤ MAX_SPOTS;
}
