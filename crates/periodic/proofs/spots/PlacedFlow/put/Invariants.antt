-- The spots at the starts gone through are written.
use Rattle.std.proofs.Common.{◌≡◌, ◌+◌, ◌<◌, ◌++◌, length, map, take, drop}
use Rattle.minislots.specs.declared.config.Config.{Config}
use Rattle.periodic.specs.declared.TheConstants.{MAX_SPOTS}
use Rattle.periodic.specs.Placement.{due_at, due_starts}
use Rattle.periodic.specs.Fields.{placed_of, IsSoundFlow}
use Rattle.periodic.specs.Groups.{own_place}
use Rattle.periodic.proofs.spots.PlacedFlow.put.Given as goal

abbrev pub invariant-loop-start : goal.invariant-loop-start
invariant-loop-start l = record {
  long : length l.spots ≡ MAX_SPOTS;
  count : l.next ≡ l.count + l.start-index;
  spots : (c : Config) → IsSoundFlow c l.self → own_place l.self l.number < c.cycle
      → take l.next l.spots ≡ take l.count l.fn.spots
      ++ map (due_at c (placed_of l.self))
      (take l.start-index (due_starts c (placed_of l.self) (own_place l.self l.number)));
  rest : drop l.next l.spots ≡ drop l.next l.fn.spots;
}
