-- The spots at the starts gone through are marked, and the bound is one.
use Rattle.std.proofs.Common.{◌<◌, map, take}
use Rattle.minislots.specs.declared.config.Config.{Config}
use Rattle.periodic.specs.Bits.{bit_for}
use Rattle.periodic.specs.Placement.{spot_at, starts_in}
use Rattle.periodic.specs.Rows.{AreMarked, HaveAtMost}
use Rattle.periodic.specs.Fields.{placed_of, IsSoundFlow}
use Rattle.periodic.proofs.spots.PlacedFlow.mark.Given as goal

abbrev pub invariant-loop-start : goal.invariant-loop-start
invariant-loop-start l = record {
  marked : (c : Config) → IsSoundFlow c l.self → l.place < c.cycle
      → AreMarked (map (spot_at c (placed_of l.self))
      (take l.start-index (starts_in c l.self.spec l.self.placement l.place)))
      (bit_for l.taken) l.fn.bits.words l.bits.words;
  bounded : HaveAtMost l.config l.bits.words l.most;
}
