-- The flow is counted in the frames of its phase that are gone through, and the other counts are as they were.
use Rattle.std.proofs.Common.{◌≡◌, length}
use Rattle.periodic.specs.Counts.{AreCountedTo}
use Rattle.periodic.specs.Fields.{placed_of}
use Rattle.periodic.proofs.counts.Counts.count.Given as goal

abbrev pub invariant-loop-index : goal.invariant-loop-index
invariant-loop-index l = record {
  long : length l.self.starts ≡ 64;
  counted : AreCountedTo l.config (placed_of l.flow) l.taken l.fn.self.starts l.self.starts l.flow.phase
      l.flow.interval l.index;
}
