-- The draft has a plan up to where it is, and these spots are left there.
use Rattle.std.proofs.Common.{◌-◌, List}
use Rattle.map_build.specs.declared.purpose.Allocation.{Allocation}
use Rattle.map_build.specs.Plan.{demand_at}
use Rattle.map_build.specs.Walk.{HasPlan}
use Rattle.map_build.specs.Left.{AreLeft}
use Rattle.map_build.proofs.draft.Draft.fill.Given as goal

abbrev pub invariant-loop-self : goal.invariant-loop-self
invariant-loop-self l = (plan : List Allocation)
    × HasPlan l.initial.self.overlay.config
    (demand_at l.initial.self.overlay.flows l.spots l.waiting l.initial.self.start) plan l.self
    × AreLeft l.initial.self.overlay.config l.spots l.left l.self.offset

abbrev pub decreases-loop-self : goal.decreases-loop-self
decreases-loop-self l = l.initial.self.overlay.config.frame - l.self.offset
