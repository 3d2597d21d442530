-- An allocation more that may stand there is one of the plan, and the spots behind it are left.
use Rattle.std.proofs.Common.{refl, rules, arith}
use Rattle.minislots.proofs.Bounds.{bounds_of}
use Rattle.map_build.specs.Plan.{demand_at}
use Rattle.map_build.proofs.Left.{left-all}
use Rattle.map_build.proofs.Walks.{chosen-fits, chosen-plan, chosen-left}
use Rattle.map_build.proofs.draft.Draft.fill.Goals as goal

pub loop-self-init : goal.loop-self-init
loop-self-init c =
    let d = c.args.self.now in
    let has = c.requires.unfilled in (
      _,
      has,
      left-all d.overlay.config c.args.spots.now d.offset c.requires.placed (omega (arith, has.after.ends)),
    )

pub next-next-requires-clause-placed : goal.next-next-requires-clause-placed
next-next-requires-clause-placed c = rw c.loop-self.invariant.1.config c.loop-self.invariant.2.placed

pub next-next-requires-clause-ahead : goal.next-next-requires-clause-ahead
next-next-requires-clause-ahead c = c.loop-self.invariant.2.ahead

pub put_allocation-requires-clause-usage : goal.put_allocation-requires-clause-usage
put_allocation-requires-clause-usage c = c.next-next.ensures.usage

pub put_allocation-requires-clause-fits : goal.put_allocation-requires-clause-fits
put_allocation-requires-clause-fits c =
    let d = c.args.self.now in
    let demand = demand_at d.overlay.flows c.args.spots.now c.args.waiting.now d.start in
    let fits = chosen-fits d.overlay.config demand c.loop-self.left.now c.loop-self.invariant.0 c.next-next.result.allocation
    c.loop-self.self c.next-next.new.self refl c.requires.placed c.loop-self.invariant.1 c.loop-self.invariant.2
    c.next-next.ensures.stands in
    omega (arith, fits, (bounds_of _ c.requires.unfilled.ready.lawful).frame_most)

pub loop-self-preserved : goal.loop-self-preserved
loop-self-preserved c =
    let d = c.args.self.now in
    let demand = demand_at d.overlay.flows c.args.spots.now c.args.waiting.now d.start in
    let plan = c.loop-self.invariant.0 in
    let left = c.loop-self.left.now in (
      _,
      chosen-plan d.overlay.config demand left plan c.next-next.result.allocation c.loop-self.self c.next-next.new.self
          refl c.requires.placed c.loop-self.invariant.1 c.loop-self.invariant.2 c.next-next.ensures.stands
          c.put_allocation.new.self c.in_ok-put_allocation.ensures,
      rw c.left_at-left.ensures
          (chosen-left d.overlay.config demand left plan c.next-next.result.allocation c.loop-self.self c.next-next.new.self
          refl c.requires.placed c.loop-self.invariant.1 c.loop-self.invariant.2 c.next-next.ensures.stands
          c.put_allocation.new.self c.in_ok-put_allocation.ensures),
    )

pub returns : goal.returns
returns c = search rules
