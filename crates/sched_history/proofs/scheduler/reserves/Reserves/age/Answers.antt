-- The Reserves that are left move to the head of the room.
use Rattle.std.proofs.Common.{◌≡◌, ◌∙◌, take, ap, arith}
use Rattle.sched_history.specs.Reserves.{aged, unmarked}
use Rattle.sched_history.proofs.reserves.Rooms.{IsAged-none, IsAged-next}
use Rattle.sched_history.proofs.scheduler.reserves.Reserves.age.Goals as goal

pub loop-place-init : goal.loop-place-init
loop-place-init c =
    record { long = c.self.invariant.0; aged = IsAged-none c.args.met.now c.self.inside.items }

pub keep-kept-requires : goal.keep-kept-requires
keep-kept-requires c =
    omega (arith, c.loop-place.invariant.aged.few, c.loop-place-test.true, c.self.invariant.1)

pub loop-place-preserved : goal.loop-place-preserved
loop-place-preserved c =
    let was = c.loop-place.invariant in
    let marked = c.is_marked.ensures in
    record {
      long = c.keep-kept.ensures.long ∙ was.long;
      aged = IsAged-next c.args.met.now c.self.inside.items c.loop-place.self-inside.items c.loop-place.place
          c.loop-place.kept was.aged
          (omega (arith, c.loop-place-test.true, c.self.invariant.1, c.self.invariant.0)) _ c.keep-kept.new.items
          c.keep-kept.result c.keep-kept.ensures.few (rw marked at c.keep-kept.ensures.kept)
          c.keep-kept.ensures.behind;
    }

pub invariant_of-self : goal.invariant_of-self
invariant_of-self c =
    let was = c.loop-place.invariant in
    (was.long, omega (arith, was.aged.few, c.loop-place.auto.place-end, c.self.invariant.1))

pub returns : goal.returns
returns c =
    let was = c.loop-place.invariant in
    let end : c.loop-place.place ≡ c.self.inside.count =
    omega (arith, c.loop-place.auto.place-end, c.loop-place-test.false) in
    was.aged.done ∙ ap (λ n. aged (unmarked c.args.met.now (take n c.self.inside.items))) end
    ∙ ap (λ rs. aged (unmarked c.args.met.now rs)) c.self.view_is
