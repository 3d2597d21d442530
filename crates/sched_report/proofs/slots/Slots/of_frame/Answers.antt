-- The allocation of one element more.
use Rattle.std.proofs.Common.{◌<◌, arith}
use Rattle.map_drawing.specs.Allocation.{front_length}
use Rattle.sched_report.proofs.SlotLists.{slots-more, all_slots-more}
use Rattle.sched_report.proofs.slots.Slots.of_frame.Goals as goal

pub loop-i-preserved : goal.loop-i-preserved
loop-i-preserved c =
    let es = c.args.elements.now in
    let i = c.loop-i.i in
    let a = c.allocation_at-allocation.result in
    let kind = c.of-kind.result in
    let long = c.from-in-loop-i.result in
    let inside : i < front_length es =
    omega (arith, c.loop-i-test.true, c.loop-i.invariant.end, c.front_len-i-end.ensures.count) in
    record {
      end = c.loop-i.invariant.end;
      value = λ h tells. slots-more es i c.loop-i.slots c.with-slots.result a kind long
          c.allocation_at-allocation.ensures c.from-in-loop-i.ensures c.with-slots.ensures c.args.met.now
          c.args.flows.now (omega arith) (rw c.meets_at.ensures at (rw c.from.ensures at c.of-kind.ensures)) h tells
          (c.loop-i.invariant.value h tells);
      all = all_slots-more es i c.loop-i.slots c.with-slots.result a kind long c.allocation_at-allocation.ensures
          c.from-in-loop-i.ensures c.with-slots.ensures c.requires.one_null c.requires.ascends inside
          c.loop-i.invariant.all;
    }
