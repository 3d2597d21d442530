-- The allocation of one element more.
use Rattle.std.proofs.Common.{◌≡◌, ◌∙◌, ◌+◌, ◌<◌, List, arith}
use Rattle.map_drawing.specs.Allocation.{front_length}
use Rattle.map_drawing.proofs.Fronts.{offset-≤}
use Rattle.sched_calls.specs.declared.reply.Entry.{Entry}
use Rattle.frame_picture.specs.Frames.{is_unsolicited_after, TellsUnsolicited}
use Rattle.sched_report.specs.Gaps.{is_free_in}
use Rattle.sched_report.proofs.Runs.{run_behind, run-more, run-within, longest-more}
use Rattle.sched_report.proofs.SlotLists.{first_allocations}
use Rattle.sched_report.proofs.gaps.largest_gap.Goals as goal

pub loop-i-preserved : goal.loop-i-preserved
loop-i-preserved c =
    let es = c.args.elements.now in
    let i = c.loop-i.i in
    let a = c.allocation_at-allocation.result in
    let kind = c.of-kind.result in
    let new = c.run_with-run.result in
    let was = c.loop-i.invariant in
    let inside : i < front_length es = omega (arith, c.loop-i-test.true, was.end, c.front_len-i-end.ensures.count) in
    let run : (h : List Entry) → TellsUnsolicited c.args.flows.now h
    → new ≡ run_behind (is_free_in c.args.met.now (is_unsolicited_after h)) 0 (first_allocations es (i + 1)) =
    λ h tells. run-more es i c.loop-i.run new a kind c.allocation_at-allocation.ensures c.run_with-run.ensures
    c.args.met.now c.args.flows.now (omega arith) (rw c.meets_at.ensures at (rw c.from.ensures at c.of-kind.ensures)) h tells
    (was.run h tells) in
    record {
      end = was.end;
      run = run;
      longest = λ h tells. c.max-longest.ensures
          ∙ longest-more (is_free_in c.args.met.now (is_unsolicited_after h)) es i c.loop-i.longest new
          (was.longest h tells) (run h tells);
      within = run-within es i c.loop-i.run new a kind c.allocation_at-allocation.ensures c.run_with-run.ensures
          c.requires.one_null c.requires.ascends inside was.within;
    }

pub run_with-run-requires : goal.run_with-run-requires
run_with-run-requires c =
    let es = c.args.elements.now in
    let i = c.loop-i.i in
    let was = c.loop-i.invariant in
    let inside : i < front_length es = omega (arith, c.loop-i-test.true, was.end, c.front_len-i-end.ensures.count) in
    omega (
      arith,
      was.within,
      offset-≤ es c.requires.one_null c.requires.ascends i (front_length es) (omega (arith, inside)) (omega arith),
      c.requires.short,
    )
