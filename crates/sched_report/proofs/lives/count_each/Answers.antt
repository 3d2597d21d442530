-- One allocation more.
use Rattle.std.proofs.Common.{◌≡◌, ◌+◌, ◌<◌, ℕ, [], length, get_or, None, refl, sym, ap, ◌∙◌, arith}
use Rattle.std.specs.Prelude.{sum_by}
use Rattle.sched_calls.specs.declared.spec.FlowSpec.{FlowSpec}
use Rattle.map_drawing.specs.Allocation.{front_length, allocation_at}
use Rattle.sched_report.specs.Said.{unsolicited_at}
use Rattle.sched_report.proofs.GrantedLaws.{HaveMore-none, HaveMore-is, HaveMore-then, HaveMore-live}
use Rattle.sched_report.proofs.GrantedLaws.{unsolicited-more}
use Rattle.sched_report.proofs.SlotLists.{first_allocations}
use Rattle.sched_report.proofs.lives.count_each.Goals as goal

pub allocation_at-requires : goal.allocation_at-requires
allocation_at-requires c =
    omega (
      arith,
      c.loop-i-test.true,
      c.loop-i.invariant.end,
      c.front_len-i-end.ensures.count,
      c.front_len-i-end.ensures.ends c.requires.front.1.one_null,
    )

pub count_at-requires-clause-live : goal.count_at-requires-clause-live
count_at-requires-clause-live c =
    let met = c.args.met.now in
    HaveMore-live c.requires.front.0 (λ (sid : ℕ). []) c.loop-i.i
    (λ (spec : FlowSpec) (sid : ℕ).
    sum_by (unsolicited_at met spec sid) (first_allocations c.args.elements.now c.loop-i.i)) c.args.lives.now
    c.loop-i.lives c.loop-i.auto.lives
    (c.loop-i.invariant.more c.requires.front.0) c.args.places.now c.requires.live

pub count_at-requires-clause-few : goal.count_at-requires-clause-few
count_at-requires-clause-few c = λ k t below alive.
    let within : k < length c.args.lives.now = omega (arith, below, c.loop-i.auto.lives) in
    let x = get_or c.args.lives.now k t in
    let more = c.loop-i.invariant.more c.requires.front.0 k t within in
    let goes_on : x.to ≡ None = sym more.to ∙ alive in
    omega (
      arith,
      more.few,
      c.requires.few k t within goes_on,
      c.loop-i-test.true,
      c.loop-i.invariant.end,
      c.front_len-i-end.ensures.count,
      c.front_len-i-end.ensures.within,
    )

pub loop-i-preserved : goal.loop-i-preserved
loop-i-preserved c =
    let met = c.args.met.now in
    record {
      end = c.loop-i.invariant.end;
      more = λ k.
          HaveMore-then k (λ (sid : ℕ). []) c.loop-i.i
          (λ (spec : FlowSpec) (sid : ℕ).
          sum_by (unsolicited_at met spec sid) (first_allocations c.args.elements.now c.loop-i.i)) c.args.lives.now
          c.loop-i.lives c.loop-i.auto.lives (c.loop-i.invariant.more k)
          (λ (sid : ℕ). []) (λ (sid : ℕ). []) 1 (c.loop-i.i + 1)
          (λ (spec : FlowSpec) (sid : ℕ). unsolicited_at met spec sid (allocation_at c.args.elements.now c.loop-i.i))
          (λ (spec : FlowSpec) (sid : ℕ).
          sum_by (unsolicited_at met spec sid) (first_allocations c.args.elements.now (c.loop-i.i + 1)))
          c.count_at.new.lives (rw c.allocation_at.ensures at c.count_at.ensures k) (λ sid. refl)
          (omega arith) (λ spec sid. unsolicited-more met spec sid c.args.elements.now c.loop-i.i);
    }

pub loop-i-init : goal.loop-i-init
loop-i-init c =
    let met = c.args.met.now in
    record {
      end = c.front_len-i-end.ensures.count;
      more = λ k.
          HaveMore-none k (λ (sid : ℕ). []) 0 (λ (spec : FlowSpec) (sid : ℕ).
          sum_by (unsolicited_at met spec sid) (first_allocations c.args.elements.now 0)) c.args.lives.now
          (λ i t below alive. refl) (λ i t below alive. refl);
    }

pub returns : goal.returns
returns c = λ k.
    let met = c.args.met.now in
    let last : c.loop-i.i ≡ front_length c.args.elements.now =
    omega (arith, c.loop-i-test.false, c.loop-i.auto.i-end, c.loop-i.invariant.end) in
    HaveMore-is k (λ (sid : ℕ). []) c.loop-i.i (λ (spec : FlowSpec) (sid : ℕ).
    sum_by (unsolicited_at met spec sid) (first_allocations c.args.elements.now c.loop-i.i)) (λ (sid : ℕ). [])
    (length c.args.elements.now)
    (λ (spec : FlowSpec) (sid : ℕ).
    sum_by (unsolicited_at met spec sid) (first_allocations c.args.elements.now (front_length c.args.elements.now)))
    c.args.lives.now c.loop-i.lives (λ sid. refl)
    (omega (
      arith,
      c.loop-i.auto.i-end,
      c.loop-i.invariant.end,
      c.front_len-i-end.ensures.count,
      c.front_len-i-end.ensures.within,
    ))
    (λ spec sid. ap (λ (n : ℕ). sum_by (unsolicited_at met spec sid) (first_allocations c.args.elements.now n)) last)
    (c.loop-i.invariant.more k)
