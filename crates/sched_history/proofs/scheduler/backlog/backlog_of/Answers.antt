-- One flow more, which waits or not.
use Rattle.std.proofs.Common.{◌≡◌, ◌∙◌, ◌+◌, ◌<◌, ◌≤◌, length, Some, option_map}
use Rattle.std.proofs.Common.{slice_get, ap, sym, arith}
use Rattle.flow_book.specs.Flows.{outstanding}
use Rattle.sched_history.proofs.flows.Waiting.{bytes-next, flows-waits, flows-none}
use Rattle.sched_history.proofs.scheduler.backlog.backlog_of.Goals as goal
use Rattle.sched_history.proofs.scheduler.backlog.backlog_of.Goals.{then-outstanding-gt0, else-outstanding-gt0}

pub loop-index-preserved : goal.loop-index-preserved
loop-index-preserved c =
    let was = c.loop-index.invariant in
    let flows = c.args.book.now.flows in
    let i = c.loop-index.index in
    let n = c.outstanding_at-outstanding.result in
    let is : option_map outstanding (slice_get flows i) ≡ Some n = c.outstanding_at-outstanding.ensures in
    let within : i < length flows =
    omega (arith, c.loop-index-test.true, c.len-index-end.ensures.value) in
    let bytes = bytes-next flows i n within is in
    elim c.if-outstanding-gt0.branch [
      | then-outstanding-gt0 w ↦ (
          let some : 0 < n = omega (arith, w.if-outstanding-gt0.true) in
          record {
            flows = w.flows-is ∙ ap (λ k. k + 1) was.flows ∙ sym (flows-waits flows i n within is some);
            bytes = omega (arith, was.bytes, bytes, c.from-bytes.ensures);
            few = omega (arith, was.few, w.flows-is);
            small = omega (arith, was.small, c.from-bytes.ensures, c.outstanding_at-outstanding.type_inv);
          })
      | else-outstanding-gt0 w ↦ (
          let none : n ≤ 0 = omega (arith, w.if-outstanding-gt0.false) in
          record {
            flows = w.flows-is ∙ was.flows ∙ sym (flows-none flows i n within is none);
            bytes = omega (arith, was.bytes, bytes, c.from-bytes.ensures);
            few = omega (arith, was.few, w.flows-is);
            small = omega (arith, was.small, c.from-bytes.ensures, c.outstanding_at-outstanding.type_inv);
          })
    ]
