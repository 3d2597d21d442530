-- One more that still waits stands in line.
use Rattle.std.proofs.Common.{◌≡◌, true, false, arith}
use Rattle.std.proofs.lemmas.Bool.Decides.{nat_tests}
use Rattle.flow_book.specs.Queue.{still_waits}
use Rattle.flow_book.specs.Pending.{number_at}
use Rattle.flow_book.proofs.Lines.{order-put_in, order-take}
use Rattle.flow_book.proofs.Pendings.{number-too, left-out}
use Rattle.flow_book.proofs.shown.put_in_line.Goals as goal
use Rattle.flow_book.proofs.shown.put_in_line.Goals.{then-waiting-gt0+in_ok-keep_least, else-waiting-gt0}

pub loop-waiting-preserved : goal.loop-waiting-preserved
loop-waiting-preserved c =
    let part = c.args.part.now in
    let flows = c.args.flows.now in
    let i = c.loop-waiting.waiting-index in
    let w = c.waiting-item.result in
    let line = c.loop-waiting.line.items in
    let lt = c.loop-waiting-test.true in
    elim c.if-waiting-gt0.branch [
      | then-waiting-gt0+in_ok-keep_least v ↦ (
          let pass : still_waits w ≡ true = let more = v.if-waiting-gt0.true in grind (arith, nat_tests) in
          let number : v.number_at.result ≡ number_at flows w = v.number_at.ensures in
          rw (v.line-is, v.in_ok-keep_least.ensures, number) (record {
            order = order-take c.args.most _ (order-put_in (number_at flows w) line c.loop-waiting.invariant.order);
            kept = λ whole is.
                number-too still_waits part i w lt c.waiting-item.is (number_at flows) c.args.most whole line pass
                (c.loop-waiting.invariant.kept whole is);
          }))
      | else-waiting-gt0 v ↦ (
          let fail : still_waits w ≡ false = let none = v.if-waiting-gt0.false in grind (arith, nat_tests) in
          rw (v.line-is, left-out still_waits part i w lt c.waiting-item.is fail) c.loop-waiting.invariant)
    ]
