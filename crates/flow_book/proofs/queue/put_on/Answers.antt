-- One that wants nothing any more stays where it is.
use Rattle.std.proofs.Common.{◌≡◌, false, arith}
use Rattle.std.proofs.lemmas.Bool.Decides.{nat_tests}
use Rattle.flow_book.specs.Queue.{still_waits}
use Rattle.flow_book.proofs.Passing.{stays-behind}
use Rattle.flow_book.proofs.queue.put_on.Goals as goal

pub returns-then-waiting-eq0 : goal.returns-then-waiting-eq0
returns-then-waiting-eq0 c =
    let idle : still_waits c.args.waiting ≡ false = let none = c.if-waiting-eq0.true in grind (arith, nat_tests) in
    stays-behind c.args.queue.now c.args.index c.args.waiting c.requires.within idle
