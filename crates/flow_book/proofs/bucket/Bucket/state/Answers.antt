-- The level is the least that the windows of the charges leave.
use Rattle.std.proofs.Common.{ap, arith}
use Rattle.flow_book.specs.Bucket.{BucketView}
use Rattle.flow_book.proofs.States.{level-none, level-kept}
use Rattle.flow_book.proofs.bucket.Bucket.state.Goals as goal

pub returns-then-self-eq0 : goal.returns-then-self-eq0
returns-then-self-eq0 c = λ channel rate burst charges stands started.
    let per = ap (λ (b : BucketView). b.per_slot) c.self.view_is in
    level-none channel rate burst c.args.slot c.args.self.now charges stands (omega (arith, per))

pub returns : goal.returns
returns c = λ channel rate burst charges stands started.
    let per = ap (λ (b : BucketView). b.per_slot) c.self.view_is in
    rw c.level.ensures
    (level-kept channel rate burst c.args.slot c.args.self.now charges stands (omega (arith, per)) started)
