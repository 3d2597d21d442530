-- The level has the bytes that are taken, and what is left of it is its remainder where they are fewer than the limit.
use Rattle.std.proofs.Common.{◌≡◌, ap, ◌-◌, ◌*◌, ◌%◌, ◌<◌, ◌≤◌, arith}
use Rattle.flow_book.specs.Bucket.{BucketView, level_of}
use Rattle.flow_book.proofs.Buckets.{spent-stands, settled-spent}
use Rattle.flow_book.proofs.bucket.Bucket.take_most.Goals as goal

pub returns-then-most-level-clause-taken : goal.returns-then-most-level-clause-taken
returns-then-most-level-clause-taken c = λ channel rate burst charges stands started.
    let enough : 1280000 * c.args.limit ≤ level_of c.args.self.now c.args.slot =
    omega (arith, c.from-most.ensures, c.level-level.ensures) in
    let all = spent-stands channel rate burst c.args.self.now charges stands c.args.slot (1280000 * c.args.limit) started enough in
    rw (
      c.level-level.ensures,
      c.from-most.ensures,
      ap (λ (b : BucketView). b.per_slot) c.self.view_is,
      ap (λ (b : BucketView). b.full) c.self.view_is,
    ) all

pub returns-clause-taken : goal.returns-clause-taken
returns-clause-taken c = λ channel rate burst charges stands started.
    let level = level_of c.args.self.now c.args.slot in
    let bytes = c.bytes_of.result in
    let enough : 1280000 * bytes ≤ level = omega (arith, c.bytes_of.ensures, c.level-level.ensures) in
    let left : level - 1280000 * bytes ≡ c.level-level.result % 1280000 =
    omega (arith, c.bytes_of.ensures, c.level-level.ensures, c.from-most.ensures) in
    let all = spent-stands channel rate burst c.args.self.now charges stands c.args.slot (1280000 * bytes) started enough in
    rw (
      ← left,
      ap (λ (b : BucketView). b.per_slot) c.self.view_is,
      ap (λ (b : BucketView). b.full) c.self.view_is,
    ) all

pub returns-then-most-level-clause-settled : goal.returns-then-most-level-clause-settled
returns-then-most-level-clause-settled c = λ charges is started.
    let some : 0 < c.args.self.now.per_slot = rw (← c.self.view_is) (omega arith) in
    let all =
    settled-spent c.args.self.now charges c.args.slot (1280000 * c.args.limit)
    (c.level-level.result - 1280000 * c.from-most.result) some
    (omega (arith, c.level-level.ensures)) started in
    rw (ap (λ (b : BucketView). b.per_slot) c.self.view_is, ap (λ (b : BucketView). b.full) c.self.view_is) all

pub returns-clause-settled : goal.returns-clause-settled
returns-clause-settled c = λ charges is started.
    let some : 0 < c.args.self.now.per_slot = rw (← c.self.view_is) (omega arith) in
    let all =
    settled-spent c.args.self.now charges c.args.slot (1280000 * c.bytes_of.result) (c.level-level.result % 1280000) some
    (omega (arith, c.level-level.ensures)) started in
    rw (ap (λ (b : BucketView). b.per_slot) c.self.view_is, ap (λ (b : BucketView). b.full) c.self.view_is) all
