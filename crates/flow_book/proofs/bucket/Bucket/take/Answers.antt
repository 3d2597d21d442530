-- A grant is taken exactly where the level has its bytes.
use Rattle.std.proofs.Common.{refl, ap, ◌-◌, ◌*◌, ◌<◌, ◌≤◌, arith}
use Rattle.flow_book.specs.Bucket.{BucketView, level_of}
use Rattle.flow_book.proofs.Buckets.{kept-more, has-more, spent-stands, settled-spent}
use Rattle.flow_book.proofs.bucket.Bucket.take.Goals as goal

pub returns-then-level-wanted-clause-exact : goal.returns-then-level-wanted-clause-exact
returns-then-level-wanted-clause-exact c = λ channel rate burst charges stands started.
    let some : 0 < c.args.self.now.per_slot = rw (← c.self.view_is) (omega arith) in
    let less : level_of c.args.self.now c.args.slot < 1280000 * c.args.bytes =
    omega (arith, c.level-level.ensures) in (
      (λ no'. absurd cc),
      (λ kept.
          let has = has-more channel rate burst c.args.self.now charges stands c.args.slot (1280000 * c.args.bytes) started some
          kept in
          absurd (omega arith)),
    )

pub returns-clause-exact : goal.returns-clause-exact
returns-clause-exact c = λ channel rate burst charges stands started.
    let enough : 1280000 * c.args.bytes ≤ level_of c.args.self.now c.args.slot =
    omega (arith, c.level-level.ensures) in (
      (λ yes'. kept-more channel rate burst c.args.self.now charges stands c.args.slot (1280000 * c.args.bytes) started enough),
      (λ kept. refl),
    )

pub returns-clause-taken : goal.returns-clause-taken
returns-clause-taken c = λ yes' channel rate burst charges stands started.
    let enough : 1280000 * c.args.bytes ≤ level_of c.args.self.now c.args.slot =
    omega (arith, c.level-level.ensures) in
    let all = spent-stands channel rate burst c.args.self.now charges stands c.args.slot (1280000 * c.args.bytes) started enough in
    rw (
      c.level-level.ensures,
      c.from-wanted.ensures,
      ap (λ (b : BucketView). b.per_slot) c.self.view_is,
      ap (λ (b : BucketView). b.full) c.self.view_is,
    ) all

pub returns-clause-settled : goal.returns-clause-settled
returns-clause-settled c = λ yes' charges is started.
    let some : 0 < c.args.self.now.per_slot = rw (← c.self.view_is) (omega arith) in
    let all = settled-spent c.args.self.now charges c.args.slot (1280000 * c.args.bytes)
    (c.level-level.result - 1280000 * c.from-wanted.result) some
    (omega (arith, c.level-level.ensures)) started in
    rw (ap (λ (b : BucketView). b.per_slot) c.self.view_is, ap (λ (b : BucketView). b.full) c.self.view_is) all
