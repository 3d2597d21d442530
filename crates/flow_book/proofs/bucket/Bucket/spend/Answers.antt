-- The level has the bytes that are taken.
use Rattle.std.proofs.Common.{ap, ◌*◌, ◌<◌, ◌≤◌, arith}
use Rattle.flow_book.specs.Bucket.{BucketView, level_of}
use Rattle.flow_book.proofs.Buckets.{most-limited, spent-stands}
use Rattle.flow_book.proofs.bucket.Bucket.spend.Goals as goal

pub returns-clause-taken : goal.returns-clause-taken
returns-clause-taken c = λ channel rate burst charges stands started.
    let some : 0 < c.args.self.now.per_slot = rw (← c.self.view_is) (omega arith) in
    let most = most-limited c.args.self.now c.args.slot c.args.bytes (omega (arith, some)) in
    let enough : 1280000 * c.args.bytes ≤ level_of c.args.self.now c.args.slot = omega (arith, most, c.requires.has) in
    let all = spent-stands channel rate burst c.args.self.now charges stands c.args.slot (1280000 * c.args.bytes) started enough in
    rw (
      c.level.ensures,
      c.from.ensures,
      ap (λ (b : BucketView). b.per_slot) c.self.view_is,
      ap (λ (b : BucketView). b.full) c.self.view_is,
    ) all
