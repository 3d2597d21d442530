-- A full bucket with the level of the carried grant from its start on stands for that grant.
use Rattle.std.proofs.Common.{ap}
use Rattle.flow_book.specs.Bucket.{BucketView}
use Rattle.flow_book.proofs.Carried.{leveled-stands}
use Rattle.flow_book.proofs.bucket.Bucket.carried.Goals as goal

pub returns-in-Some-Some-clause-stands : goal.returns-in-Some-Some-clause-stands
returns-in-Some-Some-clause-stands c =
    let a = c.args in
    rw (
      c.in-Some-Some.is-0,
      c.in-Some-Some.is-1,
      ap (λ (b : BucketView). b.per_slot) c.bucket.view_is,
      ap (λ (b : BucketView). b.full) c.bucket.view_is,
    ) (leveled-stands a.config.now a.rate a.burst c.open-bucket.result c.open-bucket.ensures.empty
    c.in-Some-Some.start c.in-Some-Some.level (rw c.in-Some-Some.is-1 at c.requires))
