-- The rate and the burst bound what the bucket has.
use Rattle.std.proofs.Common.{arith}
use Rattle.minislots.proofs.Bounds.{bounds_of}
use Rattle.flow_book.proofs.Buckets.{slow}
use Rattle.flow_book.proofs.bucket.Bucket.open.Goals as goal

pub invariant_of-result : goal.invariant_of-result
invariant_of-result c =
    let low = slow c.from.result c.from-2.result
    (omega (arith, (bounds_of _ c.ticks.ensures.lawful).ticks_most)) (omega arith) in
    (low, omega arith, omega arith)
