-- Those of no higher SID stand before all of higher ones.
use Rattle.std.proofs.Common.{nat_le, map, rules}
use Rattle.std.proofs.lemmas.List.Sorted.{IsPartitionPoint-from_clause, IsPartitionedBy-leb}
use Rattle.flow_book.specs.Slots.{sid_in}
use Rattle.flow_book.proofs.Searches.{not-falling, parted}
use Rattle.flow_book.proofs.flows.find_above.Goals as goal

pub returns-clause-value : goal.returns-clause-value
returns-clause-value c = λ up.
    let order = c.args.order.now in
    let sid = c.args.sid in
    let at = c.partition_point.result in
    let key = sid_in (map (λ b. b.value) c.args.slots.now) in
    let halves =
    IsPartitionPoint-from_clause (λ s. nat_le (key s) sid) order at c.partition_point.ensures.partitioned
    (IsPartitionedBy-leb key order sid (not-falling key order up)) (λ a r f k. search rules) in
    parted key order sid at c.partition_point.ensures.bound halves
