-- Those that are no later stand before all later ones.
use Rattle.std.proofs.Common.{nat_le, rules}
use Rattle.std.proofs.lemmas.List.Sorted.{IsPartitionPoint-from_clause}
use Rattle.flow_book.specs.declared.waiting.Waiting.{Waiting}
use Rattle.flow_book.proofs.TurnEnds.{parted, ends-at}
use Rattle.flow_book.proofs.queue.place_after.Goals as goal

pub returns-clause-place : goal.returns-clause-place
returns-clause-place c =
    let queue = c.args.queue.now in
    let turn = c.args.turn in
    ends-at queue turn c.requires c.partition_point.result c.partition_point.ensures.bound
    (IsPartitionPoint-from_clause (λ (w : Waiting). nat_le w.turn turn) queue c.partition_point.result
    c.partition_point.ensures.partitioned (parted queue turn c.requires) (λ a r f k. search rules))
