use Rattle.std.proofs.Common.{drop, inl}
use Rattle.map_snapshot.proofs.Names.{publishes}
use Rattle.map_snapshot.proofs.opening.lay.Goals as goal

pub publish_as-writer-requires : goal.publish_as-writer-requires
publish_as-writer-requires g c next is =
    let writer = c.in_ok-writer.writer in
    publishes _ _ writer.desk.shown.value next (drop writer.behind writer.log.items) (inl c.in_ok-writer.ensures.1) is
