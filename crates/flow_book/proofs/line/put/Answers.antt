-- The number stands in its place.
use Rattle.std.proofs.Common.{◌∙◌}
use Rattle.flow_book.proofs.Numbers.{put-more}
use Rattle.flow_book.proofs.line.put.Goals as goal

pub returns-in_ok-insert : goal.returns-in_ok-insert
returns-in_ok-insert c =
    rw c.in-Some.is (λ ns new is. c.in_ok-insert.ensures.keys ∙ put-more c.in-Some.number ns c.args.numbers.now.keys new is)
