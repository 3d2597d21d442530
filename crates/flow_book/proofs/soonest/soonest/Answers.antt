-- The first that may be served begins the look at those behind it.
use Rattle.std.proofs.Common.{sym, ap, ◌∙◌, subst}
use Rattle.flow_book.specs.Queue.{still_waits, IsSoonest}
use Rattle.flow_book.specs.Tiers.{turn_at}
use Rattle.flow_book.proofs.Serving.{begun-in}
use Rattle.flow_book.proofs.SoonestOnes.{able-is}
use Rattle.flow_book.proofs.soonest.soonest.Goals as goal

pub soonest_of-index-requires-clause-able : goal.soonest_of-index-requires-clause-able
soonest_of-index-requires-clause-able c = λ items has. c.in_ok-first.ensures.next items has

pub turn_at-turn-requires : goal.turn_at-turn-requires
turn_at-turn-requires c =
    let config = c.args.config.now in
    let queue = c.args.queue.now in
    let tiers = c.args.tiers.now in
    let items = c.requires.started.0 in
    let has = c.requires.started.1 in
    let i = c.soonest_of-index.result in
    let w = c.index-queue-index.result in
    let first = (c.soonest_of-index.ensures.next items has).1 in
    let here = c.index-queue-index.is in
    begun-in config items tiers queue c.args.start i w has c.soonest_of-index.ensures.within here
    (ap still_waits (sym (able-is config items tiers queue c.args.start c.args.room.slots i w here first.able))
    ∙ first.able.waits)

pub returns-clause-next : goal.returns-clause-next
returns-clause-next c = λ items has.
    let config = c.args.config.now in
    let queue = c.args.queue.now in
    let tiers = c.args.tiers.now in
    let start = c.args.start in
    let room = c.args.room.slots in
    let i = c.soonest_of-index.result in
    let w = c.index-queue-index.result in
    let first = c.soonest_of-index.ensures.next items has in
    subst (IsSoonest config items tiers queue queue start room i)
    (first.1.is
    ∙ ap (turn_at config tiers start) (able-is config items tiers queue start room i w c.index-queue-index.is first.1.able)
    ∙ sym c.turn_at-turn.ensures)
    first.1
