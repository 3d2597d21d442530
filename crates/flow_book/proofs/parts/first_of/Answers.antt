-- The sooner of the first of the queue and the first of those served that come ahead of it is next.
use Rattle.std.proofs.Common.{◌≡◌, sym, ◌∙◌, length, arith}
use Rattle.std.proofs.lemmas.Bool.Decides.{nat_tests}
use Rattle.flow_book.proofs.InParts.{queued-part, served-part, sooner-next, alone-next}
use Rattle.flow_book.proofs.parts.first_of.Goals as goal

pub soonest-queued-requires-clause-started : goal.soonest-queued-requires-clause-started
soonest-queued-requires-clause-started c = (
  c.requires.started.0,
  queued-part c.args.config.now c.requires.started.0 c.args.tiers.now c.args.queue.now c.args.served.now c.args.start
      c.args.room.slots c.requires.started.1,
)

pub returns-then-is_empty-clause-next : goal.returns-then-is_empty-clause-next
returns-then-is_empty-clause-next c = λ items has.
    let config = c.args.config.now in
    let none : length c.args.served.now ≡ 0 =
    let e = sym c.is_empty.ensures ∙ c.if-is_empty.true in grind (arith, nat_tests, e) in
    rw c.in_queue.ensures
    (alone-next config items c.args.tiers.now c.args.queue.now c.args.served.now c.args.start c.args.room.slots has
    c.soonest-queued.result none
    (c.soonest-queued.ensures.next items (queued-part config items c.args.tiers.now c.args.queue.now c.args.served.now
    c.args.start c.args.room.slots has)))

pub ahead_of-ahead-requires : goal.ahead_of-ahead-requires
ahead_of-ahead-requires c = record { ascending = c.requires.started.1.order.served_ones.ascending }

pub soonest-passed-requires-clause-started : goal.soonest-passed-requires-clause-started
soonest-passed-requires-clause-started c = (
  c.requires.started.0,
  served-part c.args.config.now c.requires.started.0 c.args.tiers.now c.args.queue.now c.args.served.now c.args.start
      c.args.room.slots c.requires.started.1 c.ahead_of-ahead.result,
)

pub returns-clause-next : goal.returns-clause-next
returns-clause-next c = λ items has.
    let config = c.args.config.now in
    let queue = c.args.queue.now in
    let served = c.args.served.now in
    let start = c.args.start in
    let room = c.args.room.slots in
    let ahead = c.ahead_of-ahead.result in
    rw c.sooner_of.ensures
    (sooner-next config items c.args.tiers.now queue served start room has ahead c.soonest-queued.result
    c.soonest-passed.result
    (c.soonest-queued.ensures.next items (queued-part config items c.args.tiers.now queue served start room has))
    c.ahead_of-ahead.ensures.ahead
    (c.soonest-passed.ensures.next items (served-part config items c.args.tiers.now queue served start room has ahead)))
