-- The first that may be served is the soonest where its turn is that of its highest rank.
use Rattle.std.proofs.Common.{◌≤◌, sym, ap, ◌∙◌, inr, arith}
use Rattle.flow_book.specs.Queue.{still_waits}
use Rattle.flow_book.proofs.Serving.{begun-in}
use Rattle.flow_book.proofs.SoonestOnes.{able-is, first-soonest, soonest-more, soonest-whole}
use Rattle.flow_book.proofs.soonest.soonest_of.Goals as goal

pub turn_at-turn-requires : goal.turn_at-turn-requires
turn_at-turn-requires c =
    let config = c.args.config.now in
    let queue = c.args.queue.now in
    let tiers = c.args.tiers.now in
    let items = c.requires.started.0 in
    let has = c.requires.started.1 in
    let i = c.args.index in
    let w = c.index-queue-index.result in
    let first = c.requires.able items has in
    let here = c.index-queue-index.is in
    begun-in config items tiers queue c.args.start i w has c.requires.within here
    (ap still_waits (sym (able-is config items tiers queue c.args.start c.args.room.slots i w here first.able))
    ∙ first.able.waits)

pub returns-then-turn-waiting-clause-next : goal.returns-then-turn-waiting-clause-next
returns-then-turn-waiting-clause-next c = λ items has.
    let config = c.args.config.now in
    let queue = c.args.queue.now in
    let tiers = c.args.tiers.now in
    let start = c.args.start in
    let room = c.args.room.slots in
    let i = c.args.index in
    let w = c.index-queue-index.result in
    let first = c.requires.able items has in
    let here = c.index-queue-index.is in
    let still = ap still_waits (sym (able-is config items tiers queue start room i w here first.able)) ∙ first.able.waits in
    let low : c.turn_at-turn.result ≤ w.turn = omega (arith, c.if-turn-waiting.true) in (
      c.turn_at-turn.result,
      soonest-whole config items tiers queue start room i i c.turn_at-turn.result w has c.requires.within here
          still low
          (first-soonest config items tiers queue start room i c.turn_at-turn.result w here c.turn_at-turn.ensures first),
    )

pub sooner_behind-requires-clause-able : goal.sooner_behind-requires-clause-able
sooner_behind-requires-clause-able c = λ items has.
    let config = c.args.config.now in
    let queue = c.args.queue.now in
    let tiers = c.args.tiers.now in
    let start = c.args.start in
    let room = c.args.room.slots in
    let i = c.args.index in
    let w = c.index-queue-index.result in
    let first = c.requires.able items has in
    let here = c.index-queue-index.is in
    soonest-more config items tiers queue start room i i c.turn_at-turn.result w c.requires.within here
    (λ still. inr (omega (arith, c.turn_at-turn.ensures)))
    (first-soonest config items tiers queue start room i c.turn_at-turn.result w here c.turn_at-turn.ensures first)

pub returns-clause-next : goal.returns-clause-next
returns-clause-next c = λ items has. (c.sooner_behind.result.turn, c.sooner_behind.ensures.next items has)
