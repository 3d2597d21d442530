-- Each that is gone through takes the place of the soonest before it where it is sooner.
use Rattle.std.proofs.Common.{◌≡◌, refl, ◌<◌, ◌∙◌, ℕ, length, true, Bool, cond, nat_lt, inl, arith}
use Rattle.std.proofs.Common.{false}
use Rattle.std.proofs.lemmas.Bool.Decides.{nat_tests}
use Rattle.flow_book.specs.declared.soonest.Able.{Able}
use Rattle.flow_book.specs.Queue.{still_waits}
use Rattle.flow_book.proofs.Serving.{AnswersMay, begun-in, able-here, passed-here}
use Rattle.flow_book.proofs.SoonestOnes.{soonest-more, soonest-step, soonest-end, soonest-whole}
use Rattle.flow_book.proofs.soonest.sooner_behind.Goals as goal
use Rattle.flow_book.proofs.soonest.sooner_behind.Goals.{Joined-may_be_served, then-may_be_served, else-may_be_served}

pub loop-index-init : goal.loop-index-init
loop-index-init c = record { best = c.requires.able; within = c.requires.within }

pub returns-then-best-waiting-clause-next : goal.returns-then-best-waiting-clause-next
returns-then-best-waiting-clause-next c = λ items has.
    let still : still_waits c.index-queue-index.result ≡ true =
    let more = c.if-waiting-gt0.true in grind (arith, nat_tests) in
    soonest-whole c.args.config.now items c.args.tiers.now c.args.queue.now c.args.start c.args.room.slots
    c.loop-index.index c.loop-index.best.index c.loop-index.best.turn c.index-queue-index.result has
    c.loop-index-test.true c.index-queue-index.is still c.if-best-waiting.true (c.loop-index.invariant.best items has)

pub returns-then-best-waiting-clause-within : goal.returns-then-best-waiting-clause-within
returns-then-best-waiting-clause-within c = c.loop-index.invariant.within

pub may_be_served-requires-clause-begun : goal.may_be_served-requires-clause-begun
may_be_served-requires-clause-begun c = λ still.
    begun-in c.args.config.now c.requires.started.0 c.args.tiers.now c.args.queue.now c.args.start c.loop-index.index
    c.index-queue-index.result c.requires.started.1 c.loop-index-test.true c.index-queue-index.is still

pub turn_at-turn-requires : goal.turn_at-turn-requires
turn_at-turn-requires c =
    begun-in c.args.config.now c.requires.started.0 c.args.tiers.now c.args.queue.now c.args.start c.loop-index.index
    c.index-queue-index.result c.requires.started.1 c.loop-index-test.true c.index-queue-index.is
    (c.may_be_served.ensures.waits c.if-may_be_served.true)

-- each is answered for this channel
told : (c : Joined-may_be_served) → AnswersMay c.args.config.now c.args.tiers.now c.args.start c.args.room.slots
    c.index-queue-index.result c.may_be_served.result
told c = λ items f.
    c.may_be_served.ensures.may c.args.config.now items f c.quantum.ensures.lawful
    (omega (arith, c.from-quantum.ensures, c.quantum.ensures.value)) c.requires.room

within-by : (b : Bool) (i j turn more n : ℕ) (best : Able) → i < n → j < n
    → best ≡ cond b (record { index = i; turn = turn }) (record { index = j; turn = more }) → best.index < n
within-by true i j turn more n best lt lt' which = rw which lt
within-by false i j turn more n best lt lt' which = rw which lt'

pub loop-index-preserved : goal.loop-index-preserved
loop-index-preserved c = elim c.if-may_be_served.branch [
  | then-may_be_served v ↦ record {
    best = λ items has.
        let config = c.args.config.now in
        let tiers = c.args.tiers.now in
        let queue = c.args.queue.now in
        let i = c.loop-index.index in
        let w = c.index-queue-index.result in
        soonest-step config items tiers queue c.args.start c.args.room.slots i v.turn_at-turn.result c.loop-index.best w
        (nat_lt v.turn_at-turn.result c.loop-index.best.turn) refl c.loop-index-test.true c.index-queue-index.is
        v.turn_at-turn.ensures
        (able-here config items tiers queue c.args.start c.args.room.slots i w c.may_be_served.result has
        c.loop-index-test.true c.index-queue-index.is c.may_be_served.ensures.waits (told c) v.if-may_be_served.true)
        (c.loop-index.invariant.best items has) c.if-may_be_served.best (v.best-is ∙ v.sooner-best.ensures);
    within = within-by (nat_lt v.turn_at-turn.result c.loop-index.best.turn) c.loop-index.index
        c.loop-index.best.index v.turn_at-turn.result c.loop-index.best.turn (length c.args.queue.now)
        c.if-may_be_served.best c.loop-index-test.true c.loop-index.invariant.within (v.best-is ∙ v.sooner-best.ensures);
  }
  | else-may_be_served v ↦ rw v.best-is (record {
    best = λ items has.
        let w = c.index-queue-index.result in
        soonest-more c.args.config.now items c.args.tiers.now c.args.queue.now c.args.start c.args.room.slots
        c.loop-index.index c.loop-index.best.index c.loop-index.best.turn w c.loop-index-test.true
        c.index-queue-index.is (λ still. inl (passed-here c.args.config.now items c.args.tiers.now c.args.queue.now
        c.args.start c.args.room.slots c.loop-index.index w c.may_be_served.result has c.loop-index-test.true
        c.index-queue-index.is (told c) v.if-may_be_served.false still)) (c.loop-index.invariant.best items has);
    within = c.loop-index.invariant.within;
  })
]

pub returns-clause-next : goal.returns-clause-next
returns-clause-next c = λ items has.
    soonest-end c.args.config.now items c.args.tiers.now c.args.queue.now c.args.start c.args.room.slots
    c.loop-index.index c.loop-index.best.index c.loop-index.best.turn (omega (arith, c.loop-index-test.false))
    (c.loop-index.invariant.best items has)
