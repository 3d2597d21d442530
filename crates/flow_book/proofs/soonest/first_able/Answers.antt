-- Each that is gone through and still waits is asked whether its flow may be served.
use Rattle.std.proofs.Common.{◌≡◌, sym, ap, ◌∙◌, subst, take, ◌++◌, ◌∷◌, []}
use Rattle.std.proofs.Common.{false, filter, arith}
use Rattle.std.specs.List.{AllByRecursion}
use Rattle.std.proofs.lemmas.Bool.Decides.{nat_tests}
use Rattle.std.proofs.lemmas.List.{take_more, take_all}
use Rattle.flow_book.specs.Queue.{IsPassed, still_waits}
use Rattle.minislots.proofs.Bounds.{bounds_of}
use Rattle.minislots.specs.Units.{bytes_in}
use Rattle.flow_book.proofs.Order.{all-implied}
use Rattle.flow_book.proofs.Serving.{none-fits, begun-in, able-here, passed-here}
use Rattle.flow_book.proofs.StillWaiting.{kept-more, none-kept}
use Rattle.flow_book.proofs.soonest.first_able.Goals as goal

pub loop-index-init : goal.loop-index-init
loop-index-init c = λ items has.
    none-kept (IsPassed c.args.config.now c.args.start c.args.room.slots items) still_waits
    (take c.args.first c.args.queue.now)
    (all-implied (λ w. w.wants ≡ 0) (λ w. still_waits w ≡ false) (take c.args.first c.args.queue.now)
    (λ w none. grind (arith, nat_tests)) c.requires.passed)

pub returns-then-room-eq0-clause-next : goal.returns-then-room-eq0-clause-next
returns-then-room-eq0-clause-next c = λ items has.
    let config = c.args.config.now in
    let lawful = c.quantum.ensures.lawful in
    let bounds = bounds_of config lawful in
    let none : bytes_in config c.args.room.slots ≡ 0 =
    omega (arith, c.if-room-eq0.true, c.requires.room, bounds.cap_least, bounds.quantum_least) in
    none-fits config c.args.start c.args.room.slots items lawful none (filter still_waits c.args.queue.now)

pub may_be_served-requires-clause-begun : goal.may_be_served-requires-clause-begun
may_be_served-requires-clause-begun c = λ still.
    begun-in c.args.config.now c.requires.started.0 c.args.tiers.now c.args.queue.now c.args.start c.loop-index.index
    c.index-queue-index.result c.requires.started.1 c.loop-index-test.true c.index-queue-index.is still

pub returns-then-may_be_served-clause-next : goal.returns-then-may_be_served-clause-next
returns-then-may_be_served-clause-next c = λ items has. record {
  able = able-here c.args.config.now items c.args.tiers.now c.args.queue.now c.args.start c.args.room.slots
      c.loop-index.index c.index-queue-index.result c.may_be_served.result has c.loop-index-test.true
      c.index-queue-index.is c.may_be_served.ensures.waits (λ items f. c.may_be_served.ensures.may c.args.config.now items f c.quantum.ensures.lawful
      (omega (arith, c.from-quantum.ensures, c.quantum.ensures.value)) c.requires.room) c.if-may_be_served.true;
  passed = c.loop-index.invariant items has;
}

pub loop-index-preserved : goal.loop-index-preserved
loop-index-preserved c = λ items has.
    let config = c.args.config.now in
    let queue = c.args.queue.now in
    let i = c.loop-index.index in
    let w = c.index-queue-index.result in
    let lt = c.loop-index-test.true in
    let P = IsPassed config c.args.start c.args.room.slots items in
    subst (λ ws. AllByRecursion P (filter still_waits ws))
    (sym (take_more queue i w lt ∙ ap (λ v. take i queue ++ v ∷ []) (sym c.index-queue-index.is)))
    (kept-more P still_waits (take i queue) w
    (passed-here config items c.args.tiers.now queue c.args.start c.args.room.slots i w c.may_be_served.result has lt
    c.index-queue-index.is (λ items f. c.may_be_served.ensures.may c.args.config.now items f c.quantum.ensures.lawful
    (omega (arith, c.from-quantum.ensures, c.quantum.ensures.value)) c.requires.room) c.if-may_be_served.false) (c.loop-index.invariant items has))

pub returns-clause-next : goal.returns-clause-next
returns-clause-next c = λ items has.
    let queue = c.args.queue.now in
    let P = IsPassed c.args.config.now c.args.start c.args.room.slots items in
    let all : take c.loop-index.index queue ≡ queue = take_all _ _ (omega (arith, c.loop-index-test.false)) in
    subst (λ ws. AllByRecursion P (filter still_waits ws)) all (c.loop-index.invariant items has)
