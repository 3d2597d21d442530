-- Each flow is compared with the next of those before it.
use Rattle.std.proofs.Common.{◌≡◌, ◌<◌, length, map, take, true, false, nat_lt, inl, inr, arith}
use Rattle.std.proofs.lemmas.Bool.Decides.{nat_tests}
use Rattle.std.proofs.lemmas.List.Elements.{All-from_recursion}
use Rattle.flow_book.specs.Flows.{outstanding}
use Rattle.flow_book.specs.Choice.{HasStartedBy}
use Rattle.flow_book.specs.Entry.{live, IsSoundFlow, KeepsSums}
use Rattle.flow_book.proofs.Order.{next-passes}
use Rattle.flow_book.proofs.Steps.{taken-item, all-item, lower-item, next-lower, step-changes, step-stays}
use Rattle.flow_book.proofs.Steps.{both-true, both-false}
use Rattle.flow_book.proofs.flow.first_eligible.Goals as goal
use Rattle.flow_book.proofs.flow.first_eligible.Goals.{then-both+then-is_eligible, else-both}
use Rattle.flow_book.proofs.flow.first_eligible.Goals.{else-both-via-then-both+else-is_eligible}
use Rattle.flow_book.proofs.flow.first_eligible.Goals.{else-both-via-else-both}

pub is_eligible-requires-clause-sound : goal.is_eligible-requires-clause-sound
is_eligible-requires-clause-sound c =
    all-item live c.args.flows.now c.loop-place.place c.at-flow.result.now (omega (arith, c.loop-place-test.true))
    c.at-flow.ensures (IsSoundFlow c.args.config.now) c.requires.sound.each

pub is_eligible-requires-clause-started : goal.is_eligible-requires-clause-started
is_eligible-requires-clause-started c =
    all-item live c.args.flows.now c.loop-place.place c.at-flow.result.now (omega (arith, c.loop-place-test.true))
    c.at-flow.ensures (HasStartedBy c.args.start) c.requires.started

pub waits-requires-clause-within : goal.waits-requires-clause-within
waits-requires-clause-within c =
    (all-item live c.args.flows.now c.loop-place.place c.at-flow.result.now (omega (arith, c.loop-place-test.true))
    c.at-flow.ensures (IsSoundFlow c.args.config.now) c.requires.sound.each).within

pub comes_before-requires-clause-within : goal.comes_before-requires-clause-within
comes_before-requires-clause-within c =
    (all-item live c.args.flows.now c.loop-place.place c.at-flow.result.now (omega (arith, c.loop-place-test.true))
    c.at-flow.ensures (IsSoundFlow c.args.config.now) c.requires.sound.each).within

pub comes_before-requires-clause-started : goal.comes_before-requires-clause-started
comes_before-requires-clause-started c =
    all-item live c.args.flows.now c.loop-place.place c.at-flow.result.now (omega (arith, c.loop-place-test.true))
    c.at-flow.ensures (HasStartedBy c.args.start) c.requires.started

pub comes_before-requires-clause-lower : goal.comes_before-requires-clause-lower
comes_before-requires-clause-lower c =
    let items = c.args.flows.now in
    let i = c.loop-place.place in
    let f = c.at-flow.result.now in
    next-lower c.args.config.now c.args.start c.args.room (map live (take i items)) f c.loop-place.next
    c.loop-place.invariant.next
    (lower-item items i f (omega (arith, c.loop-place-test.true)) c.at-flow.ensures c.requires.sound.ascending)

pub loop-place-preserved : goal.loop-place-preserved
loop-place-preserved c =
    let items = c.args.flows.now in
    let i = c.loop-place.place in
    let f = c.at-flow.result.now in
    let flows = map live (take i items) in
    let within : i < length items = omega (arith, c.loop-place-test.true) in
    let taken = taken-item live items i f within c.at-flow.ensures in
    let keeps : KeepsSums c.args.config.now f =
    rw c.at-flow.ensures (All-from_recursion (KeepsSums c.args.config.now) items c.requires.sums i f within) in
    let sound = all-item live items i f within c.at-flow.ensures (IsSoundFlow c.args.config.now) c.requires.sound.each in
    let began = all-item live items i f within c.at-flow.ensures (HasStartedBy c.args.start) c.requires.started in
    let lower = lower-item items i f within c.at-flow.ensures c.requires.sound.ascending in
    elim c.if-both.branch [
      | then-both+then-is_eligible w ↦ rw (taken, w.next-is) (record {
        next = step-changes c.args.config.now c.args.start c.args.room flows f c.loop-place.next c.comes_before.result
            c.loop-place.invariant.next (w.is_eligible.ensures.0 w.if-is_eligible.true) c.comes_before.ensures
            (both-true c.waits.result c.comes_before.result c.both.result c.both.ensures w.if-both.true).1;
        sums = keeps;
        within = sound.within;
        started = began;
      })
      | else-both w ↦ elim w.else-both.branch [
        | else-both-via-then-both+else-is_eligible v ↦ rw (taken, w.next-is) (record {
          next = next-passes c.args.config.now c.args.start c.args.room flows _ (live f) c.loop-place.invariant.next
              (λ may. let t : v.is_eligible.result ≡ true = v.is_eligible.ensures.1 may in
              let e : v.is_eligible.result ≡ false = v.if-is_eligible.false in cc);
          sums = c.loop-place.invariant.sums;
          within = c.loop-place.invariant.within;
          started = c.loop-place.invariant.started;
        })
        | else-both-via-else-both v ↦ rw (taken, w.next-is) (record {
          next = elim (both-false c.waits.result c.comes_before.result c.both.result c.both.ensures v.if-both.false) [
            | inl idle ↦ next-passes c.args.config.now c.args.start c.args.room flows _ (live f)
                c.loop-place.invariant.next (λ may. let some = may.waits in
                let t : c.waits.result ≡ nat_lt 0 (outstanding (live f)) = c.waits.ensures in grind (arith, nat_tests))
            | inr after ↦ step-stays c.args.config.now c.args.start c.args.room flows f c.loop-place.next
                c.comes_before.result c.loop-place.invariant.next lower c.comes_before.ensures after
          ];
          sums = c.loop-place.invariant.sums;
          within = c.loop-place.invariant.within;
          started = c.loop-place.invariant.started;
        })
      ]
    ]
