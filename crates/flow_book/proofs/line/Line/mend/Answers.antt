-- The number of each that was served takes the place of that before.
use Rattle.std.proofs.Common.{◌≡◌, ◌∙◌, ap, subst, [], map, drop}
use Rattle.std.proofs.lemmas.List.{drop_all}
use Rattle.flow_book.specs.Entry.{live}
use Rattle.flow_book.specs.Line.{sorted, numbers_of}
use Rattle.flow_book.proofs.Mending.{IsMixed, mixed-none, mixed-all, mixed-more, are-there, differ-mixed, next, place-within}
use Rattle.flow_book.proofs.line.Line.mend.Goals as goal

pub loop-waiting-init : goal.loop-waiting-init
loop-waiting-init c = λ c' items are is.
    (map live c.args.flows.now, is, mixed-none c' c.args.flows.now items c.args.served.now are)

pub number_at-before-requires-clause-within : goal.number_at-before-requires-clause-within
number_at-before-requires-clause-within c =
    place-within c.requires.0 c.args.flows.now c.requires.1 c.args.served.now c.requires.2 c.loop-waiting.waiting-index
    c.waiting-item.result c.loop-waiting-test.true c.waiting-item.is

pub loop-waiting-preserved : goal.loop-waiting-preserved
loop-waiting-preserved c = λ c' items are is.
    let old = c.args.flows.now in
    let served = c.args.served.now in
    let i = c.loop-waiting.waiting-index in
    let w = c.waiting-item.result in
    let lt = c.loop-waiting-test.true in
    let so-far = c.loop-waiting.invariant c' items are is in
    let mixed = so-far.0 in
    let there = are-there c' old items served are i w lt c.waiting-item.is in
    let more = next c' old items served are i w lt c.waiting-item.is mixed so-far.2 in (
      more,
      c.follow.ensures mixed more
          (λ known. rw (c.number_at-before.ensures known there.0 there.2.was, c.number_after.ensures)
          (differ-mixed c' old items served are i w lt c.waiting-item.is mixed so-far.2)) so-far.1,
      mixed-more c' old items served are i w lt c.waiting-item.is mixed so-far.2,
    )

pub returns-after-loop-waiting : goal.returns-after-loop-waiting
returns-after-loop-waiting c = λ c' items are is known.
    let before = map live c.args.flows.now in
    let after = map live items in
    let so-far = c.loop-waiting.invariant c' items are is in
    let left : drop c.loop-waiting.waiting-index c.args.served.now ≡ [] =
    drop_all c.loop-waiting.waiting-index c.args.served.now c.loop-waiting-test.false in
    let all = mixed-all before after so-far.0 (subst (λ ws. IsMixed before after ws so-far.0) left so-far.2) in
    so-far.1 known ∙ ap (λ fs. sorted (numbers_of fs)) all
