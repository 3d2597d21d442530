-- One more has its tier, where it has one.
use Rattle.std.proofs.Common.{◌≡◌, ◌∙◌, ◌<◌, length, get_or, slice_get, sym, ap, arith}
use Rattle.std.proofs.lemmas.List.{get_or_default}
use Rattle.flow_book.specs.declared.waiting.Waiting.{Waiting}
use Rattle.flow_book.proofs.ByTier.{told}
use Rattle.flow_book.proofs.Numbered.{numbered-none, numbered-at, numbered-past, numbered-more, numbered-all}
use Rattle.flow_book.proofs.Queues.{at-within}
use Rattle.flow_book.proofs.tiers.tiers_of.Goals as goal
use Rattle.flow_book.proofs.tiers.tiers_of.Goals.{then-waiting+in_ok-queue+in_ok-push, else-waiting}

pub loop-index-init : goal.loop-index-init
loop-index-init c = rw c.new-tiers.ensures.items (numbered-none c.args.flows.now c.args.queue.now)

pub tier_at-requires : goal.tier_at-requires
tier_at-requires c =
    let queue = c.loop-index.queue in
    let w = c.index-queue-index.result in
    at-within c.args.flows.now w
    (numbered-at c.args.flows.now c.args.queue.now queue c.loop-index.tiers.items c.loop-index.index w
    (omega (arith, c.loop-index-test.true, c.loop-index.auto.queue)) c.index-queue-index.is
    c.loop-index.invariant c.requires)

pub loop-index-preserved : goal.loop-index-preserved
loop-index-preserved c =
    let items = c.args.flows.now in
    let old = c.args.queue.now in
    let queue = c.loop-index.queue in
    let tiers = c.loop-index.tiers.items in
    let i = c.loop-index.index in
    let w = c.index-queue-index.result in
    let is = c.loop-index.invariant in
    let lt : i < length queue = omega (arith, c.loop-index-test.true, c.loop-index.auto.queue) in
    elim c.if-waiting.branch [
      | then-waiting+in_ok-queue+in_ok-push v ↦ (
          let u = get_or queue i v.index-queue-index-then-waiting.result in
          let n = v.in_ok-queue.field-0 in
          let same : u ≡ w =
          get_or_default queue i v.index-queue-index-then-waiting.result w lt ∙ sym c.index-queue-index.is in
          rw (v.queue-is, v.tiers-is, v.in_ok-push.ensures.items) (numbered-more items old queue tiers i u lt
          (get_or_default queue i v.index-queue-index-then-waiting.result u lt) is
          (λ none. v.if-waiting.true (sym (ap (λ (x : Waiting). x.tier) same) ∙ none)) n v.in_ok-queue.ensures.0
          v.in_ok-queue.ensures.1 v.tier_at.result
          (λ f found. v.tier_at.ensures f (ap (λ (x : Waiting). slice_get items x.place) (sym same) ∙ found)
          ∙ ap (λ (x : Waiting). told x.place f) (sym same))))
      | else-waiting v ↦ rw (v.queue-is, v.tiers-is) (numbered-past items old queue tiers i w lt c.index-queue-index.is is v.if-waiting.false)
    ]

pub returns-clause-queue : goal.returns-clause-queue
returns-clause-queue c =
    (numbered-all c.args.flows.now c.args.queue.now c.loop-index.queue c.loop-index.tiers.items
    c.loop-index.index (omega (arith, c.loop-index-test.false, c.loop-index.auto.queue)) c.requires
    c.loop-index.invariant).0

pub returns-clause-tiers : goal.returns-clause-tiers
returns-clause-tiers c =
    (numbered-all c.args.flows.now c.args.queue.now c.loop-index.queue c.loop-index.tiers.items
    c.loop-index.index (omega (arith, c.loop-index-test.false, c.loop-index.auto.queue)) c.requires
    c.loop-index.invariant).1
