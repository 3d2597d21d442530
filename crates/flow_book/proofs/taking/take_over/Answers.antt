-- A place more is gone through.
use Rattle.std.proofs.Common.{◌≡◌, refl, sym, ◌∙◌, subst, ◌-◌, take, arith}
use Rattle.std.proofs.lemmas.List.{take_all, length-set}
use Rattle.std.specs.Prelude.{if◌then◌else◌}
use Rattle.sched_calls.specs.FlowSpec.{takes_requests}
use Rattle.flow_book.specs.declared.flow.Flow.{Flow}
use Rattle.flow_book.specs.Entry.{IsCopy}
use Rattle.flow_book.specs.FlowList.{AreGrantsAt}
use Rattle.flow_book.specs.Tiers.{limits_in}
use Rattle.flow_book.proofs.TakenOver.{IsPart, place-within, part-none, part-more, is-here, wants-asked, copied, is-taken}
use Rattle.flow_book.proofs.taking.take_over.Goals as goal

pub loop-waiting-init : goal.loop-waiting-init
loop-waiting-init c = record { long = refl; part = λ channel items can shows. part-none c.args.flows.now items }

pub at_mut-flow-requires : goal.at_mut-flow-requires
at_mut-flow-requires c =
    let is = c.requires in
    rw c.loop-waiting.invariant.long (place-within is.0 c.args.flows.now is.1 c.args.tiers.now c.args.served.now is.2
    c.loop-waiting.waiting-index c.waiting-item.result c.loop-waiting-test.true c.waiting-item.is)

pub take_over-requires : goal.take_over-requires
take_over-requires c =
    let w = c.waiting-item.result in
    let is = c.requires in
    wants-asked is.0 c.args.flows.now is.1 c.args.tiers.now c.args.served.now is.2 c.loop-waiting.waiting-index w
    c.loop-waiting-test.true c.waiting-item.is c.loop-waiting.flows c.at_mut-flow.result.now
    c.loop-waiting.invariant.long c.at_mut-flow.ensures.value (c.loop-waiting.invariant.part is.0 is.1 is.2 is.3)

pub loop-waiting-preserved : goal.loop-waiting-preserved
loop-waiting-preserved c = record {
  long = length-set _ _ _ ∙ c.loop-waiting.invariant.long;
  part = λ channel items can shows.
      let old = c.args.flows.now in
      let queue = c.args.served.now in
      let i = c.loop-waiting.waiting-index in
      let w = c.waiting-item.result in
      let lt = c.loop-waiting-test.true in
      let is = c.waiting-item.is in
      let new = c.loop-waiting.flows in
      let f = c.at_mut-flow.result.now in
      let long = c.loop-waiting.invariant.long in
      let read = c.at_mut-flow.ensures.value in
      let part = c.loop-waiting.invariant.part channel items can shows in
      let grants = c.grants_at.result in
      let e : c.take_over.new.self ≡ record f {
        turn = w.turn;
        granted = f.asked - w.wants;
        limits = if takes_requests f.spec then limits_in c.args.tiers.now w else f.limits;
        grants = grants;
      } = c.take_over.ensures in
      let here = is-here channel old items c.args.tiers.now queue can i w lt is new f long read part in
      let copy =
      copied channel old items c.args.tiers.now queue can i w lt is new f long read part grants
      (subst (λ flows. AreGrantsAt w.place flows grants) (sym shows) c.grants_at.ensures) in
      part-more channel old items c.args.tiers.now queue can i w lt is new f long read part c.take_over.new.self
      (subst (λ (h : Flow). IsCopy here.0 h) (sym e) copy);
}

pub returns : goal.returns
returns c = λ channel items can shows.
    let queue = c.args.served.now in
    let all : take c.loop-waiting.waiting-index queue ≡ queue =
    take_all c.loop-waiting.waiting-index queue (omega arith) in
    is-taken channel c.args.flows.now items c.args.tiers.now queue can c.loop-waiting.flows c.loop-waiting.invariant.long
    (subst (λ done. IsPart c.args.flows.now items done c.loop-waiting.flows) all
    (c.loop-waiting.invariant.part channel items can shows))
