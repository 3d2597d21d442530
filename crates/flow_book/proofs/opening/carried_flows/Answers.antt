-- A flow more is carried, behind those of lower SIDs.
use Rattle.std.proofs.Common.{sym}
use Rattle.std.proofs.lemmas.List.Elements.{All-from_recursion}
use Rattle.flow_book.specs.Carried.{MayBeCarried}
use Rattle.flow_book.proofs.Carried.{carried-more, carried-book}
use Rattle.flow_book.proofs.opening.carried_flows.Goals as goal

pub carried-requires : goal.carried-requires
carried-requires c =
    rw (sym c.state-item.is) at (All-from_recursion MayBeCarried c.args.states.now c.requires.each
    c.loop-state.state-index c.state-item.result c.loop-state-test.true)

pub loop-state-preserved : goal.loop-state-preserved
loop-state-preserved c =
    let f = c.state-item.result in
    let may =
    rw (sym c.state-item.is) at (All-from_recursion MayBeCarried c.args.states.now c.requires.each
    c.loop-state.state-index f c.loop-state-test.true) in
    rw c.in_ok-insert.ensures.ok (carried-more c.args.config.now c.args.states.now c.loop-state.state-index
    c.len-place.result c.loop-state.flows f c.carried.result c.loop-state-test.true c.state-item.is
    c.len-place.ensures.value may c.carried.ensures.live c.carried.ensures.sums c.loop-state.invariant)

pub returns-clause-book : goal.returns-clause-book
returns-clause-book c =
    (carried-book c.args.config.now c.args.states.now c.loop-state.state-index c.loop-state.flows
    c.loop-state-test.false c.requires.ascending c.loop-state.invariant).0

pub returns-clause-shown : goal.returns-clause-shown
returns-clause-shown c =
    (carried-book c.args.config.now c.args.states.now c.loop-state.state-index c.loop-state.flows
    c.loop-state-test.false c.requires.ascending c.loop-state.invariant).1
