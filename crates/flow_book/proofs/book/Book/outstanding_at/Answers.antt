-- The flow in its place keeps its sums.
use Rattle.std.proofs.Common.{◌≡◌, ◌<◌, ◌∙◌, ap, sym, map, length, get_or, option_map, Some, arith}
use Rattle.std.proofs.Math.ListN.{get_or-map}
use Rattle.std.proofs.lemmas.List.{length-map}
use Rattle.std.proofs.lemmas.List.Elements.{All-from_recursion}
use Rattle.std.proofs.lemmas.Option.{slice_get-get_or}
use Rattle.flow_book.specs.Flows.{outstanding}
use Rattle.flow_book.specs.Entry.{live, IsSoundFlow, KeepsSums}
use Rattle.flow_book.proofs.Steps.{all-item}
use Rattle.flow_book.proofs.book.Book.outstanding_at.Goals as goal

-- the place is within the list
inside : (c : goal.After-at) → c.args.index < length c.self.inside.flows
inside c =
    let items = c.self.inside.flows in
    let within : c.args.index < length (map live items) = rw (← c.self.view_is) at c.requires in
    omega (arith, length-map items live)

pub outstanding-requires-clause-sum : goal.outstanding-requires-clause-sum
outstanding-requires-clause-sum c =
    let keeps : KeepsSums c.self.inside.channel c.at.result.now =
    rw c.at.ensures (All-from_recursion (KeepsSums c.self.inside.channel) c.self.inside.flows
    c.self.invariant.book.sums c.args.index c.at.result.now (inside c)) in
    keeps.granted

pub outstanding-requires-clause-within : goal.outstanding-requires-clause-within
outstanding-requires-clause-within c =
    (all-item live c.self.inside.flows c.args.index c.at.result.now (inside c) c.at.ensures
    (IsSoundFlow c.self.inside.channel) c.self.invariant.book.sound.each).within

pub returns : goal.returns
returns c =
    let items = c.self.inside.flows in
    let flow = c.at.result.now in
    let within : c.args.index < length (map live items) = rw (← c.self.view_is) at c.requires in
    let at : live flow ≡ get_or (map live items) c.args.index (live flow) =
    ap live c.at.ensures ∙ sym (get_or-map live items c.args.index flow) in
    rw (← c.self.view_is) (ap (option_map outstanding)
    (slice_get-get_or (map live items) c.args.index (live flow) within ∙ ap Some (sym at))
    ∙ ap Some (sym c.outstanding.ensures))
