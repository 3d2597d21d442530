-- The flow in its place keeps its sums.
use Rattle.std.proofs.Common.{◌≡◌, ℕ, ◌<◌, ◌∙◌, ap, sym, List, map, length, get_or, option_map, Some, arith}
use Rattle.std.specs.List.{AllByRecursion}
use Rattle.std.proofs.Math.ListN.{get_or-map}
use Rattle.std.proofs.lemmas.List.{length-map}
use Rattle.std.proofs.lemmas.List.Elements.{All-from_recursion}
use Rattle.std.proofs.lemmas.Option.{slice_get-get_or}
use Rattle.minislots.specs.declared.config.Config.{Config}
use Rattle.flow_book.specs.declared.flow.Flow.{Flow}
use Rattle.flow_book.specs.Entry.{live, KeepsSums}
use Rattle.flow_book.specs.FlowState.{flow_state}
use Rattle.flow_book.proofs.book.Book.state_at.Goals as goal

-- it is one of the book
keeps-at : (c : Config) (items : List Flow) (index : ℕ) (f : Flow) → AllByRecursion (KeepsSums c) items
    → index < length (map live items) → f ≡ get_or items index f → KeepsSums c f
keeps-at c items index f keep within is =
    rw is (All-from_recursion (KeepsSums c) items keep index f (omega (arith, length-map items live)))

pub state-requires : goal.state-requires
state-requires c = (
  c.self.inside.channel,
  keeps-at c.self.inside.channel c.self.inside.flows c.args.index c.at.result.now c.self.invariant.book.sums
      (rw (← c.self.view_is) at c.requires) c.at.ensures,
)

pub returns : goal.returns
returns c =
    let items = c.self.inside.flows in
    let channel = c.self.inside.channel in
    let flow = c.at.result.now in
    let within : c.args.index < length (map live items) = rw (← c.self.view_is) at c.requires in
    let at : live flow ≡ get_or (map live items) c.args.index (live flow) =
    ap live c.at.ensures ∙ sym (get_or-map live items c.args.index flow) in
    rw (← c.self.view_is) (ap (option_map (flow_state channel))
    (slice_get-get_or (map live items) c.args.index (live flow) within ∙ ap Some (sym at))
    ∙ ap Some (sym (c.state.ensures channel
    (keeps-at channel items c.args.index flow c.self.invariant.book.sums within c.at.ensures))))
