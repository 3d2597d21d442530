-- The flow stands in the slot.
use Rattle.std.proofs.Common.{◌∙◌, sym, ap, get_or}
use Rattle.std.proofs.lemmas.List.{get_or-map}
use Rattle.flow_book.specs.declared.flow.Flow.{Flow}
use Rattle.flow_book.proofs.Slots.{map-map}
use Rattle.flow_book.proofs.flows.sid_of.Goals as goal

pub returns-in-Some : goal.returns-in-Some
returns-in-Some c =
    let boxes = c.args.slots.now in
    let slot = c.args.slot in
    let found = c.in-Some.ensures.lookup in
    ap (λ (f : Flow). f.sid) (c.deref.ensures ∙ ap (λ b. b.value) found.1)
    ∙ sym (get_or-map (λ b. b.value.sid) boxes slot c.in-Some.flow.now 0 found.3.0)
    ∙ ap (λ sids. get_or sids slot 0) (sym (map-map (λ (f : Flow). f.sid) (λ b. b.value) boxes))
