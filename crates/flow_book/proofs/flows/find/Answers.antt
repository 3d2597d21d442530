-- The search goes by the SIDs in the slots.
use Rattle.std.proofs.Common.{◌∙◌, rules, map}
use Rattle.std.proofs.lemmas.Fn.{always_returns_same}
use Rattle.flow_book.specs.Slots.{sid_in}
use Rattle.flow_book.proofs.Searches.{searched}
use Rattle.flow_book.proofs.flows.find.Goals as goal

pub returns-clause-value : goal.returns-clause-value
returns-clause-value c = λ up.
    let facts = c.binary_search_by_key.ensures in
    let sid = sid_in (map (λ b. b.value) c.args.slots.now) in
    let by_sid = facts.position sid (always_returns_same _ _ _ (λ a r g called. search rules)) in
    c.ok.ensures.value ∙ searched sid c.args.order.now c.args.sid c.binary_search_by_key.result up facts.bound by_sid
