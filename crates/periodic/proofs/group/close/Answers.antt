-- A group without flows goes, and any other stays.
use Rattle.std.proofs.Common.{◌≡◌, sym, ap, ◌∙◌, ◌<◌, length, arith}
use Rattle.std.proofs.lemmas.Bool.Decides.{nat_tests}
use Rattle.periodic.specs.declared.group.Group.{Group}
use Rattle.periodic.specs.Groups.{flows_in}
use Rattle.periodic.proofs.Filled.{all-again, flows-without, none-of}
use Rattle.periodic.proofs.group.close.Goals as goal

pub returns-then-is_empty-clause-same : goal.returns-then-is_empty-clause-same
returns-then-is_empty-clause-same c =
    let g = c.index.result.now in
    let is = sym c.is_empty.ensures ∙ c.if-is_empty.true in
    let long : length g.flows.items ≡ 0 = grind (arith, nat_tests, is, g.flows.ok.0) in
    ap flows_in c.remove.ensures.items
    ∙ flows-without c.args.groups.now.items c.args.place g c.requires c.index.ensures (none-of g.flows.items long)

pub returns-else-is_empty-clause-filled : goal.returns-else-is_empty-clause-filled
returns-else-is_empty-clause-filled c = λ others.
    let g = c.index.result.now in
    let is = sym c.is_empty.ensures ∙ c.if-is_empty.false in
    let some : 0 < length g.flows.items = grind (arith, nat_tests, is, g.flows.ok.0) in
    all-again (λ (h : Group). 0 < length h.flows.items) c.args.groups.now.items c.args.place g c.index.ensures some others
