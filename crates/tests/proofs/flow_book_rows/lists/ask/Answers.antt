-- A request changes no grants, and the flow takes requests.
use Rattle.std.proofs.Common.{◌≡◌, Option, None, Some, option_map, true, sym, subst, ◌∙◌}
use Rattle.std.specs.Option.{IfSome}
use Rattle.sched_calls.specs.declared.spec.FlowSpec.{FlowSpec}
use Rattle.sched_calls.specs.FlowSpec.{takes_requests}
use Rattle.flow_book.specs.Flows.{LiveFlow, flow_of}
use Rattle.flow_book.specs.Book.{with_asked}
use Rattle.flow_book.specs.Choice.{HasStartedBy}
use Rattle.flow_book.proofs.Started.{all-changed}
use Rattle.tests.proofs.flow_book_rows.lists.ask.Goals as goal

takes-of : (o : Option LiveFlow) (spec : FlowSpec) → Some spec ≡ option_map (λ f. f.spec) o
    → takes_requests spec ≡ true → IfSome o (λ f. takes_requests f.spec ≡ true)
takes-of None spec is takes = tt
takes-of (Some f) spec is takes =
    let same : spec ≡ f.spec = cc in subst (λ s. takes_requests s ≡ true) same takes

pub ask-requires-clause-asks : goal.ask-requires-clause-asks
ask-requires-clause-asks c =
    takes-of (flow_of c.args.sid c.args.twins.now.book.flows) c.in-Some.spec c.in-Some.ensures
    (sym c.takes_requests.ensures ∙ c.if-not-takes_requests.false)

pub returns : goal.returns
returns c =
    rw c.ask.ensures (all-changed (HasStartedBy c.args.now) c.args.sid (with_asked c.args.bytes c.args.now) _
    (λ f all. all)
    c.requires)
