-- What is found tells whether the flow keeps its place.
use Rattle.std.proofs.Common.{◌≡◌, Option, None, Some, sym, ◌∙◌}
use Rattle.std.specs.Option.{option_map, IfSome}
use Rattle.sched_calls.specs.declared.spec.FlowSpec.{FlowSpec}
use Rattle.sched_calls.specs.FlowSpec.{has_place_of}
use Rattle.flow_book.specs.Flows.{LiveFlow}
use Rattle.sched_history.proofs.scheduler.state.State.keeps_place.Goals as goal

of-found : (o : Option LiveFlow) (old spec : FlowSpec) → option_map (λ f. f.spec) o ≡ Some old
    → IfSome o (λ f. has_place_of f.spec spec ≡ has_place_of old spec)
of-found None old spec is = tt
of-found (Some f) old spec is = cc

of-none : (o : Option LiveFlow) (P : LiveFlow → Type 0) → option_map (λ f. f.spec) o ≡ None → IfSome o P
of-none None P is = tt
of-none (Some f) P is = absurd cc

pub returns-in-Some : goal.returns-in-Some
returns-in-Some c =
    rw c.has_place_of.ensures (of-found _ c.in-Some.old c.args.spec (sym c.flow.ensures ∙ c.in-Some.is))

pub returns-in-None : goal.returns-in-None
returns-in-None c = of-none _ _ (sym c.flow.ensures ∙ c.in-None.is)
