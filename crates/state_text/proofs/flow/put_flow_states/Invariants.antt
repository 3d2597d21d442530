-- Those so far are written, and their numbers fit.
use Rattle.std.proofs.Common.{◌≡◌, ◌++◌, ◌∷◌, [], take}
use Rattle.std.specs.Prelude.{flat_map}
use Rattle.std.specs.List.{AllByRecursion}
use Rattle.json.specs.Token.{Token}
use Rattle.history_writing.specs.Tokens.{tokens_of}
use Rattle.state_text.specs.Fits.{FlowStateFits}
use Rattle.state_text.specs.StateText.{flow_state_data}
use Rattle.state_text.proofs.flow.put_flow_states.Given as goal

abbrev pub invariant-loop-flow : goal.invariant-loop-flow
invariant-loop-flow l =
    (l.out.tokens ≡ (l.fn.out.tokens ++ Token.begin_array ∷ [])
    ++ flat_map (λ x. tokens_of (flow_state_data x)) (take l.flow-index l.flows))
    × (l.out.before ≡ l.fn.out.before)
    × AllByRecursion FlowStateFits (take l.flow-index l.flows)
