-- Those so far are written, and their numbers fit.
use Rattle.std.proofs.Common.{◌≡◌, ◌++◌, ◌∷◌, [], take}
use Rattle.std.specs.Prelude.{flat_map}
use Rattle.std.specs.List.{AllByRecursion}
use Rattle.json.specs.Token.{Token}
use Rattle.history_writing.specs.Tokens.{tokens_of}
use Rattle.state_text.specs.Fits.{ReserveFits}
use Rattle.state_text.specs.StateText.{reserve_state_data}
use Rattle.state_text.proofs.reserve.put_reserve_states.Given as goal

abbrev pub invariant-loop-reserve : goal.invariant-loop-reserve
invariant-loop-reserve l =
    (l.out.tokens ≡ (l.fn.out.tokens ++ Token.begin_array ∷ [])
    ++ flat_map (λ x. tokens_of (reserve_state_data x)) (take l.reserve-index l.reserves))
    × (l.out.before ≡ l.fn.out.before)
    × AllByRecursion ReserveFits (take l.reserve-index l.reserves)
