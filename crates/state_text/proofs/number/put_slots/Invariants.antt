-- Those so far are written.
use Rattle.std.proofs.Common.{◌≡◌, ◌++◌, ◌∷◌, [], take}
use Rattle.std.specs.Prelude.{flat_map}
use Rattle.json.specs.Token.{Token}
use Rattle.history_writing.specs.Tokens.{tokens_of}
use Rattle.history_writing.specs.Json.{count}
use Rattle.state_text.proofs.number.put_slots.Given as goal

abbrev pub invariant-loop-slot : goal.invariant-loop-slot
invariant-loop-slot l =
    (l.out.tokens ≡ (l.fn.out.tokens ++ Token.key l.title ∷ Token.begin_array ∷ [])
    ++ flat_map (λ x. tokens_of (count x)) (take l.slot-index l.slots))
    × (l.out.before ≡ l.fn.out.before)
