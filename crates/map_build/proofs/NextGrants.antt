-- The flow that is next has an amount, and its grant fits the room.
use Rattle.std.proofs.Common.{ℕ, ◌≤◌, List, Option, None, Some}
use Rattle.std.specs.Option.{IsSomeAnd, IfSome}
use Rattle.minislots.specs.declared.config.Config.{Config}
use Rattle.minislots.specs.Units.{slots_for}
use Rattle.flow_book.specs.Flows.{LiveFlow}
use Rattle.flow_book.specs.Choice.{IsAmount, IsNext}

-- of the flow that is next these bytes are the amount
pub next-amount : (c : Config) (flows : List LiveFlow) (start room bytes : ℕ) (o : Option LiveFlow) →
    IsSomeAnd o (IsNext c flows start room) → IfSome o (λ f. IsAmount c f start room bytes) →
    IsSomeAnd o (λ f. IsNext c flows start room f × IsAmount c f start room bytes)
next-amount c flows start room bytes None next amount = next
next-amount c flows start room bytes (Some f) next amount = (next, amount)

-- an amount fits the room
pub amount-fits : (c : Config) (flows : List LiveFlow) (start room bytes : ℕ) (o : Option LiveFlow) →
    IsSomeAnd o (λ f. IsNext c flows start room f × IsAmount c f start room bytes) → slots_for c bytes ≤ room
amount-fits c flows start room bytes None is = absurd is
amount-fits c flows start room bytes (Some f) is = is.1.allowed.taken.fits
