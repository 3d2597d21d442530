-- The members of an object as they are read, and the call that they make. Only private clauses cite it.
use Rattle.std.specs.Prelude.{◌≡◌, ◌<◌, ◌≤◌, ℕ, List, length, false, Some}
use Rattle.json.specs.Token.{Token}
use Rattle.json.specs.Json.{value, members}
use Rattle.serde_json.specs.Data.{Members, no_members}
use Rattle.serde_json.specs.Read.{of_members, converted}
use Rattle.sched_calls.specs.declared.call.Call.{Call}
use Rattle.call_reading.specs.Seen.{Seen, seen_in, seen_call}

-- these members stand first, whose brace was taken, and the brace that closes them
abbrev pub SaysMembers : ℕ → List Token → List Token → Members → Type 0
SaysMembers depth start r ms =
    (converted (λ ms. of_members ms no_members) (members (value depth) (length start) start) ≡ Some (ms, r))
    × (length r < length start)

-- members that say so stand first, before what is left
abbrev pub SayBefore : ℕ → List Token → List Token → Seen → Type 0
SayBefore depth start ts s = (n : ℕ) × (length ts ≤ n) × ((so_far : Members)
    × (converted (λ ms. of_members ms no_members) (members (value depth) (length start) start)
    ≡ converted (λ ms. of_members ms so_far) (members (value depth) n ts))
    × (s ≡ seen_in so_far)) × (length ts ≤ length start)

-- the members that stand first make this call, and open nothing
abbrev pub MakesCall : ℕ → List Token → List Token → Call → Type 0
MakesCall depth start r call = (ms : Members) × SaysMembers depth start r ms
    × (seen_call (seen_in ms) ≡ Some call) × (false ≡ (seen_in ms).opening)
