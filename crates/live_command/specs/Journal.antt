-- What a journal stands for, and how a call of it fails.
use Rattle.std.specs.Prelude.{◌≡◌, ◌≢◌, ℕ, Bool, true, List, ◌++◌, take, Result, MatchResult}
use Rattle.sched_calls.specs.declared.reply.Entry.{Entry}

-- whatever entries the journal stood for, it stands for them
abbrev pub Keeps : (List Entry → Type 0) → (List Entry → Type 0) → Type 0
Keeps old new = (entries : List Entry) → old entries → new entries

-- whatever entries the journal stood for, it stands for them with these behind them
abbrev pub Grows : (List Entry → Type 0) → (List Entry → Type 0) → List Entry → Type 0
Grows old new entries = (before : List Entry) → old before → new (before ++ entries)

-- or with the first of these
abbrev pub GrowsInPart : (List Entry → Type 0) → (List Entry → Type 0) → List Entry → Type 0
GrowsInPart old new entries = (before : List Entry) → old before → (n : ℕ) × new (before ++ take n entries)

-- this fault is returned only where a call has failed; success and any other fault, only where no call failed anew
abbrev pub FailsJustBy : {T E : Type 0} → E → Result T E → Bool → Bool → Type 0
FailsJustBy fault result old new =
    MatchResult result (λ _. new ≡ old) (λ e. (e ≡ fault → new ≡ true) × (e ≢ fault → new ≡ old))
