-- Whether a call of a reader or a writer has failed.
use Rattle.std.specs.Prelude.{◌≡◌, Bool, true, Result, MatchResult}
use Rattle.text_stream.specs.declared.watched.Watched.{Watched}

-- the call failed, and this is known from then on; or it did not, and what is known stays
abbrev pub TellsFailure : {T E : Type 0} → Result T E → Bool → Bool → Type 0
TellsFailure result old new = MatchResult result (λ _. new ≡ old) (λ _. new ≡ true)

-- the fault comes only where a call has failed, and where all went well none did
abbrev pub FailsBy : {T E : Type 0} → E → Result T E → Bool → Bool → Type 0
FailsBy fault result old new = MatchResult result (λ _. new ≡ old) (λ e. e ≡ fault → new ≡ true)

-- the reader or writer that is watched
abbrev pub watched_inner : {T : Type 0} → Watched T → T
watched_inner w = w.inner

-- whether a call of it has failed
abbrev pub watched_failed : {T : Type 0} → Watched T → Bool
watched_failed w = w.has_failed
