-- How a failed read is told.
use Rattle.std.specs.Prelude.{◌≡◌, ◌≢◌, Bool, true, Result, MatchResult}

-- the fault `input` is returned only where a read has failed; success and any fault but `input` and `long`, only where
-- no read failed anew; the fault `long` says nothing of reads
abbrev pub FailsButFor : {T E : Type 0} → E → E → Result T E → Bool → Bool → Type 0
FailsButFor input long result old new = MatchResult result (λ _. new ≡ old)
    (λ e. (e ≡ input → new ≡ true) × (e ≢ input → e ≢ long → new ≡ old))
