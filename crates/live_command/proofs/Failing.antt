-- How a failed read is told.
use Rattle.std.proofs.Common.{◌≡◌, Bool, true, List, ℕ, Option, Result, Ok, Err, refl}
use Rattle.std.specs.Prelude.{◌≢◌}
use Rattle.text_stream.specs.Told.{StopsReading}
use Rattle.text_stream.specs.declared.fault.TextFault.{TextFault}
use Rattle.text_stream.specs.declared.fault.TextFault.TheVariants.{Input, TooLong, NotJson, Shape, Config, Memory}
use Rattle.text_stream.specs.declared.fault.TextFault.TheVariants.{Output}
use Rattle.text_stream.specs.Watched.{FailsBy}
use Rattle.live_command.specs.Failing.{FailsButFor}

-- what a fault of a text says of reads
abbrev pub SaysOfReads : TextFault → Bool → Bool → Type 0
SaysOfReads e old new = (e ≡ Input → new ≡ true) × (e ≢ Input → e ≢ TooLong → new ≡ old)

-- no line was told
pub no_line_told : (reads_on : Bool) (before left : Option (List ℕ)) (e : TextFault) (old new : Bool)
    → StopsReading reads_on before left e → (e ≡ Input → new ≡ true) → SaysOfReads e old new
no_line_told reads_on before left Input old new stops fails = (fails, λ other more. absurd (other refl))
no_line_told reads_on before left TooLong old new stops fails = (fails, λ other more. absurd (more refl))
no_line_told reads_on before left NotJson old new stops fails = absurd stops
no_line_told reads_on before left (Shape n) old new stops fails = absurd stops
no_line_told reads_on before left (Config field) old new stops fails = absurd stops
no_line_told reads_on before left Memory old new stops fails = absurd stops
no_line_told reads_on before left Output old new stops fails = absurd stops

-- nothing was read where the fault was found
pub unread : {T E : Type 0} (input long : E) (r : Result T E) (old new : Bool) → FailsBy input r old new → new ≡ old
    → FailsButFor input long r old new
unread input long (Ok x) old new fails same = same
unread input long (Err e) old new fails same = (fails, λ other more. same)
