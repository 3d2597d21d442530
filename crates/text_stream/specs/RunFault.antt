-- Why a command ends: the exit status of the program, and what a fault tells of what was read and written.
use Rattle.std.specs.Prelude.{◌≡◌, ◌≢◌, ℕ, Bool, Result, IfErr}
use Rattle.text_stream.specs.declared.fault.TextFault.TheVariants.{Input, TooLong, NotJson, Shape, Config, Memory}
use Rattle.text_stream.specs.declared.fault.TextFault.TheVariants.{Output}
use Rattle.text_stream.specs.declared.run_fault.RunFault.{RunFault}
use Rattle.text_stream.specs.declared.run_fault.RunFault.TheVariants.{Text, Threads}
use Rattle.text_stream.specs.Watched.{FailsBy}

-- 3 for a fault of the input, 4 for one of the machine
abbrev pub exit_status_of : RunFault → ℕ
exit_status_of (Text Input) = 3
exit_status_of (Text TooLong) = 3
exit_status_of (Text NotJson) = 3
exit_status_of (Text (Shape n)) = 3
exit_status_of (Text (Config field)) = 3
exit_status_of (Text Memory) = 4
exit_status_of (Text Output) = 4
exit_status_of Threads = 4

-- a write is tried last: where another fault ends the command, the writer is as it was
abbrev pub WritesLast : {T W : Type 0} → Result T RunFault → W → W → Type 0
WritesLast result old new = IfErr result (λ e. e ≢ Text Output → new ≡ old)

-- a failed read is told only where a read has failed, and where all went well none did
abbrev pub TellsFailedRead : {T : Type 0} → Result T RunFault → Bool → Bool → Type 0
TellsFailedRead result old new = FailsBy (Text Input) result old new

-- a failed write is told only where a write has failed, and where all went well none did
abbrev pub TellsFailedWrite : {T : Type 0} → Result T RunFault → Bool → Bool → Type 0
TellsFailedWrite result old new = FailsBy (Text Output) result old new
