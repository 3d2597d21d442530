-- Why a command over a script ends.
use Rattle.std.specs.Prelude.{ℕ, List, Option}
use Rattle.text_stream.specs.declared.run_fault.RunFault.{RunFault}
use Rattle.text_stream.specs.Input.{ReadsTooMany}
use Rattle.script_reading.specs.Script.{Scenario}
use Rattle.script_reading.specs.Outcome.{StandsFor, HasFault}
use Rattle.text_stream.specs.declared.fault.TextFault.TheVariants.{Input, TooLong, NotJson, Shape, Config, Memory}
use Rattle.text_stream.specs.declared.fault.TextFault.TheVariants.{Output}
use Rattle.text_stream.specs.declared.run_fault.RunFault.TheVariants.{Text, Threads}

-- why a run of a script ends: a write is tried only after a whole script was read; out of memory and a failed read
-- tell nothing more
abbrev pub Stops : Option (List ℕ) → Option (List ℕ) → RunFault → Type 0
Stops unread left (Text Input) = Unit {0}
Stops unread left (Text TooLong) = ReadsTooMany unread left
Stops unread left (Text NotJson) = HasFault unread left NotJson
Stops unread left (Text (Shape n)) = HasFault unread left (Shape n)
Stops unread left (Text (Config fault)) = HasFault unread left (Config fault)
Stops unread left (Text Memory) = Unit {0}
Stops unread left (Text Output) = (scenario : Scenario) × StandsFor unread left scenario
Stops unread left Threads = ⊥
