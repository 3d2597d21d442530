-- What the bytes of an input stand for: a scenario under a lawful configuration, or the first fault.
use Rattle.std.specs.Prelude.{◌≡◌, ℕ, nat_lt, if◌then◌else◌, List, length, Option, Result, Ok, Err}
use Rattle.minislots.specs.Config.{first_wrong}
use Rattle.text_stream.specs.declared.input.TheConstants.{MAX_INPUT}
use Rattle.text_stream.specs.declared.fault.TextFault.{TextFault}
use Rattle.text_stream.specs.declared.fault.TextFault.TheVariants.{Input, TooLong, NotJson, Shape, Config, Memory}
use Rattle.text_stream.specs.declared.fault.TextFault.TheVariants.{Output}
use Rattle.text_stream.specs.Input.{value_of, ReadsAll, ReadsTooMany}
use Rattle.text_stream.specs.Outcome.{◌>>=◌}
use Rattle.script_reading.specs.Script.{Scenario, script_of}
use Rattle.text_stream.specs.Outcome.{unless_wrong}

-- what a text of any length stands for: each fault of shape comes before a wrong configuration
unfoldable pub text_outcome : List ℕ → Result Scenario TextFault
text_outcome bytes = do
  value ← value_of bytes
  scenario ← script_of value
  unless_wrong (first_wrong scenario.config) scenario

-- what the bytes of an input stand for
unfoldable pub outcome_of : List ℕ → Result Scenario TextFault
outcome_of bytes = if nat_lt MAX_INPUT (length bytes) then Err TooLong else text_outcome bytes

-- the bytes of a reader, all of them, stand for this scenario
pub record StandsFor (old new : Option (List ℕ)) (scenario : Scenario) : Type 0 where
  pub bytes : List ℕ
  pub all : ReadsAll old new bytes
  pub outcome : outcome_of bytes ≡ Ok scenario

-- the bytes of a reader, all of them, have this fault
pub record HasFault (old new : Option (List ℕ)) (fault : TextFault) : Type 0 where
  pub bytes : List ℕ
  pub all : ReadsAll old new bytes
  pub outcome : outcome_of bytes ≡ Err fault

-- why there is no scenario
abbrev pub StopsScript : Option (List ℕ) → Option (List ℕ) → TextFault → Type 0
StopsScript old new Input = Unit {0}
StopsScript old new TooLong = ReadsTooMany old new
StopsScript old new NotJson = HasFault old new NotJson
StopsScript old new (Shape n) = HasFault old new (Shape n)
StopsScript old new (Config field) = HasFault old new (Config field)
StopsScript old new Memory = Unit {0}
StopsScript old new Output = ⊥
