-- What a script of a storm is: the configuration and the scripts that a JSON value stands for, or the first fault.
use Rattle.std.specs.Prelude.{◌≡◌, ℕ, ◌+◌, nat_lt, Bool, true, ◌&&◌, if◌then◌else◌, List, [], ◌∷◌, length, map, codes}
use Rattle.std.specs.Prelude.{option_and_then, ok_or, is_some, Option, Result, Ok, Err}
use Rattle.std.specs.Global.{Vec}
use Rattle.serde_json.specs.Data.{Data, Items, no_items, item}
use Rattle.serde_json.specs.Find.{get, as_array}
use Rattle.minislots.specs.declared.config.Config.{Config as Configuration}
use Rattle.minislots.specs.Config.{first_wrong}
use Rattle.sched_calls.specs.declared.call.Call.{Call}
use Rattle.sched_calls.specs.declared.call.TheConstants.{MAX_SCRIPTS}
use Rattle.text_stream.specs.declared.fault.TextFault.{TextFault}
use Rattle.text_stream.specs.declared.fault.TextFault.TheVariants.{Input, TooLong, NotJson, Shape, Config, Memory}
use Rattle.text_stream.specs.declared.fault.TextFault.TheVariants.{Output}
use Rattle.text_stream.specs.declared.input.TheConstants.{MAX_INPUT}
use Rattle.script_reading.specs.declared.script.storms.StormScript.{StormScript}
use Rattle.json_fields.specs.Fields.{config_of}
use Rattle.text_stream.specs.Input.{value_of, ReadsAll, ReadsTooMany}
use Rattle.text_stream.specs.Outcome.{◌>>=◌}
use Rattle.script_reading.specs.Script.{calls_of}
use Rattle.text_stream.specs.Outcome.{unless_wrong}
use Rattle.json_fields.specs.Listed.{count_of}

-- what a storm is made of: a configuration, and scripts
pub record Storm : Type 0 where
  pub config : Configuration
  pub scripts : List (List Call)

-- scripts, as lists of calls
abbrev pub calls_each : List (Vec Call) → List (List Call)
calls_each scripts = map (λ v. v.items) scripts

-- what a storm that was read has
abbrev pub storm_with : StormScript → Storm
storm_with script = record { config = script.config; scripts = calls_each script.scripts.items }

-- whether each value is an array
abbrev pub are_arrays : Items → Bool
are_arrays no_items = true
are_arrays (item d ds) = is_some (as_array d) && are_arrays ds

-- they are 1 to 16 arrays
unfoldable pub are_scripts : Items → Bool
are_scripts ds = (nat_lt 0 (count_of ds) && nat_lt (count_of ds) (MAX_SCRIPTS + 1)) && are_arrays ds

-- the scripts of arrays, with so many calls before: the first call that is none, counted through all of them, is the
-- fault (that each value is an array was tested before)
unfoldable pub scripts_of : ℕ → Items → Result (List (List Call)) TextFault
scripts_of before no_items = Ok []
scripts_of before (item d ds) = do
  items ← ok_or (as_array d) (Shape 0)
  calls ← calls_of (before + 1) items
  scripts ← scripts_of (before + length calls) ds
  Ok (calls ∷ scripts)

-- the storm that a document stands for: a fault in the document, its configuration or the number of scripts comes first
unfoldable pub storm_of : Data → Result Storm TextFault
storm_of d = do
  config ← ok_or (option_and_then config_of (get (codes "config") d)) (Shape 0)
  items ← ok_or (option_and_then as_array (get (codes "scripts") d)) (Shape 0)
  arrays ← (if are_scripts items then Ok items else Err (Shape 0))
  scripts ← scripts_of 0 arrays
  Ok (record { config = config; scripts = scripts })

-- what a text of any length stands for: each fault of shape comes before a wrong configuration
unfoldable pub storm_text : List ℕ → Result Storm TextFault
storm_text bytes = do
  value ← value_of bytes
  storm ← storm_of value
  unless_wrong (first_wrong storm.config) storm

-- what the bytes of an input stand for
unfoldable pub storm_outcome : List ℕ → Result Storm TextFault
storm_outcome bytes = if nat_lt MAX_INPUT (length bytes) then Err TooLong else storm_text bytes

-- the bytes of a reader, all of them, stand for this storm, or have this fault
pub record GivesStorm (old new : Option (List ℕ)) (outcome : Result Storm TextFault) : Type 0 where
  pub bytes : List ℕ
  pub all : ReadsAll old new bytes
  pub outcome_is : storm_outcome bytes ≡ outcome

-- why there is no storm: lack of memory and a failed read tell nothing more
abbrev pub StopsStormScript : Option (List ℕ) → Option (List ℕ) → TextFault → Type 0
StopsStormScript old new Input = Unit {0}
StopsStormScript old new TooLong = ReadsTooMany old new
StopsStormScript old new NotJson = GivesStorm old new (Err NotJson)
StopsStormScript old new (Shape n) = GivesStorm old new (Err (Shape n))
StopsStormScript old new (Config field) = GivesStorm old new (Err (Config field))
StopsStormScript old new Memory = Unit {0}
StopsStormScript old new Output = ⊥
