-- What a script is: the configuration and the calls that a JSON value stands for, or the fault in it.
use Rattle.std.specs.Prelude.{ℕ, ◌+◌, List, [], ◌∷◌, codes, option_and_then, ok_or, Result, Ok}
use Rattle.serde_json.specs.Data.{Data, Items, no_items, item}
use Rattle.serde_json.specs.Find.{get, as_array}
use Rattle.minislots.specs.declared.config.Config.{Config}
use Rattle.sched_calls.specs.declared.call.Call.{Call}
use Rattle.text_stream.specs.declared.fault.TextFault.{TextFault}
use Rattle.text_stream.specs.declared.fault.TextFault.TheVariants.{Shape}
use Rattle.script_reading.specs.declared.script.Script.{Script}
use Rattle.json_fields.specs.Fields.{config_of}
use Rattle.call_reading.specs.Calls.{call_of}
use Rattle.text_stream.specs.Outcome.{◌>>=◌}

-- what a run is made of: a configuration, and calls in their order
pub record Scenario : Type 0 where
  pub config : Config
  pub calls : List Call

-- what a script that was read has
abbrev pub scenario_of : Script → Scenario
scenario_of script = record { config = script.config; calls = script.calls.items }

-- the calls of an array, the first of which has this number: the first that is none is the fault
unfoldable pub calls_of : ℕ → Items → Result (List Call) TextFault
calls_of n no_items = Ok []
calls_of n (item d ds) = do
  call ← ok_or (call_of d) (Shape n)
  calls ← calls_of (n + 1) ds
  Ok (call ∷ calls)

-- the script that a document stands for: a fault in the document or its configuration comes first
unfoldable pub script_of : Data → Result Scenario TextFault
script_of d = do
  config ← ok_or (option_and_then config_of (get (codes "config") d)) (Shape 0)
  items ← ok_or (option_and_then as_array (get (codes "calls") d)) (Shape 0)
  calls ← calls_of 1 items
  Ok (record { config = config; calls = calls })
