-- What a text stands for, whatever its configuration.
use Rattle.std.specs.Prelude.{ℕ, List, Result}
use Rattle.text_stream.specs.declared.fault.TextFault.{TextFault}
use Rattle.text_stream.specs.Input.{value_of}
use Rattle.text_stream.specs.Outcome.{◌>>=◌}
use Rattle.script_reading.specs.Script.{Scenario, script_of}
use Rattle.script_reading.specs.StormScript.{Storm, storm_of}

-- the script that a text stands for, whatever its configuration
abbrev pub script_text : List ℕ → Result Scenario TextFault
script_text bytes = value_of bytes >>= script_of

-- the storm that a text stands for, whatever its configuration
abbrev pub scripts_text : List ℕ → Result Storm TextFault
scripts_text bytes = value_of bytes >>= storm_of
