-- The first line of a journal that goes on after nothing: its opening.
use Rattle.std.specs.Prelude.{Bool, ◌||◌, if◌then◌else◌, codes, Option, None, is_some}
use Rattle.std.specs.Result.{result_ok}
use Rattle.serde_json.specs.Data.{Data}
use Rattle.serde_json.specs.Find.{get}
use Rattle.minislots.specs.declared.config.Config.{Config}
use Rattle.minislots.specs.Config.{first_wrong}
use Rattle.text_stream.specs.Outcome.{unless_wrong}
use Rattle.json_fields.specs.Fields.{◌>>=◌, config_of}

-- the configuration, where it has no wrong field
abbrev pub lawful_config : Config → Option Config
lawful_config c = result_ok (unless_wrong (first_wrong c) c)

-- whether a value has more than a configuration: a history its entries, a script its calls, a storm its scripts
abbrev pub is_document : Data → Bool
is_document value = is_some (get (codes "entries") value) || is_some (get (codes "calls") value)
    || is_some (get (codes "scripts") value)

-- the lawful configuration that a value has under its key
abbrev pub config_under : Data → Option Config
config_under value = do
  found ← get (codes "config") value
  config ← config_of found
  lawful_config config

-- the configuration of a value that is an opening: it has it under its key, and is no whole document
abbrev pub opening_of : Data → Option Config
opening_of value = if is_document value then None else config_under value
