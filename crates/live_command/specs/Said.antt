-- What the text of a line says.
use Rattle.std.specs.Prelude.{◌≡◌, ℕ, Bool, false, ◌&&◌, is_none, List, codes, if◌then◌else◌, Option, None, Some}
use Rattle.std.specs.Prelude.{Result, Ok}
use Rattle.serde_json.specs.Data.{Data}
use Rattle.serde_json.specs.Find.{get, as_bool}
use Rattle.sched_calls.specs.declared.call.Call.{Call as Made}
use Rattle.call_reading.specs.Calls.{call_of}
use Rattle.json_fields.specs.Fields.{config_of}
use Rattle.text_stream.specs.declared.fault.TextFault.{TextFault}
use Rattle.text_stream.specs.Input.{value_of}
use Rattle.text_stream.specs.Outcome.{◌>>=◌}
use Rattle.live_command.specs.declared.said.Said.{Said}
use Rattle.live_command.specs.declared.said.Said.TheVariants.{Opening, Call, Stats}

-- whether it is there, and true
abbrev pub is_set : Option Bool → Bool
is_set None = false
is_set (Some b) = b

-- whether it is the value true, of such as there may be
abbrev pub is_true : Option Data → Bool
is_true None = false
is_true (Some d) = is_set (as_bool d)

-- whether a value asks for the numbers of the conversation: its member `stats` is true, and it has no member `call`
abbrev pub asks_stats : Data → Bool
asks_stats d = is_none (get (codes "call") d) && is_true (get (codes "stats") d)

-- what a value says that is no configuration: a call, or else whether it asks for the numbers
abbrev pub said_beside : Option Made → Data → Said
said_beside (Some call) d = Call (Some call)
said_beside None d = if asks_stats d then Stats else Call None

-- what a value says, by its member `config` where it has one
abbrev pub said_with : Option Data → Data → Said
said_with None d = said_beside (call_of d) d
said_with (Some config) d = Opening (config_of config)

-- the value has no configuration, and stands for no call
abbrev pub IsNeither : Data → Type 0
IsNeither d = (get (codes "config") d ≡ None) × (call_of d ≡ None)

-- what a value says: a configuration, or else a call, or that the numbers are asked for
unfoldable pub said_by : Data → Said
said_by d = said_with (get (codes "config") d) d

-- what a text says
unfoldable pub said_in : List ℕ → Result Said TextFault
said_in bytes = value_of bytes >>= (λ d. Ok (said_by d))
