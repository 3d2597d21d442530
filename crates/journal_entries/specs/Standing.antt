-- Which lines of a journal stand for which configuration and entries.
use Rattle.std.specs.Prelude.{◌≡◌, ℕ, nat_lt, if◌then◌else◌, List, [], ◌∷◌, ◌++◌, length, codes, map, flat_map}
use Rattle.std.specs.Prelude.{Option, None, Some, is_some, Bool, ◌||◌}
use Rattle.serde_json.specs.Data.{Data}
use Rattle.std.specs.Result.{result_ok}
use Rattle.serde_json.specs.Find.{get}
use Rattle.minislots.specs.declared.config.Config.{Config}
use Rattle.minislots.specs.Config.{first_wrong}
use Rattle.sched_calls.specs.declared.reply.Entry.{Entry}
use Rattle.text_stream.specs.Input.{value_of}
use Rattle.text_stream.specs.Outcome.{unless_wrong}
use Rattle.json_fields.specs.Fields.{◌>>=◌, config_of}
use Rattle.text_stream.specs.declared.TheConstants.{MAX_LINE, NEWLINE}
use Rattle.history_reading.specs.Recorded.{entry_in}

-- what a line stands for, where it is not too long for one
abbrev pub in_line : {A : Type 0} → (List ℕ → Option A) → List ℕ → Option A
in_line stands line = if nat_lt MAX_LINE (length line) then None else stands line

-- the configuration, where it has no wrong field
abbrev pub lawful_config : Config → Option Config
lawful_config c = result_ok (unless_wrong (first_wrong c) c)

-- whether a value has more than a configuration: a history its entries, a script its calls, a storm its scripts
abbrev pub is_document : Data → Bool
is_document value = is_some (get (codes "entries") value) || is_some (get (codes "calls") value)
    || is_some (get (codes "scripts") value)

-- the lawful configuration that a value has under its key
abbrev pub config_under : Data → Option Config
config_under value = do
  found ← get (codes "config") value
  config ← config_of found
  lawful_config config

-- the configuration that an opening is: an object that has it under its key, and is no whole document
unfoldable pub opening_in : List ℕ → Option Config
opening_in bytes = do
  value ← result_ok (value_of bytes)
  if is_document value then None else config_under value

-- the configuration that the first line of a journal stands for
abbrev pub config_in_line : List ℕ → Option Config
config_in_line line = in_line opening_in line

-- the entry that a later line stands for
abbrev pub entry_in_line : List ℕ → Option Entry
entry_in_line line = in_line entry_in line

-- The lines are a journal's: the first stands for the configuration, and each later one for the entry at its place
pub record StandFor (lines : List (List ℕ)) (c : Config) (es : List Entry) : Type 0 where
  pub opening : List ℕ
  pub others : List (List ℕ)
  pub lines_are : lines ≡ opening ∷ others
  pub config_is : config_in_line opening ≡ Some c
  pub entries_are : map entry_in_line others ≡ map Some es

-- the bytes of whole lines: each with its newline
abbrev pub ended_lines : List (List ℕ) → List ℕ
ended_lines lines = flat_map (λ line. line ++ NEWLINE ∷ []) lines
