-- What the text of a history stands for: a configuration and entries, or the first fault.
use Rattle.std.specs.Prelude.{◌≡◌, ℕ, ◌+◌, nat_lt, if◌then◌else◌, List, [], ◌∷◌, length, codes, option_and_then, ok_or}
use Rattle.std.specs.Prelude.{Option, Result, Ok, Err}
use Rattle.std.specs.Result.{result_ok}
use Rattle.serde_json.specs.Data.{Data, Items, no_items, item}
use Rattle.serde_json.specs.Find.{get, as_array}
use Rattle.minislots.specs.declared.config.Config.{Config as Configuration}
use Rattle.minislots.specs.Config.{first_wrong}
use Rattle.sched_calls.specs.declared.reply.Entry.{Entry}
use Rattle.text_stream.specs.declared.fault.TextFault.{TextFault}
use Rattle.text_stream.specs.declared.fault.TextFault.TheVariants.{Input, TooLong, NotJson, Shape, Config, Memory}
use Rattle.text_stream.specs.declared.fault.TextFault.TheVariants.{Output}
use Rattle.text_stream.specs.declared.input.TheConstants.{MAX_INPUT}
use Rattle.history_reading.specs.declared.recorded.Recorded.{Recorded}
use Rattle.json_fields.specs.Fields.{config_of}
use Rattle.text_stream.specs.Input.{value_of, ReadsAll, ReadsTooMany}
use Rattle.text_stream.specs.Outcome.{◌>>=◌}
use Rattle.text_stream.specs.Outcome.{unless_wrong}
use Rattle.history_reading.specs.Replies.{entry_of}

-- what a history is made of: a configuration, and entries in their order
pub record History : Type 0 where
  pub config : Configuration
  pub entries : List Entry

-- what a history that was read has
abbrev pub history_with : Recorded → History
history_with recorded = record { config = recorded.config; entries = recorded.entries.items }

-- the entries of an array, the first of which has this number: the first that is none is the fault
unfoldable pub entries_of : ℕ → Items → Result (List Entry) TextFault
entries_of n no_items = Ok []
entries_of n (item d ds) = do
  entry ← ok_or (entry_of d) (Shape n)
  entries ← entries_of (n + 1) ds
  Ok (entry ∷ entries)

-- the history that a document stands for: a fault in the document or its configuration comes first
unfoldable pub history_of : Data → Result History TextFault
history_of d = do
  config ← ok_or (option_and_then config_of (get (codes "config") d)) (Shape 0)
  items ← ok_or (option_and_then as_array (get (codes "entries") d)) (Shape 0)
  entries ← entries_of 1 items
  Ok (record { config = config; entries = entries })

-- what a text of any length stands for: each fault of shape comes before a wrong configuration
unfoldable pub history_in : List ℕ → Result History TextFault
history_in bytes = do
  value ← value_of bytes
  history ← history_of value
  unless_wrong (first_wrong history.config) history

-- the entry that a text is
unfoldable pub entry_in : List ℕ → Option Entry
entry_in bytes = option_and_then entry_of (result_ok (value_of bytes))

-- what the bytes of an input stand for
unfoldable pub history_outcome : List ℕ → Result History TextFault
history_outcome bytes = if nat_lt MAX_INPUT (length bytes) then Err TooLong else history_in bytes

-- the bytes of a reader, all of them, stand for this history, or have this fault
pub record GivesHistory (old new : Option (List ℕ)) (outcome : Result History TextFault) : Type 0 where
  pub bytes : List ℕ
  pub all : ReadsAll old new bytes
  pub outcome_is : history_outcome bytes ≡ outcome

-- why there is no history: lack of memory and a failed read tell nothing more
abbrev pub StopsHistory : Option (List ℕ) → Option (List ℕ) → TextFault → Type 0
StopsHistory old new Input = Unit {0}
StopsHistory old new TooLong = ReadsTooMany old new
StopsHistory old new NotJson = GivesHistory old new (Err NotJson)
StopsHistory old new (Shape n) = GivesHistory old new (Err (Shape n))
StopsHistory old new (Config field) = GivesHistory old new (Err (Config field))
StopsHistory old new Memory = Unit {0}
StopsHistory old new Output = ⊥
