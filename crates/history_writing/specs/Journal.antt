-- The text of a journal: the JSON value of its configuration and of each entry in compact form, each in a line.
use Rattle.std.specs.Prelude.{ℕ, List, [], ◌∷◌, ◌++◌, codes, flat_map}
use Rattle.serde_json.specs.Data.{Data, object, no_members, member}
use Rattle.serde_json.specs.Written.{compact_text}
use Rattle.minislots.specs.declared.config.Config.{Config}
use Rattle.sched_calls.specs.declared.reply.Entry.{Entry}
use Rattle.history_writing.specs.HistoryText.{config_data, entry_data}

-- an opening: the configuration, as it stands in a history
unfoldable pub opening_data : Config → Data
opening_data c = object (member (codes "config") (config_data c) no_members)

-- a line of a journal: a value without a space, ended by one newline
abbrev pub line_of_data : Data → List ℕ
line_of_data d = compact_text d ++ 10 ∷ []

-- the first line
unfoldable pub opening_line : Config → List ℕ
opening_line c = line_of_data (opening_data c)

-- the line of an entry: the entry as it stands in a history
unfoldable pub entry_line : Entry → List ℕ
entry_line e = line_of_data (entry_data e)

-- the journal of entries under a configuration
abbrev pub journal_text : Config → List Entry → List ℕ
journal_text c es = opening_line c ++ flat_map entry_line es
