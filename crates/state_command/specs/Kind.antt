-- What an input is read as, by its first line.
use Rattle.std.specs.Prelude.{ℕ, Bool, not, ◌||◌, ◌&&◌, if◌then◌else◌, List, codes, Option, is_some, Result, Ok, Err}
use Rattle.serde_json.specs.Data.{Data}
use Rattle.serde_json.specs.Find.{get}
use Rattle.text_stream.specs.Input.{value_of}
use Rattle.text_stream.specs.declared.fault.TextFault.{TextFault}
use Rattle.state_command.specs.declared.kind.InputKind.{InputKind}
use Rattle.state_command.specs.declared.kind.InputKind.TheVariants.{Document, Journal, Segment}

-- something stands under this key
abbrev pub has : List ℕ → Data → Bool
has key value = is_some (get key value)

-- a value has what tells a script, the script of a storm or a history
abbrev pub is_document : Data → Bool
is_document value = has (codes "entries") value || has (codes "calls") value || has (codes "scripts") value

-- what an input is whose first line has this value: a segment that goes on after others where it says so, and a journal
-- where it has a configuration and is no whole document
abbrev pub kind_of_value : Data → InputKind
kind_of_value value = if has (codes "segment") value then Segment
    else (if has (codes "config") value && not (is_document value) then Journal else Document)

-- the same, where a line may have no value
abbrev pub kind_of : Result Data TextFault → InputKind
kind_of (Ok value) = kind_of_value value
kind_of (Err fault) = Document

-- what an input is whose first line is this one
abbrev pub kind_of_line : List ℕ → InputKind
kind_of_line line = kind_of (value_of line)
