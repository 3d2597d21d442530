-- The kind of file that a text seems to be, by its members.
use Rattle.std.specs.Prelude.{ℕ, if◌then◌else◌, List, codes, Result, Ok, Err}
use Rattle.serde_json.specs.Data.{Data}
use Rattle.text_stream.specs.declared.fault.TextFault.{TextFault}
use Rattle.text_stream.specs.Input.{value_of}
use Rattle.history_reading.specs.Replies.{has}
use Rattle.json_fields.specs.declared.forms.Kind.{Kind}
use Rattle.json_fields.specs.declared.forms.Kind.TheVariants.{Script, Storm, History}

-- the kind of file that a document seems to be: a script where none of the members is there
abbrev pub kind_in : Data → Kind
kind_in d =
    if has (codes "calls") d then Script
    else (if has (codes "scripts") d then Storm
    else (if has (codes "entries") d then History
    else Script))

-- the kind that a value is of, or a script where there is none
abbrev pub kind_with : Result Data TextFault → Kind
kind_with (Ok d) = kind_in d
kind_with (Err fault) = Script

-- the kind of file that a text seems to be
abbrev pub kind_of : List ℕ → Kind
kind_of bytes = kind_with (value_of bytes)
