-- The kind of file that its first lines begin.
use Rattle.std.specs.Prelude.{ℕ, Bool, false, ◌||◌, if◌then◌else◌, List, [], ◌∷◌, codes, Option, None, Some}
use Rattle.std.specs.Prelude.{is_some}
use Rattle.std.specs.Result.{result_ok}
use Rattle.serde_json.specs.Data.{Data}
use Rattle.serde_json.specs.Find.{get, as_object}
use Rattle.text_stream.specs.Input.{value_of}
use Rattle.text_stream.specs.Lines.{lines_of}
use Rattle.history_reading.specs.Replies.{has}
use Rattle.journal_entries.specs.Standing.{in_line}
use Rattle.live_command.specs.Spoken.{spoken}
use Rattle.check_lines.specs.declared.kind.FileKind.{FileKind}
use Rattle.check_lines.specs.declared.kind.FileKind.TheVariants.{Document, Journal, Live}

-- the value that a line is the text of, where it is not too long
unfoldable pub value_in_line : List ℕ → Option Data
value_in_line line = in_line (λ text. result_ok (value_of text)) line

-- whether it is an object with the member `config`
abbrev pub has_config : Option Data → Bool
has_config None = false
has_config (Some d) = has (codes "config") d

-- whether a value is an object, where it is there
abbrev pub is_object : Option Data → Bool
is_object None = false
is_object (Some d) = is_some (as_object d)

-- whether an object stands under `call`
abbrev pub has_object : Data → Bool
has_object d = is_object (get (codes "call") d)

-- whether an object has a member that an entry of a journal has, and no call
abbrev pub is_entry : Data → Bool
is_entry d = has (codes "reply") d || (has (codes "seat") d || (has (codes "ticket") d || has_object d))

-- what the line behind a configuration begins
unfoldable pub kind_behind : Data → FileKind
kind_behind d = if is_entry d then Journal else (if has (codes "call") d then Live else Document)

-- a document, where the line is no value
abbrev pub kind_with : Option Data → FileKind
kind_with None = Document
kind_with (Some d) = kind_behind d

-- the kind of file of which these are the first two lines that are not blank
unfoldable pub kind_of_two : List ℕ → List ℕ → FileKind
kind_of_two first second =
    if has_config (value_in_line first) then kind_with (value_in_line second) else Document

-- the kind of file that these lines begin, none of which is blank
abbrev pub kind_of_lines : List (List ℕ) → FileKind
kind_of_lines [] = Document
kind_of_lines (first ∷ []) = Document
kind_of_lines (first ∷ (second ∷ others)) = kind_of_two first second

-- the kind of file that its first bytes begin
abbrev pub kind_of_front : List ℕ → FileKind
kind_of_front bytes = kind_of_lines (spoken (lines_of bytes))
