-- What an input is, by its first bytes, and what to do with it where the command that it was given to reads another.
use Rattle.std.specs.Prelude.{ℕ, Bool, true, false, ◌||◌, if◌then◌else◌, List, codes, Option, Some, None}
use Rattle.std.specs.Prelude.{Result, Ok, Err}
use Rattle.serde_json.specs.Data.{Data}
use Rattle.text_stream.specs.declared.fault.TextFault.{TextFault}
use Rattle.text_stream.specs.Input.{value_of}
use Rattle.history_reading.specs.Replies.{has}
use Rattle.json_fields.specs.declared.forms.Kind.{Kind}
use Rattle.json_fields.specs.declared.forms.Kind.TheVariants.{Script, Storm, History}
use Rattle.check_lines.specs.declared.kind.FileKind.{FileKind}
use Rattle.check_lines.specs.declared.kind.FileKind.TheVariants as file
use Rattle.check_lines.specs.declared.told_input.InputKind.{InputKind}
use Rattle.check_lines.specs.declared.told_input.InputKind.TheVariants as input
use Rattle.check_lines.specs.declared.told_input.Documents.{Documents}
use Rattle.check_lines.specs.declared.told_input.Documents.TheVariants.{Scripts, Storms, Histories, Both}
use Rattle.check_lines.specs.declared.told_input.Journals.{Journals}
use Rattle.check_lines.specs.declared.told_input.Journals.TheVariants.{Never, Unasked, Asked}
use Rattle.check_lines.specs.declared.told_input.Advice.{Advice}
use Rattle.check_lines.specs.declared.told_input.Advice.TheVariants as advice
use Rattle.check_lines.specs.DocumentKind.{kind_in}
use Rattle.check_lines.specs.Kind.{kind_of_front}

-- the kind of a document, where it has a member that tells it
abbrev pub kind_told : Data → Option InputKind
kind_told d =
    if has (codes "calls") d || (has (codes "scripts") d || has (codes "entries") d)
    then Some (input.Document (kind_in d)) else None

-- that of a text, where it is a document
abbrev pub document_told : Result Data TextFault → Option InputKind
document_told (Ok d) = kind_told d
document_told (Err fault) = None

-- what an input is that is read as this kind of file
abbrev pub kind_as : FileKind → List ℕ → Option InputKind
kind_as file.Document bytes = document_told (value_of bytes)
kind_as file.Journal bytes = Some input.Journal
kind_as file.Live bytes = Some input.Live

-- what an input is that begins with these bytes
abbrev pub input_kind : List ℕ → Option InputKind
input_kind bytes = kind_as (kind_of_front bytes) bytes

-- whether a command that reads these documents reads one of this kind
abbrev pub is_read : Documents → Kind → Bool
is_read Scripts Script = true
is_read Scripts Storm = false
is_read Scripts History = false
is_read Storms Script = false
is_read Storms Storm = true
is_read Storms History = false
is_read Histories Script = false
is_read Histories Storm = false
is_read Histories History = true
is_read Both Script = true
is_read Both Storm = false
is_read Both History = true

-- what to do with a script: for a command that reads histories alone a run makes one, in lines where a journal is asked
-- for
abbrev pub advice_on_script : Documents → Journals → Advice
advice_on_script Scripts journals = advice.Run
advice_on_script Storms journals = advice.Run
advice_on_script Histories Never = advice.RunHistory
advice_on_script Histories Unasked = advice.RunHistory
advice_on_script Histories Asked = advice.RunJournal
advice_on_script Both journals = advice.Run

-- what to do with a document of this kind that is not read
abbrev pub command_for : Kind → Documents → Journals → Advice
command_for Script documents journals = advice_on_script documents journals
command_for Storm documents journals = advice.Storm
command_for History documents journals = advice.Audit

-- what to do with a journal
abbrev pub advice_on_journal : Journals → Option Advice
advice_on_journal Never = Some advice.AuditJournal
advice_on_journal Unasked = Some advice.Journal
advice_on_journal Asked = None

-- what to do with a document that is read where no journal is asked for
abbrev pub advice_on_read : Journals → Option Advice
advice_on_read Never = None
advice_on_read Unasked = None
advice_on_read Asked = Some advice.NoJournal

-- what to do with an input that was given to a command
abbrev pub advice_on : InputKind → Documents → Journals → Option Advice
advice_on (input.Document kind) documents journals =
    if is_read documents kind then advice_on_read journals else Some (command_for kind documents journals)
advice_on input.Journal documents journals = advice_on_journal journals
advice_on input.Live documents journals = Some advice.Live
