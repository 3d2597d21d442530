-- What is written of a file, in each form.
use Rattle.std.specs.Prelude.{ℕ, List, ◌++◌, Option}
use Rattle.std.specs.String.{string_bytes}
use Rattle.text_stream.specs.declared.fault.TextFault.{TextFault}
use Rattle.json_fields.specs.declared.forms.Kind.{Kind}
use Rattle.journal_entries.specs.declared.end.EntriesEnd.{EntriesEnd}
use Rattle.check_lines.specs.declared.form.CheckForm.{CheckForm}
use Rattle.check_lines.specs.declared.form.CheckForm.TheVariants.{Lines, Json}
use Rattle.check_lines.specs.declared.live.Conversation.{Conversation}
use Rattle.check_lines.specs.declared.live.LiveReport.{LiveReport}
use Rattle.check_lines.specs.declared.live.LiveReport.TheVariants.{Talk, Faulty}
use Rattle.check_lines.specs.Found.{verdict_line}
use Rattle.check_lines.specs.Text.{end_text, opening_text, talk_text}
use Rattle.check_lines.specs.Objects.{object_line, document_members, journal_members, opening_members, talk_members}

-- of a document of this kind, in which this fault is found, or none; with words
abbrev pub document_as : CheckForm → Kind → Option TextFault → List ℕ → List ℕ
document_as Lines kind found words = verdict_line kind found ++ words
document_as Json kind found words = object_line (document_members kind found words)

-- of a journal that ends so, with so many entries where it is legal
abbrev pub journal_as : CheckForm → EntriesEnd → ℕ → List ℕ → List ℕ
journal_as Lines end entries words = end_text end entries ++ words
journal_as Json end entries words = object_line (journal_members end entries words)

-- of a conversation whose configuration has this fault, in this line
abbrev pub opening_as : CheckForm → TextFault → Option ℕ → List ℕ → List ℕ
opening_as Lines fault place words = opening_text fault place ++ words
opening_as Json fault place words = object_line (opening_members fault place words)

-- of the lines of a conversation
abbrev pub talk_as : CheckForm → Conversation → List ℕ
talk_as Lines talk = talk_text talk
talk_as Json talk = object_line (talk_members talk)

-- of what was found in a conversation
abbrev pub live_as : CheckForm → LiveReport → List ℕ
live_as form (Talk talk) = talk_as form talk
live_as form (Faulty fault place words) = opening_as form fault place (string_bytes words)
