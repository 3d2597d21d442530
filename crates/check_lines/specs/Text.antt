-- What is written of a file that is read by lines.
use Rattle.std.specs.Prelude.{ℕ, ◌-◌, ◌==◌, nat_le, if◌then◌else◌, List, [], ◌∷◌, ◌++◌, codes, flat_map}
use Rattle.std.specs.Prelude.{Option, None, Some}
use Rattle.std.specs.String.{string_bytes}
use Rattle.text_stream.specs.declared.fault.TextFault.{TextFault}
use Rattle.sched_lines.specs.Line.{number_text, number_line}
use Rattle.check_lines.specs.Found.{fault_text}
use Rattle.journal_entries.specs.declared.end.EntriesEnd.{EntriesEnd}
use Rattle.journal_entries.specs.declared.end.EntriesEnd.TheVariants.{Legal, Illegal, Bad}
use Rattle.live_command.specs.Spoken.{fault_words}
use Rattle.check_lines.specs.declared.live.TheConstants.{MOST}
use Rattle.check_lines.specs.declared.live.Conversation.{Conversation}
use Rattle.check_lines.specs.declared.told_line.ToldLine.{ToldLine}
use Rattle.check_lines.specs.Bad.{BadLine, bad_of}

-- a line of words
unfoldable pub text_line : List ℕ → List ℕ
text_line words = words ++ 10 ∷ []

-- how many bytes stand behind the last newline, where there are any
unfoldable pub torn_text : ℕ → List ℕ
torn_text torn =
    if torn == 0 then [] else number_line (codes "bytes behind the last newline, which count for nothing:") torn

-- that a journal is legal
unfoldable pub good_text : List ℕ
good_text = text_line (codes "good journal")

-- that a journal is legal, and what it has
unfoldable pub legal_text : ℕ → ℕ → List ℕ
legal_text entries torn = good_text ++ (number_line (codes "entries:") entries ++ torn_text torn)

-- what is said first of a journal that ends so, with so many entries where it is legal
unfoldable pub end_text : EntriesEnd → ℕ → List ℕ
end_text (Legal torn) entries = legal_text entries torn
end_text (Illegal place) entries = number_line (codes "illegal") place
end_text (Bad line) entries = number_line (codes "bad journal at") line

-- the line that is wrong, where there is one
abbrev pub place_text : Option ℕ → List ℕ
place_text None = []
place_text (Some number) = number_line (codes "in line") number

-- what is said first of a conversation whose configuration has this fault, in this line
unfoldable pub opening_text : TextFault → Option ℕ → List ℕ
opening_text fault place = fault_text fault ++ (10 ∷ [] ++ place_text place)

-- what is said first of a bad line
unfoldable pub bad_line_text : BadLine → List ℕ
bad_line_text b = codes "line" ++ (number_text b.number ++ (codes ": " ++ text_line (fault_words b.fault)))

-- a bad line that is told, and words behind it
unfoldable pub told_text : ToldLine → List ℕ
told_text t = bad_line_text (bad_of t) ++ string_bytes t.words

-- how many lines are bad
abbrev pub bad_text : ℕ → List ℕ
bad_text bad =
    if bad == 0 then text_line (codes "good live input") else number_line (codes "live input with bad lines:") bad

-- how many of them are not told
abbrev pub more_text : ℕ → List ℕ
more_text bad = if nat_le bad MOST then [] else number_line (codes "bad lines that are not told:") (bad - MOST)

-- what is said of the lines of a conversation: how many are bad and how many are calls, and the first of the bad ones
unfoldable pub talk_text : Conversation → List ℕ
talk_text talk =
    bad_text talk.bad ++ (number_line (codes "calls:") talk.calls
    ++ (flat_map told_text talk.told.items ++ more_text talk.bad))
