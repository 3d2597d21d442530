-- What is told of a file as JSON: one line without spaces, an object with its keys in ascending order.
use Rattle.std.specs.Prelude.{ℕ, ◌+◌, ◌-◌, ◌^◌, ◌==◌, min, true, false, List, [], ◌∷◌, ◌++◌, codes, decimal, flat_map}
use Rattle.std.specs.Prelude.{Option, None, Some}
use Rattle.std.specs.String.{string_bytes}
use Rattle.json.specs.Token.{Token, begin_object, end_object, begin_array, end_array, key, string, number, boolean}
use Rattle.json.specs.Print.{print}
use Rattle.json_fields.specs.declared.forms.Kind.{Kind}
use Rattle.json_fields.specs.declared.forms.Kind.TheVariants.{Script, Storm, History}
use Rattle.text_stream.specs.declared.fault.TextFault.{TextFault}
use Rattle.text_stream.specs.declared.fault.TextFault.TheVariants.{Input, TooLong, NotJson, Shape, Config, Memory}
use Rattle.text_stream.specs.declared.fault.TextFault.TheVariants.{Output}
use Rattle.text_stream.specs.Fault.{field_number}
use Rattle.journal_entries.specs.declared.end.EntriesEnd.{EntriesEnd}
use Rattle.journal_entries.specs.declared.end.EntriesEnd.TheVariants.{Legal, Illegal, Bad}
use Rattle.live_command.specs.Spoken.{fault_words}
use Rattle.check_lines.specs.declared.live.Conversation.{Conversation}
use Rattle.check_lines.specs.declared.told_line.ToldLine.{ToldLine}

-- a whole number under a key
abbrev pub numbered : List ℕ → ℕ → List Token
numbered name n = key name ∷ number (decimal n) ∷ []

-- the same, where there is one
abbrev pub given : List ℕ → Option ℕ → List Token
given name None = []
given name (Some n) = numbered name n

-- a text under a key
abbrev pub titled : List ℕ → List ℕ → List Token
titled name text = key name ∷ string text ∷ []

-- the line of the object with these members
unfoldable pub object_line : List Token → List ℕ
object_line members = print (begin_object ∷ (members ++ end_object ∷ [])) ++ 10 ∷ []

-- the name of a fault: its text without its number
abbrev pub fault_name : TextFault → List ℕ
fault_name Input = codes "input failed"
fault_name TooLong = codes "input too long"
fault_name NotJson = codes "not json"
fault_name (Shape n) = codes "bad script"
fault_name (Config field) = codes "bad config"
fault_name Memory = codes "out of memory"
fault_name Output = codes "output failed"

-- its number, where it has one
abbrev pub number_of : TextFault → Option ℕ
number_of Input = None
number_of TooLong = None
number_of NotJson = None
number_of (Shape n) = Some n
number_of (Config field) = Some (field_number field)
number_of Memory = None
number_of Output = None

-- the name of a kind of document
abbrev pub kind_name : Kind → List ℕ
kind_name Script = codes "script"
kind_name Storm = codes "storm"
kind_name History = codes "history"

-- a document without a fault, and what it has
unfoldable pub good_members : List ℕ → List ℕ → List Token
good_members kind words =
    key (codes "good") ∷ boolean true ∷ (titled (codes "kind") kind ++ titled (codes "words") words)

-- a file with a fault: in which line, counted from 1, and with which number, where there are such; and where, in words
unfoldable pub faulty_members : List ℕ → List ℕ → Option ℕ → Option ℕ → List ℕ → List Token
faulty_members fault kind line n words =
    titled (codes "fault") fault ++ (key (codes "good") ∷ boolean false ∷ (titled (codes "kind") kind
    ++ (given (codes "line") line ++ (given (codes "number") n ++ titled (codes "words") words))))

-- a document of this kind, in which this fault is found, or none
abbrev pub document_members : Kind → Option TextFault → List ℕ → List Token
document_members kind None words = good_members (kind_name kind) words
document_members kind (Some fault) words =
    faulty_members (fault_name fault) (kind_name kind) None (number_of fault) words

-- a legal journal: how many entries it has, and how many bytes stand behind its last newline
unfoldable pub legal_members : ℕ → ℕ → List Token
legal_members entries torn =
    numbered (codes "entries") entries ++ (key (codes "good") ∷ boolean true ∷ (titled (codes "kind") (codes "journal")
    ++ numbered (codes "torn") torn))

-- the line of what has this number, counted from 1, where the first has so many lines before it
abbrev pub line_behind : ℕ → ℕ → ℕ
line_behind place before = min (place + before) (2 ^ 64 - 1)

-- a journal that ends so, with so many entries where it is legal
abbrev pub journal_members : EntriesEnd → ℕ → List ℕ → List Token
journal_members (Legal torn) entries words = legal_members entries torn
journal_members (Illegal place) entries words =
    faulty_members (codes "illegal") (codes "journal") (Some (line_behind place 2)) (Some place) words
journal_members (Bad line) entries words =
    faulty_members (codes "bad journal") (codes "journal") (Some (line_behind line 1)) (Some line) words

-- a conversation whose configuration has this fault, in this line
abbrev pub opening_members : TextFault → Option ℕ → List ℕ → List Token
opening_members fault place words = faulty_members (fault_name fault) (codes "live") place (number_of fault) words

-- a bad line that is told
unfoldable pub finding_object : ToldLine → List Token
finding_object t =
    begin_object ∷ (titled (codes "fault") (fault_words t.fault) ++ (numbered (codes "line") t.number
    ++ (titled (codes "words") (string_bytes t.words) ++ end_object ∷ [])))

-- the bad lines that are told
unfoldable pub findings_member : List ToldLine → List Token
findings_member told =
    key (codes "findings") ∷ begin_array ∷ (flat_map finding_object told ++ end_array ∷ [])

-- a conversation: how many lines are bad, how many are calls, and the first of the bad ones
unfoldable pub talk_members : Conversation → List Token
talk_members talk =
    numbered (codes "bad") talk.bad ++ (numbered (codes "calls") talk.calls ++ (findings_member talk.told.items
    ++ (key (codes "good") ∷ boolean (talk.bad == 0) ∷ titled (codes "kind") (codes "live"))))
