-- The fault that a file has to the command that reads files of its kind.
use Rattle.std.specs.Prelude.{ℕ, List, [], ◌∷◌, ◌++◌, codes, Option, Some, None, Result, Ok, Err}
use Rattle.text_stream.specs.declared.fault.TextFault.{TextFault}
use Rattle.text_stream.specs.declared.fault.TextFault.TheVariants.{Input, TooLong, NotJson, Shape, Config, Memory}
use Rattle.text_stream.specs.declared.fault.TextFault.TheVariants.{Output}
use Rattle.text_stream.specs.Fault.{field_number}
use Rattle.sched_lines.specs.Line.{number_text}
use Rattle.script_reading.specs.Outcome.{outcome_of}
use Rattle.script_reading.specs.StormScript.{storm_outcome}
use Rattle.history_reading.specs.Recorded.{history_outcome}
use Rattle.json_fields.specs.declared.forms.Kind.{Kind}
use Rattle.json_fields.specs.declared.forms.Kind.TheVariants.{Script, Storm, History}
use Rattle.check_lines.specs.DocumentKind.{kind_of}

-- the fault that an outcome is, where it is one
abbrev pub fault_in : {A : Type 0} → Result A TextFault → Option TextFault
fault_in (Ok value) = None
fault_in (Err fault) = Some fault

-- the fault by which `run`, `storm` or `audit` ends before it does anything, where the bytes have one
abbrev pub fault_as : Kind → List ℕ → Option TextFault
fault_as Script bytes = fault_in (outcome_of bytes)
fault_as Storm bytes = fault_in (storm_outcome bytes)
fault_as History bytes = fault_in (history_outcome bytes)

-- the fault that the bytes have as the kind of file that they seem to be
abbrev pub fault_of : List ℕ → Option TextFault
fault_of bytes = fault_as (kind_of bytes) bytes

-- the text of a fault, as the program ends by it
abbrev pub fault_text : TextFault → List ℕ
fault_text Input = codes "input failed"
fault_text TooLong = codes "input too long"
fault_text NotJson = codes "not json"
fault_text (Shape n) = codes "bad script at" ++ number_text n
fault_text (Config field) = codes "bad config" ++ number_text (field_number field)
fault_text Memory = codes "out of memory"
fault_text Output = codes "output failed"

-- what is said of a file without a fault
abbrev pub praise : Kind → List ℕ
praise Script = codes "good script"
praise Storm = codes "good script of a storm"
praise History = codes "good history"

-- what is said first of a file of this kind
abbrev pub verdict_text : Kind → Option TextFault → List ℕ
verdict_text kind None = praise kind
verdict_text kind (Some fault) = fault_text fault

-- the first line
unfoldable pub verdict_line : Kind → Option TextFault → List ℕ
verdict_line kind found = verdict_text kind found ++ 10 ∷ []
