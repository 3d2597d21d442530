-- Which lines are answered, and what one asks for.
use Rattle.std.specs.Prelude.{ℕ, Bool, true, not, ◌&&◌, ◌||◌, ◌==◌, nat_lt, if◌then◌else◌, List, [], ◌∷◌, ◌++◌, length}
use Rattle.std.specs.Prelude.{codes, Option, None, Some, Result, Ok, Err}
use Rattle.std.specs.List.{filter}
use Rattle.text_stream.specs.declared.TheConstants.{MAX_LINE}
use Rattle.text_stream.specs.declared.fault.TextFault.{TextFault}
use Rattle.sched_calls.specs.declared.call.Call.{Call}
use Rattle.live_command.specs.declared.asked.Asked.{Asked}
use Rattle.live_command.specs.declared.asked.Asked.TheVariants as asking
use Rattle.live_command.specs.declared.fault.LineFault.{LineFault}
use Rattle.live_command.specs.declared.fault.LineFault.TheVariants.{Long, Json, Shape}
use Rattle.live_command.specs.declared.said.Said.{Said}
use Rattle.live_command.specs.declared.said.Said.TheVariants as saying
use Rattle.live_command.specs.Said.{said_in}

-- white space of JSON: a space, a tab, a newline, or a carriage return
abbrev pub is_white : ℕ → Bool
is_white b = b == 32 || (b == 9 || (b == 10 || b == 13))

-- white space alone
abbrev pub is_blank : List ℕ → Bool
is_blank [] = true
is_blank (b ∷ line) = is_white b && is_blank line

-- a line that is answered: it is long, or it is not blank
abbrev pub is_spoken : List ℕ → Bool
is_spoken line = nat_lt MAX_LINE (length line) || not (is_blank line)

-- the lines that are answered
abbrev pub spoken : List (List ℕ) → List (List ℕ)
spoken lines = filter is_spoken lines

-- what is asked for; a configuration asks for nothing
abbrev pub asked_said : Said → Result Asked LineFault
asked_said (saying.Opening config) = Err Shape
asked_said saying.Stats = Ok asking.Stats
asked_said (saying.Call None) = Err Shape
asked_said (saying.Call (Some call)) = Ok (asking.Call call)

-- what is asked for by what was read of a text, which is JSON or not
abbrev pub asked_read : Result Said TextFault → Result Asked LineFault
asked_read (Ok said) = asked_said said
asked_read (Err fault) = Err Json

-- what a line asks for, or its first fault
unfoldable pub asked_of_line : List ℕ → Result Asked LineFault
asked_of_line line = if nat_lt MAX_LINE (length line) then Err Long else asked_read (said_in line)

-- what is heard of a line: what it asks for or its first fault, and nothing of one that is not answered
abbrev pub asked_in : List ℕ → Option (Result Asked LineFault)
asked_in line = if is_spoken line then Some (asked_of_line line) else None

-- the call or the fault of what was heard, and nothing of the numbers
abbrev pub call_heard : Option (Result Asked LineFault) → Option (Result Call LineFault)
call_heard None = None
call_heard (Some (Ok (asking.Call call))) = Some (Ok call)
call_heard (Some (Ok asking.Stats)) = None
call_heard (Some (Err fault)) = Some (Err fault)

-- the call of a line or its first fault, and nothing of one that is not answered or that asks for the numbers
abbrev pub heard_of : List ℕ → Option (Result Call LineFault)
heard_of line = call_heard (asked_in line)

-- what is wrong with a line
abbrev pub fault_words : LineFault → List ℕ
fault_words Long = codes "bad line long"
fault_words Json = codes "bad line json"
fault_words Shape = codes "bad line shape"

-- the answer to a line with a fault
abbrev pub fault_line : LineFault → List ℕ
fault_line fault = fault_words fault ++ 10 ∷ []
