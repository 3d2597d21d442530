-- Which lines of a conversation are calls, and which are bad.
use Rattle.std.specs.Prelude.{ℕ, ◌+◌, Bool, true, false, List, [], ◌∷◌, ◌++◌, Option, None, Some, Result, Ok, Err}
use Rattle.std.specs.List.{filter}
use Rattle.sched_calls.specs.declared.call.Call.{Call}
use Rattle.live_command.specs.declared.fault.LineFault.{LineFault}
use Rattle.live_command.specs.Spoken.{heard_of}
use Rattle.check_lines.specs.declared.told_line.ToldLine.{ToldLine}

-- A line that is answered `bad line`, by its number, counted from 1
pub record BadLine : Type 0 where
  pub number : ℕ
  pub fault : LineFault

-- the bad line that is told
abbrev pub bad_of : ToldLine → BadLine
bad_of t = record { number = t.number; fault = t.fault }

-- what is bad of what was heard of the line of this number
abbrev pub bad_heard : ℕ → Option (Result Call LineFault) → List BadLine
bad_heard n None = []
bad_heard n (Some (Ok call)) = []
bad_heard n (Some (Err fault)) = (record { number = n; fault = fault }) ∷ []

-- the bad ones of lines before which there are so many others, in order
abbrev pub bad_lines : ℕ → List (List ℕ) → List BadLine
bad_lines n [] = []
bad_lines n (line ∷ lines) = bad_heard (n + 1) (heard_of line) ++ bad_lines (n + 1) lines

-- whether a call was heard
abbrev pub is_call_heard : Option (Result Call LineFault) → Bool
is_call_heard None = false
is_call_heard (Some (Ok call)) = true
is_call_heard (Some (Err fault)) = false

-- the lines that are calls
abbrev pub call_lines : List (List ℕ) → List (List ℕ)
call_lines lines = filter (λ line. is_call_heard (heard_of line)) lines
