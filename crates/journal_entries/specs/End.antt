-- How a command over the entries of a journal ends.
use Rattle.std.specs.Prelude.{◌≡◌, ℕ, List, [], ◌∷◌, ◌++◌, length, codes, decimal, Option}
use Rattle.minislots.specs.declared.config.Config.{Config as Configuration}
use Rattle.sched_calls.specs.declared.reply.Entry.{Entry}
use Rattle.text_stream.specs.declared.fault.TextFault.TheVariants.{Input, TooLong, NotJson, Shape, Config, Memory}
use Rattle.text_stream.specs.declared.fault.TextFault.TheVariants.{Output}
use Rattle.text_stream.specs.declared.run_fault.RunFault.{RunFault}
use Rattle.text_stream.specs.declared.run_fault.RunFault.TheVariants.{Text, Threads}
use Rattle.journal_entries.specs.declared.end.EntriesEnd.{EntriesEnd}
use Rattle.journal_entries.specs.declared.end.EntriesEnd.TheVariants.{Legal, Illegal, Bad}
use Rattle.journal_entries.specs.Journal.{FindsLegal, FindsIllegalIn, FindsNoEntryIn, StopsJournal}

-- the exit status of a command
abbrev pub status_of : EntriesEnd → ℕ
status_of (Legal torn) = 0
status_of (Illegal place) = 1
status_of (Bad line) = 3

-- what is told of it: how many bytes are torn, which entry is illegal, or which line is bad
abbrev pub words_of : EntriesEnd → List ℕ
words_of (Legal torn) = codes "torn " ++ decimal torn
words_of (Illegal place) = codes "illegal " ++ decimal place
words_of (Bad line) = codes "bad journal at " ++ decimal line

-- An entry of the journal may not follow these, which stand before it
pub record EndsIllegal (before left : Option (List ℕ)) (c : Configuration) (es : List Entry) (place : ℕ) : Type 0 where
  pub entry : Entry
  pub found : FindsIllegalIn before left c (es ++ entry ∷ []) place
  pub behind : place ≡ length es

-- these entries are all that a journal stands for, or they stand before what ends it
abbrev pub EndsBehind : Option (List ℕ) → Option (List ℕ) → Configuration → List Entry → EntriesEnd → Type 0
EndsBehind before left c es (Legal torn) = FindsLegal before left c es torn
EndsBehind before left c es (Illegal place) = EndsIllegal before left c es place
EndsBehind before left c es (Bad line) = FindsNoEntryIn before left c es line

-- why a command over a journal stops: the journal is not read to its end, or memory or a write failed
abbrev pub StopsCommand : Option (List ℕ) → Option (List ℕ) → RunFault → Type 0
StopsCommand before left (Text Input) = StopsJournal before left Input
StopsCommand before left (Text TooLong) = StopsJournal before left TooLong
StopsCommand before left (Text NotJson) = ⊥
StopsCommand before left (Text (Shape n)) = ⊥
StopsCommand before left (Text (Config field)) = ⊥
StopsCommand before left (Text Memory) = Unit {0}
StopsCommand before left (Text Output) = Unit {0}
StopsCommand before left Threads = ⊥
