-- What the faults of reading and writing are told as.
use Rattle.std.proofs.Common.{◌≡◌, ◌⊎◌, Bool, true, inl, inr, sym, ap, ◌∙◌, List, ℕ, Option, Result, Ok, Err}
use Rattle.std.specs.Prelude.{◌≢◌}
use Rattle.std.specs.Result.{IsErrAnd}
use Rattle.text_stream.specs.Watched.{FailsBy}
use Rattle.text_stream.specs.RunFault.{WritesLast}
use Rattle.text_stream.specs.declared.fault.TextFault.{TextFault}
use Rattle.text_stream.specs.declared.fault.TextFault.TheVariants.{Input, TooLong, NotJson, Shape, Config, Memory}
use Rattle.text_stream.specs.declared.fault.TextFault.TheVariants.{Output}
use Rattle.text_stream.specs.declared.run_fault.RunFault.{RunFault}
use Rattle.text_stream.specs.declared.run_fault.RunFault.TheVariants.{Text, Threads}
use Rattle.history_reading.specs.Recorded.{History, GivesHistory}
use Rattle.journal_entries.specs.End.{StopsCommand}
use Rattle.journal_entries.specs.Journal.{StopsJournal}
use Rattle.state_command.specs.History.{StopsHistoryState}
use Rattle.state_command.specs.Journal.{IsWriting}

-- the state after a whole history is not shown where memory runs out, or a write fails
pub stops_writing : (unread left : Option (List ℕ)) (fault : TextFault) (history : History)
    → GivesHistory unread left (Ok history) → (fault ≡ Memory) ⊎ (fault ≡ Output)
    → StopsHistoryState unread left (Text fault)
stops_writing unread left fault history gives (inl e) = rw e tt
stops_writing unread left fault history gives (inr e) = rw e (history, gives)

-- a write is tried last
pub quiet : {T W : Type 0} (r : Result T RunFault) (t : TextFault) (old new : W) → (t ≢ Output → new ≡ old)
    → IsErrAnd r (λ f. f ≡ Text t) → WritesLast r old new
quiet (Ok x) t old new still is = tt
quiet (Err f) t old new still is = λ other. still (λ output. other (is ∙ ap (λ u. Text u) output))

-- what the text ends by is no failed read
pub reads : {T : Type 0} (r : Result T RunFault) (t : TextFault) (old new : Bool) → (t ≡ Memory) ⊎ (t ≡ Output)
    → IsErrAnd r (λ f. f ≡ Text t) → FailsBy (Text Input) r old new
reads (Ok x) t old new fault is = absurd is
reads (Err f) t old new (inl memory) is = λ input.
    absurd (let no : Text Memory ≡ Text Input = sym (is ∙ ap (λ u. Text u) memory) ∙ input in cc)
reads (Err f) t old new (inr output) is = λ input.
    absurd (let no : Text Output ≡ Text Input = sym (is ∙ ap (λ u. Text u) output) ∙ input in cc)

same-text : (t u : TextFault) → Text t ≡ Text u → t ≡ u
same-text t u is = cc

-- and a failed write where one failed
pub writes : {T : Type 0} (r : Result T RunFault) (t : TextFault) (old new : Bool) → (t ≡ Output → new ≡ true)
    → IsErrAnd r (λ f. f ≡ Text t) → FailsBy (Text Output) r old new
writes (Ok x) t old new failed is = absurd is
writes (Err f) t old new failed is = λ output. failed (same-text t Output (sym is ∙ output))

-- what stops the entries of a journal stops the command
pub stops_command : (unread left : Option (List ℕ)) (fault : TextFault) → StopsJournal unread left fault
    → StopsCommand unread left (Text fault)
stops_command unread left Input stops = stops
stops_command unread left TooLong stops = stops
stops_command unread left NotJson stops = absurd stops
stops_command unread left (Shape n) stops = absurd stops
stops_command unread left (Config field) stops = absurd stops
stops_command unread left Memory stops = tt
stops_command unread left Output stops = absurd stops

-- and is no failed write
pub no_write : (unread left : Option (List ℕ)) (fault : TextFault) → StopsJournal unread left fault
    → Text fault ≡ Text Output → ⊥
no_write unread left Input stops is = cc
no_write unread left TooLong stops is = cc
no_write unread left NotJson stops is = stops
no_write unread left (Shape n) stops is = stops
no_write unread left (Config field) stops is = stops
no_write unread left Memory stops is = cc
no_write unread left Output stops is = stops

-- where memory runs out, or a write fails, a command over a journal ends
pub stops_shown : (unread left : Option (List ℕ)) (fault : RunFault) → IsWriting fault
    → StopsCommand unread left fault
stops_shown unread left fault (inl e) = rw e tt
stops_shown unread left fault (inr e) = rw e tt

-- and no read has failed
pub no_read : (fault : RunFault) → IsWriting fault → fault ≡ Text Input → ⊥
no_read fault (inl e) input = let no : Text Memory ≡ Text Input = sym e ∙ input in cc
no_read fault (inr e) input = let no : Text Output ≡ Text Input = sym e ∙ input in cc
