-- What a run reads and writes.
use Rattle.std.specs.Prelude.{◌≡◌, ℕ, ◌+◌, Bool, true, false, List, [], length, Option, flat_map}
use Rattle.std.specs.List.{AllByRecursion}
use Rattle.std.specs.Io.KnownBytes.{Appends}
use Rattle.minislots.specs.declared.config.Config as configs
use Rattle.minislots.specs.Config.{IsLawful}
use Rattle.sched_calls.specs.declared.call.Call.{Call}
use Rattle.sched_calls.specs.declared.reply.Entry.{Entry}
use Rattle.sched_history.specs.History.{IsLegal}
use Rattle.script_reading.specs.Script.{Scenario}
use Rattle.script_reading.specs.Outcome.{StandsFor}
use Rattle.sched_calls.specs.Reply.{Answer}
use Rattle.sched_history.specs.Answer.{MayGetEach, recorded_entries}
use Rattle.sched_lines.specs.Line.{line_of}
use Rattle.sched_lines.specs.Meaning.{explained_line}
use Rattle.history_writing.specs.HistoryText.{history_text}
use Rattle.history_writing.specs.Fits.{ConfigFits, EntryFits}
use Rattle.history_writing.specs.Journal.{journal_text}
use Rattle.run_command.specs.declared.output.Words.{Words}
use Rattle.run_command.specs.declared.output.Words.TheVariants.{Plain, Explained}
use Rattle.run_command.specs.declared.output.RunOutput.{RunOutput}
use Rattle.run_command.specs.declared.output.RunOutput.TheVariants.{Lines, History, Journal}

-- the line of an answer, plain or with what it means behind it where it is a refusal
abbrev pub line_with : Words → Answer → List ℕ
line_with Plain answer = line_of answer
line_with Explained answer = explained_line answer

-- what a run writes: the line of each answer in order, or the text or the journal of the history of the recorded calls
abbrev pub output_of : RunOutput → configs.Config → List Call → List Answer → List ℕ
output_of (Lines words) c calls answers = flat_map (line_with words) answers
output_of History c calls answers = history_text c (recorded_entries 0 calls answers)
output_of Journal c calls answers = journal_text c (recorded_entries 0 calls answers)

-- the history where one is asked for, or plain lines
abbrev pub output_asked : Bool → RunOutput
output_asked true = History
output_asked false = Lines Plain

-- The configuration is lawful, and its numbers and those of the entries fit the types of their fields
pub record HistoryFits (c : configs.Config) (h : List Entry) : Type 0 where
  pub lawful : IsLawful c
  pub config : ConfigFits c
  pub entries : AllByRecursion EntryFits h

-- The calls are made one after the other on a scheduler without entries, and the output of their answers is written:
-- the recorded ones make a legal history, call i with seat 0 and ticket i
pub record AnswersEach (output : RunOutput) (c : configs.Config) (calls : List Call)
    (before after : Option (List ℕ)) : Type 0 where
  pub answers : List Answer
  pub each : MayGetEach c [] 0 calls answers
  pub legal : IsLegal c (recorded_entries 0 calls answers)
  -- and where its text is written, its numbers fit, so that the text can be read again
  pub fits : output ≡ History → HistoryFits c (recorded_entries 0 calls answers)
  -- or its journal, of which the same holds
  pub journal_fits : output ≡ Journal → HistoryFits c (recorded_entries 0 calls answers)
  pub written : Appends before after (output_of output c calls answers)

-- The reader's bytes are a script, and the output of its calls' answers was written, and nothing else
pub record Ran (output : RunOutput) (unread left written_before written_after : Option (List ℕ)) : Type 0 where
  pub scenario : Scenario
  pub read : StandsFor unread left scenario
  pub answered : AnswersEach output scenario.config scenario.calls written_before written_after

-- The calls are made, and their output is written, as above, and so many of them were not recorded
pub record AnswersLeaving (output : RunOutput) (c : configs.Config) (calls : List Call)
    (before after : Option (List ℕ)) (unrecorded : ℕ) : Type 0 where
  pub answered : AnswersEach output c calls before after
  pub count : unrecorded + length (recorded_entries 0 calls answered.answers) ≡ length calls

-- The reader's bytes are a script, and the output of its calls' answers was written, and nothing else; and so many of
-- the calls were not recorded
pub record RanLeaving (output : RunOutput) (unread left written_before written_after : Option (List ℕ))
    (unrecorded : ℕ) : Type 0 where
  pub ran : Ran output unread left written_before written_after
  pub count : unrecorded + length (recorded_entries 0 ran.scenario.calls ran.answered.answers)
      ≡ length ran.scenario.calls
