-- What the command reads and writes.
use Rattle.std.specs.Prelude.{ℕ, List, [], ◌∷◌, ◌++◌, Option, Ok}
use Rattle.std.specs.Io.KnownBytes.{Appends}
use Rattle.text_stream.specs.declared.fault.TextFault.TheVariants.{Input, TooLong, NotJson, Shape, Config, Memory}
use Rattle.text_stream.specs.declared.fault.TextFault.TheVariants.{Output}
use Rattle.text_stream.specs.declared.run_fault.RunFault.{RunFault}
use Rattle.text_stream.specs.declared.run_fault.RunFault.TheVariants.{Text, Threads}
use Rattle.bursts_command.specs.declared.channel.Channel.{Channel}
use Rattle.bursts_command.specs.declared.command.BurstsForm.{BurstsForm}
use Rattle.bursts_command.specs.declared.command.BurstsForm.TheVariants.{Table, Json}
use Rattle.bursts_command.specs.Channel.{GivesChannel, StopsChannel}
use Rattle.bursts_command.specs.Table.{table_text}
use Rattle.bursts_command.specs.Json.{json_text}

-- the sizes that are always told: those in which frames are counted by habit, from the shortest to the longest
abbrev pub usual_sizes : List ℕ
usual_sizes = 64 ∷ 128 ∷ 256 ∷ 512 ∷ 1024 ∷ 1522 ∷ []

-- the text in a form
abbrev pub text_in : BurstsForm → Channel → List ℕ → List ℕ
text_in Table channel sizes = table_text channel sizes
text_in Json channel sizes = json_text channel sizes

-- The reader's bytes stand for a channel, and what was written is its bursts of the usual sizes and of these more
pub record TellsBursts (form : BurstsForm) (more : List ℕ) (unread left before after : Option (List ℕ)) : Type 0 where
  pub channel : Channel
  pub read : GivesChannel unread left (Ok channel)
  pub written : Appends before after (text_in form channel (usual_sizes ++ more))

-- why the command ends: there is no channel, or a write was tried after one was read; where memory runs out nothing
-- more is told
abbrev pub StopsBursts : Option (List ℕ) → Option (List ℕ) → RunFault → Type 0
StopsBursts unread left (Text Input) = StopsChannel unread left Input
StopsBursts unread left (Text TooLong) = StopsChannel unread left TooLong
StopsBursts unread left (Text NotJson) = StopsChannel unread left NotJson
StopsBursts unread left (Text (Shape n)) = StopsChannel unread left (Shape n)
StopsBursts unread left (Text (Config field)) = StopsChannel unread left (Config field)
StopsBursts unread left (Text Memory) = Unit {0}
StopsBursts unread left (Text Output) = (channel : Channel) × GivesChannel unread left (Ok channel)
StopsBursts unread left Threads = ⊥
