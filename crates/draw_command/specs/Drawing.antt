-- What a drawing of a run reads and writes.
use Rattle.std.specs.Prelude.{◌≡◌, ℕ, ◌+◌, Bool, true, false, List, [], length, Option, Ok, Err}
use Rattle.std.specs.List.{AllByRecursion}
use Rattle.std.specs.Io.KnownBytes.{Appends}
use Rattle.minislots.specs.declared.config.Config.{Config}
use Rattle.sched_calls.specs.declared.call.Call.{Call}
use Rattle.sched_calls.specs.declared.reply.Unrecorded.TheVariants.{HistoryFull, Memory}
use Rattle.sched_history.specs.History.{IsLegal}
use Rattle.sched_history.specs.Machine.{Machine}
use Rattle.script_reading.specs.Script.{Scenario}
use Rattle.script_reading.specs.Outcome.{StandsFor}
use Rattle.sched_calls.specs.Reply.{Answer}
use Rattle.frame_picture.specs.declared.span.Span.{Span}
use Rattle.frame_picture.specs.Picture.{plan_text}
use Rattle.sched_history.specs.Answer.{MayGetEach, recorded_entries, MakesCalls}

-- there was no memory for the call with this answer
abbrev pub lacks_memory : Answer → Bool
lacks_memory (Ok reply) = false
lacks_memory (Err HistoryFull) = false
lacks_memory (Err Memory) = true

-- there was memory for each of the calls with these answers
abbrev pub HadMemory : List Answer → Type 0
HadMemory answers = AllByRecursion (λ (a : Answer). lacks_memory a ≡ false) answers

-- from a state of a scheduler without entries these calls, for each of which there was memory, led to another
pub record MakesWhole (old new : Machine) (calls : List Call) : Type 0 where
  pub answers : List Answer
  pub makes : MakesCalls old new calls answers
  pub had_memory : HadMemory answers

-- The calls are made one after the other on a scheduler without entries, there is memory for each, and the picture of
-- their frames in the span, all of which go by the plan, is written: the recorded ones make a legal history, call i
-- with seat 0 and ticket i
pub record Draws (c : Config) (span : Span) (calls : List Call) (before after : Option (List ℕ)) : Type 0 where
  pub answers : List Answer
  pub each : MayGetEach c [] 0 calls answers
  pub legal : IsLegal c (recorded_entries 0 calls answers)
  pub had_memory : HadMemory answers
  pub written : Appends before after (plan_text c span (recorded_entries 0 calls answers))

-- The reader's bytes are a script, and the picture of its frames in the span was written, and nothing else
pub record Drawn (span : Span) (unread left written_before written_after : Option (List ℕ)) : Type 0 where
  pub scenario : Scenario
  pub read : StandsFor unread left scenario
  pub draws : Draws scenario.config span scenario.calls written_before written_after

-- The calls are made and their picture is written, as above, and so many of them were not recorded
pub record DrawsLeaving (c : Config) (span : Span) (calls : List Call) (before after : Option (List ℕ))
    (unrecorded : ℕ) : Type 0 where
  pub draws : Draws c span calls before after
  pub count : unrecorded + length (recorded_entries 0 calls draws.answers) ≡ length calls

-- The reader's bytes are a script, and the picture of its frames in the span was written, and nothing else; and so many
-- of its calls were not recorded
pub record DrawnLeaving (span : Span) (unread left written_before written_after : Option (List ℕ))
    (unrecorded : ℕ) : Type 0 where
  pub drawn : Drawn span unread left written_before written_after
  pub count : unrecorded + length (recorded_entries 0 drawn.scenario.calls drawn.draws.answers)
      ≡ length drawn.scenario.calls
