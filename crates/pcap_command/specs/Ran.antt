-- What a run on the channel reads and writes.
use Rattle.std.specs.Prelude.{◌≡◌, ℕ, ◌+◌, List, [], length, Option}
use Rattle.std.specs.Io.KnownBytes.{Appends}
use Rattle.minislots.specs.declared.config.Config as configs
use Rattle.sched_calls.specs.declared.call.Call.{Call}
use Rattle.sched_history.specs.History.{IsLegal}
use Rattle.script_reading.specs.Script.{Scenario}
use Rattle.script_reading.specs.Outcome.{StandsFor}
use Rattle.sched_calls.specs.Reply.{Answer}
use Rattle.sched_history.specs.Answer.{MayGetEach, recorded_entries}
use Rattle.pcap_command.specs.declared.output.WireOutput.{WireOutput}
use Rattle.pcap_command.specs.Capture.{wire_text}

-- The calls are made one after the other on a scheduler without entries, and what their answers put on the channel is
-- written: the recorded ones make a legal history, call i with seat 0 and ticket i, and so many were not recorded
pub record PutsOnWire (output : WireOutput) (address : List ℕ) (c : configs.Config) (calls : List Call)
    (before after : Option (List ℕ)) (unrecorded : ℕ) : Type 0 where
  pub answers : List Answer
  pub each : MayGetEach c [] 0 calls answers
  pub legal : IsLegal c (recorded_entries 0 calls answers)
  pub written : Appends before after (wire_text output c address answers)
  pub count : unrecorded + length (recorded_entries 0 calls answers) ≡ length calls

-- The reader's bytes are a script, and what its calls' answers put on the channel was written, and nothing else
pub record RanOnWire (output : WireOutput) (address : List ℕ)
    (unread left written_before written_after : Option (List ℕ)) (unrecorded : ℕ) : Type 0 where
  pub scenario : Scenario
  pub read : StandsFor unread left scenario
  pub answered : PutsOnWire output address scenario.config scenario.calls written_before written_after unrecorded
