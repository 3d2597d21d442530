-- What a storm reads and writes.
use Rattle.std.specs.Prelude.{◌≡◌, ◌↔◌, ℕ, Bool, true, List, length, Option, None, Ok}
use Rattle.std.specs.Io.KnownBytes.{Appends}
use Rattle.text_stream.specs.declared.run_fault.RunFault.{RunFault}
use Rattle.sched_storm.specs.declared.tally.Tally.{Tally}
use Rattle.script_reading.specs.StormScript.{Storm, GivesStorm, StopsStormScript}
use Rattle.sched_storm.specs.Storm.{IsGatedTally}
use Rattle.sched_storm.specs.StormLines.{tally_text}
use Rattle.text_stream.specs.declared.fault.TextFault.TheVariants.{Input, TooLong, NotJson, Shape, Config, Memory}
use Rattle.text_stream.specs.declared.fault.TextFault.TheVariants.{Output}
use Rattle.text_stream.specs.declared.run_fault.RunFault.TheVariants.{Text, Threads}

-- the reader's bytes are a script of a storm, and the lines of a tally of it were written, and nothing else, one under
-- a gate of which this is so where it lets a worker pass to the call at a place, and this where it does not; the answer
-- is whether no worker was held and the audit found the history legal
pub record Stormed (passes holds : ℕ → ℕ → Type 0) (unread left written_before written_after : Option (List ℕ))
    (free : Bool) : Type 0 where
  pub storm : Storm
  pub read : GivesStorm unread left (Ok storm)
  pub tally : Tally
  pub tally_is : IsGatedTally passes holds storm.config storm.scripts tally
  pub written : Appends written_before written_after (tally_text (length storm.scripts) tally)
  pub free_is : free ≡ true ↔ ((tally.held ≡ None) × (tally.legal ≡ true))

-- why a storm ends: there is no script, or a thread or a write was tried after a whole one was read
abbrev pub StopsStorm : Option (List ℕ) → Option (List ℕ) → RunFault → Type 0
StopsStorm unread left (Text Input) = StopsStormScript unread left Input
StopsStorm unread left (Text TooLong) = StopsStormScript unread left TooLong
StopsStorm unread left (Text NotJson) = StopsStormScript unread left NotJson
StopsStorm unread left (Text (Shape n)) = StopsStormScript unread left (Shape n)
StopsStorm unread left (Text (Config field)) = StopsStormScript unread left (Config field)
StopsStorm unread left (Text Memory) = StopsStormScript unread left Memory
StopsStorm unread left (Text Output) = (storm : Storm) × GivesStorm unread left (Ok storm)
StopsStorm unread left Threads = (storm : Storm) × GivesStorm unread left (Ok storm)
