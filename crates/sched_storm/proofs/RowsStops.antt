-- Ends that do not come: each refuses a definition by which a fault might always come.
use Rattle.std.proofs.Common.{◌≡◌, ℕ, List, Option, Some, Ok, Err}
use Rattle.minislots.specs.declared.config.ConfigFault.{ConfigFault}
use Rattle.text_stream.specs.declared.fault.TextFault.{TextFault}
use Rattle.text_stream.proofs.TextTold.{not-told}
use Rattle.script_reading.specs.StormScript.{Storm, storm_outcome}
use Rattle.script_reading.proofs.Told.{storm-has, storm-told}
use Rattle.sched_storm.specs.StormRun.{StopsStorm}
use Rattle.text_stream.specs.declared.fault.TextFault.TheVariants.{TooLong, NotJson, Shape, Config, Output}
use Rattle.text_stream.specs.declared.run_fault.RunFault.TheVariants.{Text, Threads}

module _ (text : List ℕ) (left : Option (List ℕ)) where
  -- neither an output nor a thread fails before a whole script of a storm was read
  pub no_output_before_a_storm : (fault : TextFault) → storm_outcome text ≡ Err fault
      → StopsStorm (Some text) left (Text Output) → ⊥
  no_output_before_a_storm fault is (storm, gives) =
      let whole = storm-has text left (Ok storm) gives in absurd cc

  -- what has a fault is not stopped by a thread that was not started
  pub no_thread_before_a_storm : (fault : TextFault) → storm_outcome text ≡ Err fault
      → StopsStorm (Some text) left Threads → ⊥
  no_thread_before_a_storm fault is (storm, gives) =
      let whole = storm-has text left (Ok storm) gives in absurd cc

  -- a whole script of a storm is not too long, is JSON, and has no broken call and no wrong field
  pub no_fault_of_a_storm : (storm : Storm) (n : ℕ) (field : ConfigFault) → storm_outcome text ≡ Ok storm
      → (StopsStorm (Some text) left (Text TooLong) → ⊥) × (StopsStorm (Some text) left (Text NotJson) → ⊥)
      × (StopsStorm (Some text) left (Text (Shape n)) → ⊥) × (StopsStorm (Some text) left (Text (Config field)) → ⊥)
  no_fault_of_a_storm storm n field whole = (
    λ stops. not-told TooLong _ storm tt whole (storm-told text left TooLong stops),
    λ stops. not-told NotJson _ storm tt whole (storm-told text left NotJson stops),
    λ stops. not-told (Shape n) _ storm tt whole (storm-told text left (Shape n) stops),
    λ stops. not-told (Config field) _ storm tt whole (storm-told text left (Config field) stops),
  )
