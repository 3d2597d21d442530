-- Ends that do not come: each refuses a definition by which a fault might always come.
use Rattle.std.proofs.Common.{◌≡◌, ℕ, List, Option, Some, Ok, Err}
use Rattle.minislots.specs.declared.config.ConfigFault.{ConfigFault}
use Rattle.text_stream.specs.declared.fault.TextFault.{TextFault}
use Rattle.text_stream.proofs.TextTold.{not-told}
use Rattle.script_reading.specs.Script.{Scenario}
use Rattle.script_reading.specs.Outcome.{outcome_of}
use Rattle.script_reading.proofs.Told.{script-told, script-stands}
use Rattle.script_reading.specs.Stops.{Stops}
use Rattle.text_stream.specs.declared.fault.TextFault.TheVariants.{TooLong, NotJson, Shape, Config, Output}
use Rattle.text_stream.specs.declared.run_fault.RunFault.TheVariants.{Text, Threads}

module _ (text : List ℕ) (left : Option (List ℕ)) where
  -- no output fails before a whole script was read
  pub no_output_before_a_script : (fault : TextFault) → outcome_of text ≡ Err fault
      → Stops (Some text) left (Text Output) → ⊥
  no_output_before_a_script fault is (scenario, stands) =
      let whole = script-stands text left scenario stands in absurd cc

  -- a run starts no thread
  pub no_thread_in_a_run : Stops (Some text) left Threads → ⊥
  no_thread_in_a_run stops = stops

  -- a whole script is not too long, is JSON, and has no broken call and no wrong field
  pub no_fault_of_a_script : (scenario : Scenario) (n : ℕ) (field : ConfigFault) → outcome_of text ≡ Ok scenario
      → (Stops (Some text) left (Text TooLong) → ⊥) × (Stops (Some text) left (Text NotJson) → ⊥)
      × (Stops (Some text) left (Text (Shape n)) → ⊥) × (Stops (Some text) left (Text (Config field)) → ⊥)
  no_fault_of_a_script scenario n field whole = (
    λ stops. not-told TooLong _ scenario tt whole (script-told text left TooLong stops),
    λ stops. not-told NotJson _ scenario tt whole (script-told text left NotJson stops),
    λ stops. not-told (Shape n) _ scenario tt whole (script-told text left (Shape n) stops),
    λ stops. not-told (Config field) _ scenario tt whole (script-told text left (Config field) stops),
  )
