-- What stops the reading of a text: the machine, or the one fault that the text has.
use Rattle.std.proofs.Common.{◌≡◌, ℕ, ◌<◌, List, length, Option, Some, Result, Ok, Err}
use Rattle.std.proofs.Common.{inl, inr, refl, sym, ap, ◌∙◌}
use Rattle.std.proofs.lemmas.Bool.{lt-ltb}
use Rattle.text_stream.specs.declared.input.TheConstants.{MAX_INPUT}
use Rattle.text_stream.specs.declared.fault.TextFault.{TextFault}
use Rattle.text_stream.specs.declared.fault.TextFault.TheVariants.{Input, TooLong, NotJson, Shape, Config, Memory}
use Rattle.text_stream.specs.declared.fault.TextFault.TheVariants.{Output}
use Rattle.script_reading.specs.Script.{Scenario}
use Rattle.script_reading.specs.Outcome.{outcome_of, StandsFor, HasFault, StopsScript}
use Rattle.script_reading.specs.StormScript.{Storm, storm_outcome, GivesStorm, StopsStormScript}
use Rattle.text_stream.proofs.TextTold.{all_bytes, too_many, IsTold}

script-too_long : (text : List ℕ) → MAX_INPUT < length text → outcome_of text ≡ Err TooLong
unfolding outcome_of
script-too_long text long = rw (lt-ltb MAX_INPUT (length text) long) refl

storm-too_long : (text : List ℕ) → MAX_INPUT < length text → storm_outcome text ≡ Err TooLong
unfolding storm_outcome
storm-too_long text long = rw (lt-ltb MAX_INPUT (length text) long) refl

module _ (text : List ℕ) (new : Option (List ℕ)) where
  script-has : (fault : TextFault) → HasFault (Some text) new fault → outcome_of text ≡ Err fault
  script-has fault has = ap outcome_of (sym (all_bytes text new has.bytes has.all)) ∙ has.outcome

  -- a script stops by the fault of its text alone
  pub script-told : (fault : TextFault) → StopsScript (Some text) new fault → IsTold fault (outcome_of text)
  script-told Input stops = inl refl
  script-told TooLong stops = inr (inr (script-too_long text (too_many text new stops)))
  script-told NotJson stops = inr (inr (script-has NotJson stops))
  script-told (Shape n) stops = inr (inr (script-has (Shape n) stops))
  script-told (Config field) stops = inr (inr (script-has (Config field) stops))
  script-told Memory stops = inr (inl refl)
  script-told Output stops = absurd stops

  -- a scenario is what the text stands for
  pub script-stands : (scenario : Scenario) → StandsFor (Some text) new scenario → outcome_of text ≡ Ok scenario
  script-stands scenario stands = ap outcome_of (sym (all_bytes text new stands.bytes stands.all)) ∙ stands.outcome

  -- what is given for a storm, a storm or its fault, is what the text stands for
  pub storm-has : (outcome : Result Storm TextFault) → GivesStorm (Some text) new outcome → storm_outcome text ≡ outcome
  storm-has outcome has = ap storm_outcome (sym (all_bytes text new has.bytes has.all)) ∙ has.outcome_is

  -- the script of a storm stops by the fault of its text alone
  pub storm-told : (fault : TextFault) → StopsStormScript (Some text) new fault → IsTold fault (storm_outcome text)
  storm-told Input stops = inl refl
  storm-told TooLong stops = inr (inr (storm-too_long text (too_many text new stops)))
  storm-told NotJson stops = inr (inr (storm-has (Err NotJson) stops))
  storm-told (Shape n) stops = inr (inr (storm-has (Err (Shape n)) stops))
  storm-told (Config field) stops = inr (inr (storm-has (Err (Config field)) stops))
  storm-told Memory stops = inr (inl refl)
  storm-told Output stops = absurd stops
