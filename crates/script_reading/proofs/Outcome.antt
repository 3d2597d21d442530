-- Which faults a text can have, and what is known once all bytes of a reader were read.
use Rattle.std.proofs.Common.{◌≡◌, ℕ, ◌+◌, ◌≤◌, List, ◌∷◌, length, Option, Result}
use Rattle.std.proofs.Common.{Ok, Err, refl, subst, ◌∙◌}
use Rattle.std.specs.Prelude.{◌≢◌, IfOk, IfErr, ok_or, option_and_then, codes}
use Rattle.std.proofs.lemmas.Bool.{le-ltb}
use Rattle.serde_json.specs.Data.{Data, Items, no_items, item}
use Rattle.serde_json.specs.Find.{get, as_array}
use Rattle.minislots.specs.declared.config.Config.{Config as Configuration}
use Rattle.minislots.specs.Config.{first_wrong}
use Rattle.text_stream.specs.declared.input.TheConstants.{MAX_INPUT}
use Rattle.text_stream.specs.declared.fault.TextFault.{TextFault}
use Rattle.text_stream.specs.declared.fault.TextFault.TheVariants.{Input, TooLong, NotJson, Shape, Config, Memory}
use Rattle.text_stream.specs.declared.fault.TextFault.TheVariants.{Output}
use Rattle.json_fields.specs.Fields.{config_of}
use Rattle.call_reading.specs.Calls.{call_of}
use Rattle.text_stream.specs.Input.{Gives}
use Rattle.text_stream.specs.Outcome.{◌>>=◌}
use Rattle.script_reading.specs.Script.{Scenario, calls_of, script_of}
use Rattle.text_stream.specs.Input.{value_of, ReadsAll}
use Rattle.text_stream.specs.Outcome.{unless_wrong}
use Rattle.script_reading.specs.Outcome.{text_outcome, outcome_of, StandsFor, HasFault, StopsScript}
use Rattle.text_stream.proofs.Outcome.{IsOfText, faults-bind, faults-ok_or, faults-value_of, faults-unless_wrong}

-- the fault of calls is one of a text
pub faults-calls_of : (n : ℕ) (ds : Items) → IfErr (calls_of n ds) IsOfText
unfolding calls_of
faults-calls_of n no_items = tt
faults-calls_of n (item d ds) =
    faults-bind (ok_or (call_of d) (Shape n)) (λ call. calls_of (n + 1) ds >>= (λ calls. Ok (call ∷ calls)))
    (faults-ok_or (call_of d) (Shape n) tt)
    (λ call. faults-bind (calls_of (n + 1) ds) (λ calls. Ok (call ∷ calls)) (faults-calls_of (n + 1) ds) (λ calls. tt))

abbrev with_calls : Configuration → Items → Result Scenario TextFault
with_calls config items = calls_of 1 items >>= (λ calls. Ok (record { config = config; calls = calls }))

abbrev with_config : Data → Configuration → Result Scenario TextFault
with_config d config = ok_or (option_and_then as_array (get (codes "calls") d)) (Shape 0) >>= with_calls config

faults-script_of : (d : Data) → IfErr (script_of d) IsOfText
unfolding script_of
faults-script_of d =
    faults-bind (ok_or (option_and_then config_of (get (codes "config") d)) (Shape 0)) (with_config d)
    (faults-ok_or (option_and_then config_of (get (codes "config") d)) (Shape 0) tt) (λ config.
    faults-bind (ok_or (option_and_then as_array (get (codes "calls") d)) (Shape 0)) (with_calls config)
    (faults-ok_or (option_and_then as_array (get (codes "calls") d)) (Shape 0) tt) (λ items.
    faults-bind (calls_of 1 items) (λ calls. Ok (record { config = config; calls = calls })) (faults-calls_of 1 items)
    (λ calls. tt)))

-- a text is not JSON, has a fault of shape, or a wrong configuration
pub faults-text_outcome : (bytes : List ℕ) → IfErr (text_outcome bytes) IsOfText
unfolding text_outcome
faults-text_outcome bytes =
    faults-bind (value_of bytes) (λ d. script_of d >>= (λ scenario. unless_wrong
    (first_wrong scenario.config) scenario)) (faults-value_of bytes) (λ d.
    faults-bind (script_of d) (λ scenario. unless_wrong (first_wrong scenario.config) scenario) (faults-script_of d)
    (λ scenario.
    faults-unless_wrong (first_wrong scenario.config) scenario))

-- of bytes that are not too many, what the text stands for decides
pub outcome_of-short : (bytes : List ℕ) → length bytes ≤ MAX_INPUT → outcome_of bytes ≡ text_outcome bytes
unfolding outcome_of
outcome_of-short bytes short = rw (le-ltb MAX_INPUT (length bytes) short) refl

module _ {X : Type 0} (view : X → Scenario) (old new : Option (List ℕ)) (bytes : List ℕ) where
  -- what was made of all bytes is what they stand for
  pub stands_for : (result : Result X TextFault) → ReadsAll old new bytes → Gives view result (text_outcome bytes)
      → IfOk result (λ x. StandsFor old new (view x))
  stands_for (Ok x) all exact = record { bytes = bytes; all = all; outcome = outcome_of-short bytes all.short ∙ exact }
  stands_for (Err fault) all exact = tt

  of_text : (fault : TextFault) → text_outcome bytes ≡ Err fault → IsOfText fault
  of_text fault e = subst (λ (r : Result Scenario TextFault). IfErr r IsOfText) e (faults-text_outcome bytes)

  has_fault : (fault : TextFault) → ReadsAll old new bytes → text_outcome bytes ≡ Err fault → HasFault old new fault
  has_fault fault all e = record { bytes = bytes; all = all; outcome = outcome_of-short bytes all.short ∙ e }

  stops : (fault : TextFault) → ReadsAll old new bytes → (fault ≢ Memory → text_outcome bytes ≡ Err fault)
      → StopsScript old new fault
  stops Input all exact = tt
  stops TooLong all exact = absurd (of_text TooLong (exact (λ e. cc)))
  stops NotJson all exact = has_fault NotJson all (exact (λ e. cc))
  stops (Shape n) all exact = has_fault (Shape n) all (exact (λ e. cc))
  stops (Config field) all exact = has_fault (Config field) all (exact (λ e. cc))
  stops Memory all exact = tt
  stops Output all exact = of_text Output (exact (λ e. cc))

  -- a fault in all bytes is the one that they have
  pub stops_script : (result : Result X TextFault) → ReadsAll old new bytes → Gives view result (text_outcome bytes)
      → IfErr result (StopsScript old new)
  stops_script (Ok x) all exact = tt
  stops_script (Err fault) all exact = stops fault all exact
