-- Which faults the text of a storm can have, and what is known once all bytes of a reader were read.
use Rattle.std.proofs.Common.{◌≡◌, ℕ, ◌+◌, ◌≤◌, cond, List, ◌∷◌, length, Option, Result, Ok, Err, refl, subst, ◌∙◌}
use Rattle.std.specs.Prelude.{◌≢◌, IfOk, IfErr, ok_or, option_and_then, codes}
use Rattle.std.proofs.lemmas.Bool.{le-ltb}
use Rattle.serde_json.specs.Data.{Data, Items, no_items, item}
use Rattle.serde_json.specs.Find.{get, as_array}
use Rattle.minislots.specs.declared.config.Config.{Config as Configuration}
use Rattle.minislots.specs.Config.{first_wrong}
use Rattle.text_stream.specs.declared.input.TheConstants.{MAX_INPUT}
use Rattle.text_stream.specs.declared.fault.TextFault.{TextFault}
use Rattle.text_stream.specs.declared.fault.TextFault.TheVariants.{Input, TooLong, NotJson, Shape, Config, Memory}
use Rattle.text_stream.specs.declared.fault.TextFault.TheVariants.{Output}
use Rattle.json_fields.specs.Fields.{config_of}
use Rattle.text_stream.specs.Input.{Gives}
use Rattle.text_stream.specs.Outcome.{◌>>=◌}
use Rattle.script_reading.specs.Script.{calls_of}
use Rattle.text_stream.specs.Input.{value_of, ReadsAll}
use Rattle.script_reading.specs.StormScript.{Storm, are_scripts, scripts_of, storm_of, storm_text, storm_outcome}
use Rattle.script_reading.specs.StormScript.{GivesStorm, StopsStormScript}
use Rattle.text_stream.specs.Outcome.{unless_wrong}
use Rattle.text_stream.proofs.Outcome.{IsOfText, faults-bind, faults-ok_or, faults-cond, faults-value_of}
use Rattle.script_reading.proofs.Outcome.{faults-calls_of}
use Rattle.text_stream.proofs.Outcome.{faults-unless_wrong}

faults-scripts_of : (before : ℕ) (ds : Items) → IfErr (scripts_of before ds) IsOfText
unfolding scripts_of
faults-scripts_of before no_items = tt
faults-scripts_of before (item d ds) =
    faults-bind (ok_or (as_array d) (Shape 0)) (λ items. calls_of (before + 1) items >>=
    (λ calls. scripts_of (before + length calls) ds >>= (λ scripts. Ok (calls ∷ scripts))))
    (faults-ok_or (as_array d) (Shape 0) tt)
    (λ items. faults-bind (calls_of (before + 1) items) (λ calls. scripts_of (before + length calls) ds >>=
    (λ scripts. Ok (calls ∷ scripts))) (faults-calls_of (before + 1) items)
    (λ calls. faults-bind (scripts_of (before + length calls) ds) (λ scripts. Ok (calls ∷ scripts))
    (faults-scripts_of (before + length calls) ds) (λ scripts. tt)))

abbrev with_arrays : Configuration → Items → Result Storm TextFault
with_arrays config arrays = scripts_of 0 arrays >>= (λ scripts. Ok (record { config = config; scripts = scripts }))

abbrev with_items : Configuration → Items → Result Storm TextFault
with_items config items = cond (are_scripts items) (Ok items) (Err (Shape 0)) >>= with_arrays config

abbrev with_configuration : Data → Configuration → Result Storm TextFault
with_configuration d config = ok_or (option_and_then as_array (get (codes "scripts") d)) (Shape 0) >>= with_items config

faults-storm_of : (d : Data) → IfErr (storm_of d) IsOfText
unfolding storm_of
faults-storm_of d =
    faults-bind (ok_or (option_and_then config_of (get (codes "config") d)) (Shape 0)) (with_configuration d)
    (faults-ok_or (option_and_then config_of (get (codes "config") d)) (Shape 0) tt) (λ config.
    faults-bind (ok_or (option_and_then as_array (get (codes "scripts") d)) (Shape 0)) (with_items config)
    (faults-ok_or (option_and_then as_array (get (codes "scripts") d)) (Shape 0) tt) (λ items.
    faults-bind (cond (are_scripts items) (Ok items) (Err (Shape 0))) (with_arrays config)
    (faults-cond (are_scripts items) (Ok items) (Shape 0) tt tt) (λ arrays.
    faults-bind (scripts_of 0 arrays) (λ scripts. Ok (record { config = config; scripts = scripts }))
    (faults-scripts_of 0 arrays) (λ scripts. tt))))

-- what the text of a storm has is a fault of a text
pub faults-storm_text : (bytes : List ℕ) → IfErr (storm_text bytes) IsOfText
unfolding storm_text
faults-storm_text bytes =
    faults-bind (value_of bytes) (λ d. storm_of d >>= (λ storm. unless_wrong (first_wrong storm.config) storm))
    (faults-value_of bytes) (λ d.
    faults-bind (storm_of d) (λ storm. unless_wrong (first_wrong storm.config) storm) (faults-storm_of d)
    (λ storm. faults-unless_wrong (first_wrong storm.config) storm))

-- of bytes that are not too many, what the text stands for decides
pub storm_outcome-short : (bytes : List ℕ) → length bytes ≤ MAX_INPUT → storm_outcome bytes ≡ storm_text bytes
unfolding storm_outcome
storm_outcome-short bytes short = rw (le-ltb MAX_INPUT (length bytes) short) refl

module _ {X : Type 0} (view : X → Storm) (old new : Option (List ℕ)) (bytes : List ℕ) where
  -- what was made of all bytes is what they stand for
  pub gives_storm : (result : Result X TextFault) → ReadsAll old new bytes → Gives view result (storm_text bytes)
      → IfOk result (λ x. GivesStorm old new (Ok (view x)))
  gives_storm (Ok x) all exact = record {
    bytes = bytes;
    all = all;
    outcome_is = storm_outcome-short bytes all.short
        ∙ exact;
  }
  gives_storm (Err fault) all exact = tt

  of_text : (fault : TextFault) → storm_text bytes ≡ Err fault → IsOfText fault
  of_text fault e = subst (λ (r : Result Storm TextFault). IfErr r IsOfText) e (faults-storm_text bytes)

  has_fault : (fault : TextFault) → ReadsAll old new bytes → storm_text bytes ≡ Err fault
      → GivesStorm old new (Err fault)
  has_fault fault all e = record { bytes = bytes; all = all; outcome_is = storm_outcome-short bytes all.short ∙ e }

  stops : (fault : TextFault) → ReadsAll old new bytes → (fault ≢ Memory → storm_text bytes ≡ Err fault)
      → StopsStormScript old new fault
  stops Input all exact = tt
  stops TooLong all exact = absurd (of_text TooLong (exact (λ e. cc)))
  stops NotJson all exact = has_fault NotJson all (exact (λ e. cc))
  stops (Shape n) all exact = has_fault (Shape n) all (exact (λ e. cc))
  stops (Config field) all exact = has_fault (Config field) all (exact (λ e. cc))
  stops Memory all exact = tt
  stops Output all exact = absurd (of_text Output (exact (λ e. cc)))

  -- a fault in all bytes is the one that they have
  pub stops_storm : (result : Result X TextFault) → ReadsAll old new bytes → Gives view result (storm_text bytes)
      → IfErr result (StopsStormScript old new)
  stops_storm (Ok x) all exact = tt
  stops_storm (Err fault) all exact = stops fault all exact
