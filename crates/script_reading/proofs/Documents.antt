-- The scripts and the storms in documents that were read item by item.
use Rattle.std.proofs.Common.{◌≡◌, ℕ, ◌+◌, ◌<◌, ◌≤◌, true, List, [], ◌∷◌, length, Vec, Global, Some}
use Rattle.std.proofs.Common.{Ok, refl, sym, ap, ◌∙◌, arith}
use Rattle.std.specs.Prelude.{codes, option_and_then}
use Rattle.serde_json.specs.Data.{Data}
use Rattle.serde_json.specs.Find.{as_array}
use Rattle.serde_json.specs.View.{items_of}
use Rattle.minislots.specs.Config.{first_wrong}
use Rattle.minislots.specs.declared.config.Config.{Config}
use Rattle.sched_calls.specs.declared.call.Call.{Call}
use Rattle.call_reading.specs.Calls.{call_of}
use Rattle.text_stream.specs.Input.{value_of}
use Rattle.json_fields.specs.Listed.{StandEach, IsListOf, IsDocument}
use Rattle.text_stream.specs.Outcome.{unless_wrong}
use Rattle.script_reading.specs.Outcome.{text_outcome}
use Rattle.text_stream.specs.Outcome.{◌>>=◌}
use Rattle.script_reading.specs.Script.{calls_of, script_of}
use Rattle.script_reading.specs.StormScript.{calls_each, are_arrays, are_scripts, scripts_of, storm_of}
use Rattle.json_fields.specs.Listed.{count_of}
use Rattle.script_reading.specs.StormScript.{storm_text}
use Rattle.script_reading.specs.Usual.{script_text, scripts_text}
use Rattle.script_reading.proofs.StormCalls.{are_scripts-few}
use Rattle.text_stream.proofs.Outcome.{then_tested}

abbrev IsCall : Data → Call → Type 0
IsCall d call = call_of d ≡ Some call

abbrev AreCalls : Data → Vec Call Global → Type 0
AreCalls d calls = IsListOf IsCall d calls.items

-- calls that were all read
calls_in : (ds : List Data) (calls : List Call) → StandEach IsCall ds calls → (n : ℕ)
    → calls_of n (items_of ds) ≡ Ok calls
unfolding calls_of
calls_in [] [] each n = refl
calls_in [] (call ∷ calls) each n = absurd each
calls_in (d ∷ ds) [] each n = absurd each
calls_in (d ∷ ds) (call ∷ calls) each n = rw each.0 (rw (calls_in ds calls each.1 (n + 1)) refl)

-- scripts that were all read
scripts_in : (ds : List Data) (scripts : List (Vec Call Global)) → StandEach AreCalls ds scripts
    → (before : ℕ) → scripts_of before (items_of ds) ≡ Ok (calls_each scripts)
unfolding scripts_of
scripts_in [] [] each before = refl
scripts_in [] (script ∷ scripts) each before = absurd each
scripts_in (d ∷ ds) [] each before = absurd each
scripts_in (d ∷ ds) (script ∷ scripts) each before =
    let array : as_array d ≡ Some (items_of each.0.items) = ap as_array each.0.array_is in
    rw array (rw (calls_in each.0.items script.items each.0.each (before + 1))
    (rw (scripts_in ds scripts each.1 (before + length script.items)) refl))

arrays_in : (ds : List Data) (scripts : List (Vec Call Global)) → StandEach AreCalls ds scripts
    → are_arrays (items_of ds) ≡ true
arrays_in [] [] each = refl
arrays_in [] (script ∷ scripts) each = absurd each
arrays_in (d ∷ ds) [] each = absurd each
arrays_in (d ∷ ds) (script ∷ scripts) each =
    let array : as_array d ≡ Some (items_of each.0.items) = ap as_array each.0.array_is in
    rw array (arrays_in ds scripts each.1)

count_in : (ds : List Data) (scripts : List (Vec Call Global)) → StandEach AreCalls ds scripts
    → count_of (items_of ds) ≡ length scripts
count_in [] [] each = refl
count_in [] (script ∷ scripts) each = absurd each
count_in (d ∷ ds) [] each = absurd each
count_in (d ∷ ds) (script ∷ scripts) each = let e = count_in ds scripts each.1 in omega (arith, e)

module _ (bytes : List ℕ) (d : Data) (config : Config) (is : value_of bytes ≡ Ok d) where
  -- a document with calls is a script
  pub script_in_document : (calls : Vec Call Global) → IsDocument AreCalls (codes "calls") d config calls
      → script_text bytes ≡ Ok (record { config = config; calls = calls.items })
  unfolding script_of
  script_in_document calls has =
      let found = ap (option_and_then as_array) has.listed_is ∙ ap as_array has.stands.array_is in
      ap (λ r. r >>= script_of) is
      ∙ rw has.config_is (rw found (rw (calls_in has.stands.items calls.items has.stands.each 1) refl))

  -- a document with scripts, not none and not too many, is a storm
  pub storm_in_document : (scripts : Vec (Vec Call Global) Global)
      → IsDocument (λ e ss. IsListOf AreCalls e ss.items) (codes "scripts") d config scripts
      → 0 < length scripts.items → length scripts.items ≤ 16
      → scripts_text bytes ≡ Ok (record { config = config; scripts = calls_each scripts.items })
  unfolding storm_of
  storm_in_document scripts has some few =
      let ds = has.stands.items in
      let each = has.stands.each in
      let found = ap (option_and_then as_array) has.listed_is ∙ ap as_array has.stands.array_is in
      let count = count_in ds scripts.items each in
      let lawful : are_scripts (items_of ds) ≡ true = sym (are_scripts-few (items_of ds)
      (omega (arith, count, some)) (omega (arith, count, few))) ∙ arrays_in ds scripts.items each in
      ap (λ r. r >>= storm_of) is
      ∙ rw has.config_is (rw found (rw lawful (rw (scripts_in ds scripts.items each 0) refl)))

-- what a text stands for: its script, once its configuration is tested
pub script_tested_behind : (bytes : List ℕ)
    → text_outcome bytes ≡ script_text bytes >>= (λ scenario. unless_wrong (first_wrong scenario.config) scenario)
unfolding text_outcome
script_tested_behind bytes = sym (then_tested (value_of bytes) script_of
    (λ scenario. unless_wrong (first_wrong scenario.config) scenario))

-- what a text stands for: its storm, once its configuration is tested
pub storm_tested_behind : (bytes : List ℕ)
    → storm_text bytes ≡ scripts_text bytes >>= (λ storm. unless_wrong (first_wrong storm.config) storm)
unfolding storm_text
storm_tested_behind bytes = sym (then_tested (value_of bytes) storm_of
    (λ storm. unless_wrong (first_wrong storm.config) storm))
