-- Worked texts: the fault of each, and that another fault does not stop it.
use Rattle.std.proofs.Common.{◌≡◌, ℕ, List, [], ◌∷◌, ◌++◌, codes, Option, Some, Ok, Err, inl, inr, refl}
use Rattle.std.specs.Prelude.{◌⊎◌}
use Rattle.std.specs.Char.{encode_utf8}
use Rattle.std.specs.Str.{is_utf8, chars}
use Rattle.serde_json.proofs.OnLiterals.{serde_json_on_literals}
use Rattle.minislots.specs.Config.{first_wrong}
use Rattle.minislots.specs.declared.config.ConfigFault.TheVariants.{Ticks, OpenIdle, Settle}
use Rattle.sched_calls.proofs.Base.{base}
use Rattle.sched_calls.specs.declared.call.Call.TheVariants.{Build}
use Rattle.text_stream.specs.declared.fault.TextFault.{TextFault}
use Rattle.text_stream.specs.declared.fault.TextFault.TheVariants.{Input, NotJson, Shape, Config, Memory}
use Rattle.json_fields.specs.Fields.{config_of, slots_of, sizes_of, counts_of, windows_of, u8_or, u8_at, u16_at, u32_at}
use Rattle.json_fields.specs.Fields.{u64_at, number_at, text_at, bursts_of, uniform_of, limits_of, idles_of}
use Rattle.json_fields.specs.Fields.{u32_or}
use Rattle.call_reading.specs.Calls.{call_of, build_call}
use Rattle.script_reading.specs.Script.{calls_of, script_of}
use Rattle.text_stream.specs.Input.{value_of}
use Rattle.script_reading.specs.Outcome.{text_outcome, outcome_of, StopsScript}
use Rattle.script_reading.specs.StormScript.{are_scripts, scripts_of, storm_of, storm_text, storm_outcome}
use Rattle.script_reading.specs.StormScript.{StopsStormScript}
use Rattle.script_reading.proofs.Told.{script-told, storm-told}

-- a document with a configuration of so many ticks, and these members behind it
abbrev document : List ℕ → List ℕ → List ℕ
document ticks more =
    codes "{\"config\":{\"bytes_per_slot\":16,\"calls\":1000,\"channel\":3,\"cycle\":20,\"data_end\":0," ++ (
    codes "\"data_start\":0,\"frame\":40,\"grant_cap\":2000,\"lead\":40,\"overhead\":2,\"poll_slots\":2," ++ (
    codes "\"quantum\":64,\"ranging_end\":0,\"ranging_start\":0,\"receivers\":1,\"req_slots\":4," ++ (
    codes "\"short_max\":8,\"start\":800,\"ticks\":" ++ (ticks
    ++ (codes ",\"ucd_count\":1}," ++ (more ++ codes "}"))))))

-- a build, and an object that is no call
abbrev build : List ℕ
build = codes "{\"call\":\"build\",\"now\":760}"

abbrev broken : List ℕ
broken = codes "{}"

-- a script
abbrev whole : List ℕ
whole = document (codes "4") (codes "\"calls\":[" ++ (build ++ codes "]"))

a_script : outcome_of whole ≡ Ok (record { config = base; calls = Build 760 ∷ [] })
unfolding outcome_of text_outcome value_of script_of calls_of config_of slots_of bursts_of uniform_of sizes_of
    counts_of windows_of limits_of idles_of u8_or u32_or u8_at u16_at u32_at u64_at number_at text_at call_of build_call
    first_wrong is_utf8 chars encode_utf8 serde_json_on_literals
a_script = refl

-- nothing but the machine stops its reading
a_script_has_no_fault : (new : Option (List ℕ)) (fault : TextFault) → StopsScript (Some whole) new fault
    → (fault ≡ Input) ⊎ (fault ≡ Memory)
a_script_has_no_fault new fault stops = elim (script-told whole new fault stops) [
  | inl input ↦ inl input
  | inr (inl memory) ↦ inr memory
  | inr (inr is) ↦ let none = a_script in cc
]

-- a text that is no JSON, and one that is but is no script
a_broken_text : outcome_of (codes "{") ≡ Err NotJson
unfolding outcome_of text_outcome value_of script_of calls_of config_of slots_of bursts_of uniform_of sizes_of
    counts_of windows_of limits_of idles_of u8_or u32_or u8_at u16_at u32_at u64_at number_at text_at call_of build_call
    first_wrong is_utf8 chars encode_utf8 serde_json_on_literals
a_broken_text = refl

an_empty_object : outcome_of (codes "{}") ≡ Err (Shape 0)
unfolding outcome_of text_outcome value_of script_of calls_of config_of slots_of bursts_of uniform_of sizes_of
    counts_of windows_of limits_of idles_of u8_or u32_or u8_at u16_at u32_at u64_at number_at text_at call_of build_call
    first_wrong is_utf8 chars encode_utf8 serde_json_on_literals
an_empty_object = refl

-- that it is no JSON does not stop an empty object
an_empty_object_is_json : (new : Option (List ℕ)) → StopsScript (Some (codes "{}")) new NotJson → ⊥
an_empty_object_is_json new stops = elim (script-told (codes "{}") new NotJson stops) [
  | inl input ↦ cc
  | inr (inl memory) ↦ cc
  | inr (inr is) ↦ let shape = an_empty_object in cc
]

-- a script of two calls that are none, under a wrong configuration
abbrev two_broken : List ℕ
two_broken = document (codes "3") (codes "\"calls\":[" ++ (broken ++ (codes "," ++ (broken ++ codes "]"))))

the_first_broken_call : outcome_of two_broken ≡ Err (Shape 1)
unfolding outcome_of text_outcome value_of script_of calls_of config_of slots_of bursts_of uniform_of sizes_of
    counts_of windows_of limits_of idles_of u8_or u32_or u8_at u16_at u32_at u64_at number_at text_at call_of build_call
    first_wrong is_utf8 chars encode_utf8 serde_json_on_literals
the_first_broken_call = refl

-- it stops at the first of them, and not for its configuration
it_stops_at_the_first_call : (new : Option (List ℕ)) (n : ℕ) → StopsScript (Some two_broken) new (Shape n) → n ≡ 1
it_stops_at_the_first_call new n stops = elim (script-told two_broken new (Shape n) stops) [
  | inl input ↦ cc
  | inr (inl memory) ↦ cc
  | inr (inr is) ↦ let first = the_first_broken_call in cc
]

its_configuration_does_not_stop_it : (new : Option (List ℕ)) → StopsScript (Some two_broken) new (Config Ticks) → ⊥
its_configuration_does_not_stop_it new stops = elim (script-told two_broken new (Config Ticks) stops) [
  | inl input ↦ cc
  | inr (inl memory) ↦ cc
  | inr (inr is) ↦ let first = the_first_broken_call in cc
]

-- the same without a call: now it is the configuration
a_wrong_configuration : outcome_of (document (codes "3") (codes "\"calls\":[]")) ≡ Err (Config Ticks)
unfolding outcome_of text_outcome value_of script_of calls_of config_of slots_of bursts_of uniform_of sizes_of
    counts_of windows_of limits_of idles_of u8_or u32_or u8_at u16_at u32_at u64_at number_at text_at call_of build_call
    first_wrong is_utf8 chars encode_utf8 serde_json_on_literals
a_wrong_configuration = refl

-- idles that are open and a new UCD that settles, in a script without calls
abbrev idling : List ℕ → List ℕ
idling fields = document (codes "4," ++ fields) (codes "\"calls\":[]")

open_and_settling : outcome_of (idling (codes "\"open_idle\":1,\"settle\":4096"))
    ≡ Ok (record { config = record base { open_idle = 1; settle = 4096 }; calls = [] })
unfolding outcome_of text_outcome value_of script_of calls_of config_of slots_of bursts_of uniform_of sizes_of
    counts_of windows_of limits_of idles_of u8_or u32_or u8_at u16_at u32_at u64_at number_at text_at call_of build_call
    first_wrong is_utf8 chars encode_utf8 serde_json_on_literals
open_and_settling = refl

-- 0 is what each of them is where it is missing
neither : outcome_of (idling (codes "\"settle\":0,\"open_idle\":0")) ≡ Ok (record { config = base; calls = [] })
unfolding outcome_of text_outcome value_of script_of calls_of config_of slots_of bursts_of uniform_of sizes_of
    counts_of windows_of limits_of idles_of u8_or u32_or u8_at u16_at u32_at u64_at number_at text_at call_of build_call
    first_wrong is_utf8 chars encode_utf8 serde_json_on_literals
neither = refl

-- open idles are tested before settling
too_open : outcome_of (idling (codes "\"settle\":4097,\"open_idle\":2")) ≡ Err (Config OpenIdle)
unfolding outcome_of text_outcome value_of script_of calls_of config_of slots_of bursts_of uniform_of sizes_of
    counts_of windows_of limits_of idles_of u8_or u32_or u8_at u16_at u32_at u64_at number_at text_at call_of build_call
    first_wrong is_utf8 chars encode_utf8 serde_json_on_literals
too_open = refl

too_long_settling : outcome_of (idling (codes "\"settle\":4097")) ≡ Err (Config Settle)
unfolding outcome_of text_outcome value_of script_of calls_of config_of slots_of bursts_of uniform_of sizes_of
    counts_of windows_of limits_of idles_of u8_or u32_or u8_at u16_at u32_at u64_at number_at text_at call_of build_call
    first_wrong is_utf8 chars encode_utf8 serde_json_on_literals
too_long_settling = refl

-- and one that is there and no number is not missing
settling_of_null : outcome_of (idling (codes "\"settle\":null")) ≡ Err (Shape 0)
unfolding outcome_of text_outcome value_of script_of calls_of config_of slots_of bursts_of uniform_of sizes_of
    counts_of windows_of limits_of idles_of u8_or u32_or u8_at u16_at u32_at u64_at number_at text_at call_of build_call
    first_wrong is_utf8 chars encode_utf8 serde_json_on_literals
settling_of_null = refl

-- two scripts of a storm: the second has a call that is none, which is the second of all
abbrev storm : List ℕ
storm = document (codes "4") (codes "\"scripts\":[[" ++ (build ++ (codes "],[" ++ (broken ++ codes "]]"))))

the_second_call_of_a_storm : storm_outcome storm ≡ Err (Shape 2)
unfolding storm_outcome storm_text value_of storm_of are_scripts scripts_of calls_of config_of slots_of bursts_of
    uniform_of sizes_of counts_of windows_of limits_of idles_of u8_or u32_or u8_at u16_at u32_at u64_at number_at
    text_at call_of build_call first_wrong is_utf8 chars encode_utf8 serde_json_on_literals
the_second_call_of_a_storm = refl

it_stops_at_the_second_call : (new : Option (List ℕ)) (n : ℕ) → StopsStormScript (Some storm) new (Shape n) → n ≡ 2
it_stops_at_the_second_call new n stops = elim (storm-told storm new (Shape n) stops) [
  | inl input ↦ cc
  | inr (inl memory) ↦ cc
  | inr (inr is) ↦ let second = the_second_call_of_a_storm in cc
]
