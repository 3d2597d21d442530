-- Worked texts of scripts with burst descriptors: what each stands for, or its fault.
use Rattle.std.proofs.Common.{◌≡◌, ℕ, List, [], ◌++◌, codes, Ok, Err, refl}
use Rattle.std.specs.Char.{encode_utf8}
use Rattle.std.specs.Str.{is_utf8, chars}
use Rattle.serde_json.proofs.OnLiterals.{serde_json_on_literals}
use Rattle.minislots.specs.Bursts.{slots_by}
use Rattle.minislots.specs.Config.{first_wrong}
use Rattle.minislots.specs.declared.bursts.Bursts.TheVariants.{Described}
use Rattle.minislots.specs.declared.bursts.Profile.{Profile}
use Rattle.minislots.specs.declared.config.ConfigFault.TheVariants.{Ticks, Bursts}
use Rattle.sched_calls.proofs.Base.{base}
use Rattle.text_stream.specs.declared.fault.TextFault.TheVariants.{Shape, Config}
use Rattle.json_fields.specs.Fields.{config_of, slots_of, bursts_of, uniform_of, descriptors_of, profile_at, profile_of}
use Rattle.json_fields.specs.Fields.{sizes_of, counts_of, windows_of, u8_or, u8_at, u32_at, u64_at, number_at}
use Rattle.json_fields.specs.Fields.{limits_of, idles_of, u32_or}
use Rattle.script_reading.specs.Script.{calls_of, script_of}
use Rattle.text_stream.specs.Input.{value_of}
use Rattle.script_reading.specs.Outcome.{text_outcome, outcome_of}

-- a script without a call, with a configuration of so many ticks and minislots of a frame, and these members behind
abbrev script : List ℕ → List ℕ → List ℕ → List ℕ
script ticks frame more =
    codes "{\"calls\":[],\"config\":{\"calls\":1000,\"channel\":3,\"cycle\":20,\"data_end\":0,\"data_start\":0," ++ (
    codes "\"grant_cap\":2000,\"lead\":40,\"poll_slots\":2,\"quantum\":64,\"ranging_end\":0,\"ranging_start\":0," ++ (
    codes "\"receivers\":1,\"req_slots\":4,\"short_max\":6,\"start\":800,\"ucd_count\":1,\"ticks\":" ++ (ticks
    ++ (codes ",\"frame\":" ++ (frame ++ (more ++ codes "}}"))))))

-- burst descriptors with these members behind
abbrev bursts : List ℕ → List ℕ
bursts more =
    codes ",\"bursts\":{\"symbols\":64,\"short\":{\"preamble\":32,\"guard\":22,\"bits\":6,\"parity\":6," ++ (
    codes "\"information\":76,\"shortened\":1}" ++ (more ++ codes "}"))

-- one of long grants with so many bytes of information in a codeword
abbrev long_bursts : List ℕ → List ℕ
long_bursts information =
    codes ",\"long\":{\"preamble\":32,\"guard\":22,\"bits\":6,\"parity\":9,\"shortened\":1,\"information\":"
    ++ (information ++ codes "}")

abbrev short : Profile
short = record { preamble = 32; guard = 22; bits = 6; parity = 6; information = 76; shortened = 1 }

abbrev long : Profile
long = record { preamble = 32; guard = 22; bits = 6; parity = 9; information = 232; shortened = 1 }

-- unsolicited grants are as long ones where nothing is said of them
burst_descriptors : outcome_of (script (codes "2") (codes "40") (bursts (long_bursts (codes "232")))) ≡ Ok (record {
  config = record base {
    ticks = 2;
    bursts = Described (record { symbols = 64; short = short; long = long; unsolicited = long });
    short_max = 6;
  };
  calls = [];
})
unfolding outcome_of text_outcome value_of script_of calls_of config_of slots_of bursts_of descriptors_of profile_at
    profile_of sizes_of counts_of windows_of limits_of idles_of u8_or u32_or u8_at u32_at u64_at number_at first_wrong
    slots_by is_utf8 chars encode_utf8 serde_json_on_literals
burst_descriptors = refl

-- the information of a codeword and its parity have 256 bytes
a_codeword_of_256_bytes : outcome_of (script (codes "2") (codes "40") (bursts (long_bursts (codes "238"))))
    ≡ Err (Config Bursts)
unfolding outcome_of text_outcome value_of script_of calls_of config_of slots_of bursts_of descriptors_of profile_at
    profile_of sizes_of counts_of windows_of limits_of idles_of u8_or u32_or u8_at u32_at u64_at number_at first_wrong
    is_utf8 chars encode_utf8 serde_json_on_literals
a_codeword_of_256_bytes = refl

-- it is found behind a wrong number of ticks
ticks_are_tested_before_bursts : outcome_of (script (codes "3") (codes "40") (bursts (long_bursts (codes "238"))))
    ≡ Err (Config Ticks)
unfolding outcome_of text_outcome value_of script_of calls_of config_of slots_of bursts_of descriptors_of profile_at
    profile_of sizes_of counts_of windows_of limits_of idles_of u8_or u32_or u8_at u32_at u64_at number_at first_wrong
    is_utf8 chars encode_utf8 serde_json_on_literals
ticks_are_tested_before_bursts = refl

-- and before a wrong frame
bursts_are_tested_before_the_frame : outcome_of (script (codes "2") (codes "15") (bursts (long_bursts (codes "238"))))
    ≡ Err (Config Bursts)
unfolding outcome_of text_outcome value_of script_of calls_of config_of slots_of bursts_of descriptors_of profile_at
    profile_of sizes_of counts_of windows_of limits_of idles_of u8_or u32_or u8_at u32_at u64_at number_at first_wrong
    is_utf8 chars encode_utf8 serde_json_on_literals
bursts_are_tested_before_the_frame = refl

-- without a descriptor of long grants
bursts_without_long_grants : outcome_of (script (codes "2") (codes "40") (bursts [])) ≡ Err (Shape 0)
unfolding outcome_of text_outcome value_of script_of calls_of config_of slots_of bursts_of descriptors_of profile_at
    profile_of sizes_of counts_of windows_of limits_of idles_of u8_or u32_or u8_at u32_at u64_at number_at first_wrong
    is_utf8 chars encode_utf8 serde_json_on_literals
bursts_without_long_grants = refl

-- a null stands, also beside the bytes of a minislot and the overhead
bursts_of_null : outcome_of (script (codes "4") (codes "40")
    (codes ",\"bytes_per_slot\":16,\"overhead\":2,\"bursts\":null")) ≡ Err (Shape 0)
unfolding outcome_of text_outcome value_of script_of calls_of config_of slots_of bursts_of descriptors_of profile_at
    profile_of sizes_of counts_of windows_of limits_of idles_of u8_or u32_or u8_at u32_at u64_at number_at first_wrong
    is_utf8 chars encode_utf8 serde_json_on_literals
bursts_of_null = refl

-- the overhead alone is not enough
an_overhead_without_bytes : outcome_of (script (codes "4") (codes "40") (codes ",\"overhead\":2")) ≡ Err (Shape 0)
unfolding outcome_of text_outcome value_of script_of calls_of config_of slots_of bursts_of uniform_of sizes_of
    counts_of windows_of limits_of idles_of u8_or u32_or u8_at u32_at u64_at number_at first_wrong is_utf8 chars
    encode_utf8 serde_json_on_literals
an_overhead_without_bytes = refl
