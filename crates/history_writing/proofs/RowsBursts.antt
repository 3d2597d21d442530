-- Worked texts: openings of journals with burst descriptors.
use Rattle.std.proofs.Common.{◌≡◌, List, ℕ, ◌++◌, codes, refl}
use Rattle.std.specs.Fmt.{digits}
use Rattle.serde_json.proofs.OnLiterals.{serde_json_on_literals}
use Rattle.minislots.specs.declared.bursts.Bursts.TheVariants.{Described}
use Rattle.minislots.specs.declared.bursts.Profile.{Profile}
use Rattle.minislots.specs.declared.config.Config.{Config}
use Rattle.sched_calls.proofs.Base.{base}
use Rattle.history_writing.specs.HistoryText.{config_data, descriptors_data, unsolicited_member, profile_data}
use Rattle.history_writing.specs.Journal.{opening_data, opening_line}

-- the burst descriptors of short and of long grants
abbrev short : Profile
short = record { preamble = 32; guard = 22; bits = 6; parity = 6; information = 76; shortened = 1 }

abbrev long : Profile
long = record { preamble = 32; guard = 22; bits = 6; parity = 9; information = 232; shortened = 1 }

-- a channel with these, and this one of unsolicited grants
abbrev described : Profile → Config
described unsolicited = record base {
  ticks = 2;
  bursts = Described (record { symbols = 64; short = short; long = long; unsolicited = unsolicited });
  short_max = 6;
}

-- the text of its opening, with this behind the descriptors' other members
abbrev text : List ℕ → List ℕ
text more =
    codes "{\"config\":{\"bursts\":{\"long\":{\"bits\":6,\"guard\":22,\"information\":232,\"parity\":9," ++ (
    codes "\"preamble\":32,\"shortened\":1},\"short\":{\"bits\":6,\"guard\":22,\"information\":76,\"parity\":6," ++ (
    codes "\"preamble\":32,\"shortened\":1},\"symbols\":64" ++ (more ++ (
    codes "},\"calls\":1000,\"channel\":3,\"cycle\":20,\"data_end\":0,\"data_start\":0,\"frame\":40," ++ (
    codes "\"grant_cap\":2000,\"lead\":40,\"phy\":0,\"poll_slots\":2,\"quantum\":64,\"ranging_end\":0," ++ (
    codes "\"ranging_start\":0,\"receivers\":1,\"req_slots\":4,\"short_max\":6,\"start\":800,\"ticks\":2," ++
    codes "\"ucd_count\":1}}\n"))))))

-- where unsolicited grants are as long ones, nothing is said of them
unsolicited_as_long : opening_line (described long) ≡ text (codes "")
unfolding opening_line opening_data config_data descriptors_data unsolicited_member profile_data digits
    serde_json_on_literals
unsolicited_as_long = refl

-- their descriptor is another where only its last codeword is
unsolicited_with_full_codewords : opening_line (described (record long { shortened = 0 }))
    ≡ text (codes ",\"unsolicited\":{\"bits\":6,\"guard\":22,\"information\":232,\"parity\":9,\"preamble\":32,"
    ++ codes "\"shortened\":0}")
unfolding opening_line opening_data config_data descriptors_data unsolicited_member profile_data digits
    serde_json_on_literals
unsolicited_with_full_codewords = refl

-- it stands where it is that of short grants
unsolicited_as_short : opening_line (described short)
    ≡ text (codes ",\"unsolicited\":{\"bits\":6,\"guard\":22,\"information\":76,\"parity\":6,\"preamble\":32,"
    ++ codes "\"shortened\":1}")
unfolding opening_line opening_data config_data descriptors_data unsolicited_member profile_data digits
    serde_json_on_literals
unsolicited_as_short = refl
