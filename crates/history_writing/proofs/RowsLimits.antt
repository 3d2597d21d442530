-- Worked texts: openings of journals with limits of flows, pending grants and periodic grants, and with open idles and
-- settling.
use Rattle.std.proofs.Common.{◌≡◌, List, ℕ, ◌++◌, codes, refl}
use Rattle.std.specs.Fmt.{digits}
use Rattle.serde_json.proofs.OnLiterals.{serde_json_on_literals}
use Rattle.minislots.specs.declared.config.Config.{Config}
use Rattle.sched_calls.proofs.Base.{base}
use Rattle.history_writing.specs.HistoryText.{config_data}
use Rattle.history_writing.specs.Journal.{opening_data, opening_line}

-- a channel with these limits
abbrev limited : ℕ → ℕ → ℕ → Config
limited flows pending periodic = record base { flows = flows; pending = pending; periodic = periodic }

-- the text of its opening, with these members before the frame and before the physical layer
abbrev text : List ℕ → List ℕ → List ℕ
text flows others =
    codes "{\"config\":{\"bytes_per_slot\":16,\"calls\":1000,\"channel\":3,\"cycle\":20,\"data_end\":0," ++ (
    codes "\"data_start\":0," ++ (flows ++ (codes "\"frame\":40,\"grant_cap\":2000,\"lead\":40,\"overhead\":2," ++ (
    others ++ (
    codes "\"phy\":0,\"poll_slots\":2,\"quantum\":64,\"ranging_end\":0,\"ranging_start\":0,\"receivers\":1," ++
    codes "\"req_slots\":4,\"short_max\":8,\"start\":800,\"ticks\":4,\"ucd_count\":1}}\n")))))

-- of those of missing members nothing is said
missing_limits : opening_line (limited 64 64 40) ≡ text (codes "") (codes "")
unfolding opening_line opening_data config_data digits serde_json_on_literals
missing_limits = refl

-- all of them are others
other_limits : opening_line (limited 8191 2 2560)
    ≡ text (codes "\"flows\":8191,") (codes "\"pending\":2,\"periodic\":2560,")
unfolding opening_line opening_data config_data digits serde_json_on_literals
other_limits = refl

-- each has its own that nothing is said of, and none stands as well as any
no_periodic_grants : opening_line (limited 40 40 0)
    ≡ text (codes "\"flows\":40,") (codes "\"pending\":40,\"periodic\":0,")
unfolding opening_line opening_data config_data digits serde_json_on_literals
no_periodic_grants = refl

as_many_periodic_grants_as_flows : opening_line (limited 64 64 64) ≡ text (codes "") (codes "\"periodic\":64,")
unfolding opening_line opening_data config_data digits serde_json_on_literals
as_many_periodic_grants_as_flows = refl

-- a channel whose idles are open, or not, and that settles for so long
abbrev idling : ℕ → ℕ → Config
idling open_idle settle = record base { open_idle = open_idle; settle = settle }

-- the text of its opening, with these members before the overhead and before the longest short grant
abbrev idling_text : List ℕ → List ℕ → List ℕ
idling_text open_idle settle =
    codes "{\"config\":{\"bytes_per_slot\":16,\"calls\":1000,\"channel\":3,\"cycle\":20,\"data_end\":0," ++ (
    codes "\"data_start\":0,\"frame\":40,\"grant_cap\":2000,\"lead\":40," ++ (open_idle ++ (
    codes "\"overhead\":2,\"phy\":0,\"poll_slots\":2,\"quantum\":64,\"ranging_end\":0," ++ (
    codes "\"ranging_start\":0,\"receivers\":1,\"req_slots\":4," ++ (settle ++
    codes "\"short_max\":8,\"start\":800,\"ticks\":4,\"ucd_count\":1}}\n")))))

-- idles that are open to nobody, and settling for no time, are those of missing members
no_idles : opening_line (idling 0 0) ≡ idling_text (codes "") (codes "")
unfolding opening_line opening_data config_data digits serde_json_on_literals
no_idles = refl

open_and_settling : opening_line (idling 1 4096) ≡ idling_text (codes "\"open_idle\":1,") (codes "\"settle\":4096,")
unfolding opening_line opening_data config_data digits serde_json_on_literals
open_and_settling = refl

-- either stands without the other
settling_alone : opening_line (idling 0 1) ≡ idling_text (codes "") (codes "\"settle\":1,")
unfolding opening_line opening_data config_data digits serde_json_on_literals
settling_alone = refl
