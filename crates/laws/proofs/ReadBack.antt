-- A history is written as a script is read: what stands there of a call stands for it again, and each configuration
-- with its calls has a script.
use Rattle.std.proofs.Common.{◌≡◌, ℕ, ◌+◌, ◌^◌, List, [], ◌∷◌, map, Some, Ok}
use Rattle.std.proofs.Common.{refl}
use Rattle.std.specs.Prelude.{codes}
use Rattle.std.specs.List.{AllByRecursion}
use Rattle.serde_json.specs.Data.{Data, array, object, no_members, member}
use Rattle.serde_json.specs.View.{items_of}
use Rattle.minislots.specs.declared.config.Config.{Config}
use Rattle.sched_calls.specs.declared.amount.Amount.TheVariants.{Bytes, Slots}
use Rattle.sched_calls.specs.declared.call.Call.{Call}
use Rattle.sched_calls.specs.declared.opportunity.Usage.TheVariants.{Initial, InitialTo, Station}
use Rattle.sched_calls.specs.declared.opportunity.Usage.TheVariants.{Request, Quiet, DataTo}
use Rattle.sched_calls.specs.declared.call.Call.TheVariants.{Admit, Remove, Ask, Heard, Build, Skip, Status}
use Rattle.sched_calls.specs.declared.call.Call.TheVariants.{Reserve, Header, Replace, Change, Rest, Wake}
use Rattle.json_fields.specs.Fields.{number_at, u8_at, u16_at, u32_at, u64_at, text_at}
use Rattle.call_reading.specs.Calls.{admit_call, remove_call}
use Rattle.call_reading.specs.Calls.{amount_of, ask_call, heard_call, build_call, skip_call, status_call, usage_of}
use Rattle.call_reading.specs.Calls.{reserve_call, header_call, replace_call, change_call, rest_call, wake_call}
use Rattle.call_reading.specs.Calls.{call_of}
use Rattle.script_reading.specs.Script.{calls_of, script_of}
use Rattle.history_writing.specs.Json.{call_data}
use Rattle.history_writing.specs.HistoryText.{config_data}
use Rattle.history_writing.specs.Fits.{CallFits, ConfigFits}
use Rattle.state_text.proofs.FlowText.{below-fits, flow_of-data}
use Rattle.segment_line.proofs.ConfigBack.{config_of-data}

-- a call is read back
pub call_of-data : (call : Call) → CallFits call → call_of (call_data call) ≡ Some call
unfolding call_of admit_call remove_call amount_of ask_call heard_call build_call skip_call status_call usage_of
    reserve_call header_call replace_call change_call rest_call wake_call u8_at u16_at u32_at u64_at number_at text_at
    call_data
call_of-data (Admit sid spec) fits = rw (below-fits (2 ^ 16) sid fits.0) (
    rw (flow_of-data spec fits.1) refl)
call_of-data (Remove sid) fits = rw (below-fits (2 ^ 16) sid fits) refl
call_of-data (Ask receiver sid (Bytes bytes) heard) fits =
    rw (below-fits (2 ^ 8) receiver fits.0) (
    rw (below-fits (2 ^ 16) sid fits.1) (rw (below-fits (2 ^ 32) bytes fits.2)
    (rw (below-fits (2 ^ 64) heard fits.3) refl)))
call_of-data (Ask receiver sid (Slots slots) heard) fits =
    rw (below-fits (2 ^ 8) receiver fits.0) (
    rw (below-fits (2 ^ 16) sid fits.1) (rw (below-fits (2 ^ 32) slots fits.2)
    (rw (below-fits (2 ^ 64) heard fits.3) refl)))
call_of-data (Heard receiver upto) fits = rw (below-fits (2 ^ 8) receiver fits.0) (
    rw (below-fits (2 ^ 64) upto fits.1) refl)
call_of-data (Build now) fits = rw (below-fits (2 ^ 64) now fits) refl
call_of-data (Skip now) fits = rw (below-fits (2 ^ 64) now fits) refl
call_of-data (Status sid) fits = rw (below-fits (2 ^ 16) sid fits) refl
call_of-data (Reserve Initial slots) fits = rw (below-fits (2 ^ 32) slots fits) refl
call_of-data (Reserve (InitialTo sid) slots) fits =
    rw (below-fits (2 ^ 16) sid fits.0) (rw (below-fits (2 ^ 32) slots fits.1) refl)
call_of-data (Reserve (Station sid) slots) fits =
    rw (below-fits (2 ^ 16) sid fits.0) (rw (below-fits (2 ^ 32) slots fits.1) refl)
call_of-data (Reserve (Request sid) slots) fits =
    rw (below-fits (2 ^ 16) sid fits.0) (rw (below-fits (2 ^ 32) slots fits.1) refl)
call_of-data (Reserve Quiet slots) fits = rw (below-fits (2 ^ 32) slots fits) refl
call_of-data (Reserve (DataTo sid) slots) fits =
    rw (below-fits (2 ^ 16) sid fits.0) (rw (below-fits (2 ^ 32) slots fits.1) refl)
call_of-data (Header header) fits =
    rw (below-fits (2 ^ 8) header.ucd_count fits.0) (
    rw (below-fits (2 ^ 8) header.ranging_start fits.1) (rw (below-fits (2 ^ 8) header.ranging_end fits.2)
    (rw (below-fits (2 ^ 8) header.data_start fits.3) (rw (below-fits (2 ^ 8) header.data_end fits.4) refl))))
call_of-data (Replace receiver sid (Bytes bytes) heard) fits =
    rw (below-fits (2 ^ 8) receiver fits.0) (
    rw (below-fits (2 ^ 16) sid fits.1) (rw (below-fits (2 ^ 32) bytes fits.2)
    (rw (below-fits (2 ^ 64) heard fits.3) refl)))
call_of-data (Replace receiver sid (Slots slots) heard) fits =
    rw (below-fits (2 ^ 8) receiver fits.0) (
    rw (below-fits (2 ^ 16) sid fits.1) (rw (below-fits (2 ^ 32) slots fits.2)
    (rw (below-fits (2 ^ 64) heard fits.3) refl)))
call_of-data (Change sid spec) fits = rw (below-fits (2 ^ 16) sid fits.0) (
    rw (flow_of-data spec fits.1) refl)
call_of-data (Rest sid) fits = rw (below-fits (2 ^ 16) sid fits) refl
call_of-data (Wake sid) fits = rw (below-fits (2 ^ 16) sid fits) refl

-- calls are read back, from any number on
pub calls_of-data : (n : ℕ) (calls : List Call) → AllByRecursion CallFits calls
    → calls_of n (items_of (map call_data calls)) ≡ Ok calls
unfolding calls_of
calls_of-data n [] fits = refl
calls_of-data n (call ∷ calls) fits = rw (call_of-data call fits.0) (rw (calls_of-data (n + 1) calls fits.1) refl)

-- the script of a configuration and calls
abbrev pub script_data : Config → List Call → Data
script_data c calls = object (member (codes "calls") (array (items_of (map call_data calls)))
    (member (codes "config") (config_data c) no_members))

-- a script is read back: each configuration with its calls has one
pub script_of-data : (c : Config) (calls : List Call) → ConfigFits c → AllByRecursion CallFits calls
    → script_of (script_data c calls) ≡ Ok (record { config = c; calls = calls })
unfolding script_of
script_of-data c calls config_fits calls_fit = rw (config_of-data c config_fits)
    (rw (calls_of-data 1 calls calls_fit) refl)
