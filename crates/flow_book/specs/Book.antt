-- What contracts see of a book: the live flows, and beside them the room for their grants.
use Rattle.std.specs.Prelude.{ℕ, ◌+◌, ◌≤◌, Bool, ◌&&◌, ◌==◌, List, [], map, find, option_map, unwrap_or, IsSome}
use Rattle.std.specs.Prelude.{if◌then◌else◌}
use Rattle.minislots.specs.declared.config.Config.{Config}
use Rattle.sched_calls.specs.declared.spec.FlowSpec.{FlowSpec}
use Rattle.sched_calls.specs.FlowSpec.{rate_of, burst_of, peak_of, reserved_of, reserved_burst_of}
use Rattle.flow_book.specs.Batches.{no_batches, with_request}
use Rattle.flow_book.specs.Flows.{LiveFlow, flow_of, granted}
use Rattle.sched_calls.specs.Sids.{AscendBy, put_in, taken_out}

-- how many more grants of this flow fit with no memory
pub record Room : Type 0 where
  pub sid : ℕ
  pub grants : ℕ

-- the channel's configuration, the live flows in order of SID, and the room of each
pub record BookView : Type 0 where
  pub config : Config
  pub flows : List LiveFlow
  pub rooms : List Room

-- the SID is live
abbrev pub IsLive : ℕ → List LiveFlow → Type 0
IsLive sid flows = IsSome (flow_of sid flows)

-- SIDs ascend
abbrev pub Ascend : List LiveFlow → Type 0
Ascend flows = AscendBy (λ f. f.sid) flows

-- the flows with one more, in order of SID
abbrev pub with_flow : LiveFlow → List LiveFlow → List LiveFlow
with_flow f flows = put_in (λ g. g.sid) f flows

-- the flows but that of this SID
abbrev pub without : ℕ → List LiveFlow → List LiveFlow
without sid flows = taken_out (λ f. f.sid) sid flows

-- the flows, with that of this SID changed
abbrev pub changed : ℕ → (LiveFlow → LiveFlow) → List LiveFlow → List LiveFlow
changed sid change flows = map (λ f. if f.sid == sid then change f else f) flows

-- a flow just admitted
abbrev pub new_flow : ℕ → FlowSpec → LiveFlow
new_flow sid spec =
    record {
      sid = sid;
      spec = spec;
      asked = 0;
      batches = no_batches;
      grants = [];
      sustained = [];
      peak = [];
      reserved = [];
    }

-- a flow that asked for so many bytes more, in a request that was heard at this minislot
abbrev pub with_asked : ℕ → ℕ → LiveFlow → LiveFlow
with_asked bytes heard f = record f {
  asked = f.asked + bytes;
  batches = with_request f.batches f.asked (granted f) bytes heard;
}

-- a flow whose bytes outstanding are so many from now on, by a request that was heard at this minislot: what was
-- outstanding before is no longer asked for
abbrev pub with_replaced : ℕ → ℕ → LiveFlow → LiveFlow
with_replaced bytes heard f = with_asked bytes heard (record f { asked = granted f })

-- two flows have the same ceiling
abbrev pub has_ceiling_of : FlowSpec → FlowSpec → Bool
has_ceiling_of spec other = rate_of spec == rate_of other && burst_of spec == burst_of other

-- two flows have the same peak rate
abbrev pub has_peak_of : FlowSpec → FlowSpec → Bool
has_peak_of spec other = peak_of spec == peak_of other

-- two flows have the same reservation
abbrev pub has_reserve_of : FlowSpec → FlowSpec → Bool
has_reserve_of spec other = reserved_of spec == reserved_of other && reserved_burst_of spec == reserved_burst_of other

-- a flow with these parameters from now on: another ceiling begins a period of it, in which nothing is charged yet,
-- another peak rate one of that, and another reservation one of that
abbrev pub with_spec : FlowSpec → LiveFlow → LiveFlow
with_spec spec f = record f {
  spec = spec;
  sustained = if has_ceiling_of f.spec spec then f.sustained else [];
  peak = if has_peak_of f.spec spec then f.peak else [];
  reserved = if has_reserve_of f.spec spec then f.reserved else [];
}

-- the room of the flow with this SID
abbrev pub room_of : ℕ → List Room → ℕ
room_of sid rooms = unwrap_or (option_map (λ r. r.grants) (find (λ r. r.sid == sid) rooms)) 0

-- no flow has less room than before
abbrev pub KeepsRoom : List Room → List Room → Type 0
KeepsRoom old new = (sid : ℕ) → room_of sid old ≤ room_of sid new
