-- What the state of a scheduler tells of a live flow, but for its place.
use Rattle.std.specs.Prelude.{ℕ, ◌+◌, ◌-◌, ◌*◌, ◌==◌, min, List, [], ◌∷◌, Option, None, Some, unwrap_or}
use Rattle.std.specs.Prelude.{if◌then◌else◌}
use Rattle.minislots.specs.declared.config.Config.{Config}
use Rattle.sched_calls.specs.FlowSpec.{rate_of, burst_of, peak_of, reserved_of, reserved_burst_of}
use Rattle.sched_calls.specs.declared.spec.TheConstants.{PEAK_BURST}
use Rattle.sched_calls.specs.declared.state.BatchState.{BatchState}
use Rattle.sched_calls.specs.declared.state.FlowState.{FlowState}
use Rattle.flow_book.specs.declared.batches.Batches.{Batches}
use Rattle.flow_book.specs.Batches.{is_over}
use Rattle.flow_book.specs.Choice.{last_start, last_slot}
use Rattle.flow_book.specs.Flows.{LiveFlow, Charge, tokens_of, granted}

-- the least that is left at a minislot of a burst, in 1/1280000 bytes, by the windows of these charges that end with
-- the last of them: of the burst and of what the rate brings from the window's first start on, its tokens are taken.
-- The empty window leaves the burst
abbrev pub left_at : Config → ℕ → ℕ → ℕ → List Charge → ℕ
left_at c rate burst slot [] = 1280000 * burst
left_at c rate burst slot (g ∷ charges) = min
    (slot * c.ticks * rate + 1280000 * burst - (tokens_of (g ∷ charges) + g.start * c.ticks * rate))
    (left_at c rate burst slot charges)

-- the level of charges under a rate and a burst at a minislot: what they leave there, and where there is none the
-- burst. A rate of 0 has none
abbrev pub level_after : Config → ℕ → ℕ → ℕ → List Charge → Option ℕ
level_after c rate burst slot charges = if rate == 0 then None else Some (left_at c rate burst slot charges)

-- the batches of a flow that asked and was granted so many bytes: where all of the first are granted the second is the
-- first, and where none is outstanding there is none
abbrev pub batch_state : Batches → ℕ → ℕ → Option BatchState
batch_state b asked granted = if asked == granted then None
    else if is_over b granted then Some (record { end = asked; first = unwrap_or b.second b.first; second = None })
    else Some (record { end = b.end; first = b.first; second = b.second })

-- a live flow. A level is by what is charged in the present period, and each of the three is the one at the start of
-- the flow's last data grant, whether or not that is charged: the state tells no other start from which on a rate
-- brings bytes
abbrev pub flow_state : Config → LiveFlow → FlowState
flow_state c f = record {
  sid = f.sid;
  spec = f.spec;
  asked = f.asked;
  granted = granted f;
  last = last_start f.grants;
  sustained = level_after c (rate_of f.spec) (burst_of f.spec) (last_slot f.grants) f.sustained;
  peak = level_after c (peak_of f.spec) PEAK_BURST (last_slot f.grants) f.peak;
  reserved = level_after c (reserved_of f.spec) (reserved_burst_of f.spec) (last_slot f.grants) f.reserved;
  batches = batch_state f.batches f.asked (granted f);
  place = None;
}
