-- The JSON value of a state whose numbers fit is read again in its text, and nests no deeper than five levels.
use Rattle.std.proofs.Common.{◌≡◌, ℕ, ◌<◌, ◌≤◌, ◌^◌, Bool, true, false, List, [], ◌∷◌, map, Option, None, Some, refl}
use Rattle.std.proofs.Common.{IsUtf8, arith}
use Rattle.std.specs.Prelude.{codes}
use Rattle.std.specs.List.{AllByRecursion}
use Rattle.serde_json.specs.Data.{depth, items_depth}
use Rattle.serde_json.specs.View.{items_of}
use Rattle.sched_calls.specs.declared.opportunity.Header.{Header}
use Rattle.sched_calls.specs.declared.opportunity.Usage.{Usage}
use Rattle.sched_calls.specs.declared.opportunity.Usage.TheVariants.{Initial, InitialTo, Station, Request, Quiet}
use Rattle.sched_calls.specs.declared.opportunity.Usage.TheVariants.{DataTo}
use Rattle.sched_calls.specs.declared.state.BatchState.{BatchState}
use Rattle.sched_calls.specs.declared.state.ChannelState.{ChannelState}
use Rattle.sched_calls.specs.declared.state.FlowState.{FlowState}
use Rattle.sched_calls.specs.declared.state.PlaceState.{PlaceState}
use Rattle.sched_calls.specs.declared.state.ReserveState.{ReserveState}
use Rattle.history_writing.specs.Json.{counts}
use Rattle.state_text.specs.StateText.{maybe_data, batch_data, batches_data, flag, place_data, placed_data}
use Rattle.state_text.specs.StateText.{flow_state_data, flow_states_data, usage_name, usage_sid, reserve_state_data}
use Rattle.state_text.specs.StateText.{reserve_states_data, header_data, state_data}
use Rattle.state_text.specs.Fits.{MaybeFits, BatchesFit, PlacedFits, FlowStateFits, UsageFits, ReserveFits, HeaderFits}
use Rattle.state_text.specs.Fits.{StateFits}
use Rattle.state_text.proofs.Readable.{IsReadable, AreReadable}
use Rattle.state_text.proofs.FlowText.{of_byte, of_half, name, counts_readable, flow_readable, depth-counts, depth-flow}

maybe_readable : (n : Option ℕ) → MaybeFits n → IsReadable (maybe_data n)
maybe_readable None fits = tt
maybe_readable (Some n) fits = fits

flag_fits : (is : Bool) → flag is < 2 ^ 64
flag_fits true = omega arith
flag_fits false = omega arith

batches_readable : (b : Option BatchState) → BatchesFit b → IsReadable (batches_data b)
unfolding batch_data
batches_readable None fits = tt
batches_readable (Some b) fits =
    (refl, (refl, fits.0, (refl, fits.1, (refl, maybe_readable b.second fits.2, tt))))

placed_readable : (p : Option PlaceState) → PlacedFits p → IsReadable (placed_data p)
unfolding place_data counts
placed_readable None fits = tt
placed_readable (Some p) fits = (
  refl,
  (
    refl,
    fits.0,
    (
      refl,
      fits.1,
      (refl, flag_fits p.rests, (refl, counts_readable (2 ^ 16) p.starts (omega arith) fits.2, tt)),
    ),
  ),
)

flow_state_readable : (f : FlowState) → FlowStateFits f → IsReadable (flow_state_data f)
unfolding flow_state_data
flow_state_readable f fits = (
  refl,
  (
    refl,
    fits.asked,
    (
      refl,
      batches_readable f.batches fits.batches,
      (
        refl,
        flow_readable f.spec fits.spec,
        (
          refl,
          fits.granted,
          (
            refl,
            maybe_readable f.last fits.last,
            (
              refl,
              maybe_readable f.peak fits.peak,
              (
                refl,
                placed_readable f.place fits.place,
                (
                  refl,
                  maybe_readable f.reserved fits.reserved,
                  (refl, of_half f.sid fits.sid, (refl, maybe_readable f.sustained fits.sustained, tt)),
                ),
              ),
            ),
          ),
        ),
      ),
    ),
  ),
)

flow_states_readable : (fs : List FlowState) → AllByRecursion FlowStateFits fs
    → AreReadable (items_of (map flow_state_data fs))
flow_states_readable [] fits = tt
flow_states_readable (f ∷ fs) fits = (flow_state_readable f fits.0, flow_states_readable fs fits.1)

usage_named : (u : Usage) → IsUtf8 (usage_name u)
usage_named Initial = name (codes "initial") refl
usage_named (InitialTo sid) = name (codes "initial_to") refl
usage_named (Station sid) = name (codes "station") refl
usage_named (Request sid) = name (codes "request") refl
usage_named Quiet = name (codes "quiet") refl
usage_named (DataTo sid) = name (codes "data") refl

sid_readable : (u : Usage) → UsageFits u → IsReadable (maybe_data (usage_sid u))
sid_readable Initial fits = tt
sid_readable (InitialTo sid) fits = of_half sid fits
sid_readable (Station sid) fits = of_half sid fits
sid_readable (Request sid) fits = of_half sid fits
sid_readable Quiet fits = tt
sid_readable (DataTo sid) fits = of_half sid fits

reserve_readable : (r : ReserveState) → ReserveFits r → IsReadable (reserve_state_data r)
unfolding reserve_state_data
reserve_readable r fits = (
  refl,
  (
    refl,
    of_byte r.maps fits.0,
    (
      refl,
      sid_readable r.opportunity.usage fits.1,
      (refl, of_half r.opportunity.slots fits.2, (refl, usage_named r.opportunity.usage, tt)),
    ),
  ),
)

reserves_readable : (rs : List ReserveState) → AllByRecursion ReserveFits rs
    → AreReadable (items_of (map reserve_state_data rs))
reserves_readable [] fits = tt
reserves_readable (r ∷ rs) fits = (reserve_readable r fits.0, reserves_readable rs fits.1)

header_readable : (h : Header) → HeaderFits h → IsReadable (header_data h)
unfolding header_data
header_readable h fits = (
  refl,
  (
    refl,
    of_byte h.data_end fits.0,
    (
      refl,
      of_byte h.data_start fits.1,
      (
        refl,
        of_byte h.ranging_end fits.2,
        (refl, of_byte h.ranging_start fits.3, (refl, of_byte h.ucd_count fits.4, tt)),
      ),
    ),
  ),
)

-- a state is read again in its text
pub state_readable : (s : ChannelState) → StateFits s → IsReadable (state_data s)
unfolding state_data flow_states_data reserve_states_data counts
state_readable s fits = (
  refl,
  (
    refl,
    fits.ack,
    (
      refl,
      maybe_readable s.change fits.change,
      (
        refl,
        fits.entries,
        (
          refl,
          flow_states_readable s.flows fits.flows,
          (
            refl,
            header_readable s.header fits.header,
            (
              refl,
              fits.next,
              (
                refl,
                counts_readable (2 ^ 64) s.progress (omega arith) fits.progress,
                (
                  refl,
                  reserves_readable s.reserves fits.reserves,
                  (refl, of_byte s.ucd_count fits.ucd_count, tt),
                ),
              ),
            ),
          ),
        ),
      ),
    ),
  ),
)

-- ---- how deep it nests

depth-maybe : (n : Option ℕ) → depth (maybe_data n) ≡ 0
depth-maybe None = refl
depth-maybe (Some n) = refl

depth-batches : (b : Option BatchState) → depth (batches_data b) ≤ 1
unfolding batch_data
depth-batches None = omega arith
depth-batches (Some b) = let second = depth-maybe b.second in omega (arith, second)

depth-placed : (p : Option PlaceState) → depth (placed_data p) ≤ 2
unfolding place_data
depth-placed None = omega arith
depth-placed (Some p) = let starts = depth-counts p.starts in omega (arith, starts)

depth-flow_state : (f : FlowState) → depth (flow_state_data f) ≤ 3
unfolding flow_state_data
depth-flow_state f =
    let batches = depth-batches f.batches in
    let place = depth-placed f.place in
    let spec = depth-flow f.spec in
    let last = depth-maybe f.last in
    let peak = depth-maybe f.peak in
    let reserved = depth-maybe f.reserved in
    let sustained = depth-maybe f.sustained in
    omega (arith, batches, place, spec, last, peak, reserved, sustained)

depth-flow_states : (fs : List FlowState) → items_depth (items_of (map flow_state_data fs)) ≤ 3
depth-flow_states [] = omega arith
depth-flow_states (f ∷ fs) =
    let here = depth-flow_state f in
    let rest = depth-flow_states fs in
    omega (arith, here, rest)

depth-reserve : (r : ReserveState) → depth (reserve_state_data r) ≤ 1
unfolding reserve_state_data
depth-reserve r = let sid = depth-maybe (usage_sid r.opportunity.usage) in omega (arith, sid)

depth-reserves : (rs : List ReserveState) → items_depth (items_of (map reserve_state_data rs)) ≤ 1
depth-reserves [] = omega arith
depth-reserves (r ∷ rs) =
    let here = depth-reserve r in
    let rest = depth-reserves rs in
    omega (arith, here, rest)

depth-header : (h : Header) → depth (header_data h) ≡ 1
unfolding header_data
depth-header h = refl

-- a state nests no deeper than five levels
pub depth-state : (s : ChannelState) → depth (state_data s) ≤ 5
unfolding state_data flow_states_data reserve_states_data
depth-state s =
    let change = depth-maybe s.change in
    let flows = depth-flow_states s.flows in
    let header = depth-header s.header in
    let progress = depth-counts s.progress in
    let reserves = depth-reserves s.reserves in
    omega (arith, change, flows, header, progress, reserves)
