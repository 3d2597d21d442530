-- The state that the JSON value of a state stands for is the state.
use Rattle.std.proofs.Common.{◌≡◌, ℕ, ◌<◌, ◌^◌, ◌==◌, Bool, true, false, List, [], ◌∷◌, map, Option, None, Some, refl}
use Rattle.std.proofs.Common.{arith}
use Rattle.std.specs.Prelude.{codes}
use Rattle.std.specs.List.{AllByRecursion}
use Rattle.serde_json.specs.Data.{Data, array}
use Rattle.serde_json.specs.Find.{get}
use Rattle.serde_json.specs.View.{items_of}
use Rattle.sched_calls.specs.declared.opportunity.Header.{Header}
use Rattle.sched_calls.specs.declared.opportunity.Usage.{Usage}
use Rattle.sched_calls.specs.declared.opportunity.Usage.TheVariants.{Initial, InitialTo, Station, Request, Quiet}
use Rattle.sched_calls.specs.declared.opportunity.Usage.TheVariants.{DataTo}
use Rattle.sched_calls.specs.declared.state.BatchState.{BatchState}
use Rattle.sched_calls.specs.declared.state.ChannelState.{ChannelState}
use Rattle.sched_calls.specs.declared.state.FlowState.{FlowState}
use Rattle.sched_calls.specs.declared.state.PlaceState.{PlaceState}
use Rattle.sched_calls.specs.declared.state.ReserveState.{ReserveState}
use Rattle.json_fields.specs.Fields.{◌>>=◌, number_at, u8_at, u16_at, u64_at, text_at}
use Rattle.history_writing.specs.Json.{count, counts}
use Rattle.state_text.specs.StateText.{maybe_data, batch_data, batches_data, flag, place_data, placed_data}
use Rattle.state_text.specs.StateText.{flow_state_data, flow_states_data, usage_name, usage_sid, reserve_state_data}
use Rattle.state_text.specs.StateText.{reserve_states_data, header_data, state_data}
use Rattle.state_text.specs.Fits.{MaybeFits, BatchesFit, PlacedFits, FlowStateFits, UsageFits, ReserveFits, HeaderFits}
use Rattle.state_text.specs.Fits.{StateFits}
use Rattle.state_text.specs.Found.{each_in, each_at, number_in, batch_in, place_in, flow_state_in, usage_named}
use Rattle.state_text.specs.Found.{reserve_state_in, header_in, state_in}
use Rattle.state_text.proofs.FlowText.{below-fits, flow_of-data}

-- ---- what stands under a key

u8-found : (key : List ℕ) (d : Data) (n : ℕ) → n < 2 ^ 8 → get key d ≡ Some (count n) → u8_at key d ≡ Some n
unfolding u8_at number_at
u8-found key d n fits is = rw is (below-fits (2 ^ 8) n fits)

u16-found : (key : List ℕ) (d : Data) (n : ℕ) → n < 2 ^ 16 → get key d ≡ Some (count n) → u16_at key d ≡ Some n
unfolding u16_at number_at
u16-found key d n fits is = rw is (below-fits (2 ^ 16) n fits)

u64-found : (key : List ℕ) (d : Data) (n : ℕ) → n < 2 ^ 64 → get key d ≡ Some (count n) → u64_at key d ≡ Some n
unfolding u64_at number_at
u64-found key d n fits is = rw is (below-fits (2 ^ 64) n fits)

-- a number that may be none
maybe-found : (key : List ℕ) (d : Data) (n : Option ℕ) → MaybeFits n → get key d ≡ Some (maybe_data n)
    → u64_at key d ≡ n
unfolding u64_at number_at
maybe-found key d None fits is = rw is refl
maybe-found key d (Some n) fits is = u64-found key d n fits is

-- the SID of a usage
sid-found : (key : List ℕ) (d : Data) (u : Usage) → UsageFits u → get key d ≡ Some (maybe_data (usage_sid u))
    → u16_at key d ≡ usage_sid u
unfolding u16_at number_at
sid-found key d Initial fits is = rw is refl
sid-found key d (InitialTo sid) fits is = u16-found key d sid fits is
sid-found key d (Station sid) fits is = u16-found key d sid fits is
sid-found key d (Request sid) fits is = u16-found key d sid fits is
sid-found key d Quiet fits is = rw is refl
sid-found key d (DataTo sid) fits is = u16-found key d sid fits is

module _ {X : Type 0} (f : Data → Option X) (g : X → Data) (P : X → Type 0)
    (back : (x : X) → P x → f (g x) ≡ Some x) where
  each_in-data : (xs : List X) → AllByRecursion P xs → each_in f (items_of (map g xs)) ≡ Some xs
  unfolding each_in
  each_in-data [] fits = refl
  each_in-data (x ∷ xs) fits = rw (back x fits.0, each_in-data xs fits.1) refl

  -- the items of an array
  each-found : (key : List ℕ) (d : Data) (xs : List X) → AllByRecursion P xs
      → get key d ≡ Some (array (items_of (map g xs))) → each_at f key d ≡ Some xs
  unfolding each_at
  each-found key d xs fits is = rw is (each_in-data xs fits)

number_in-count : (limit n : ℕ) → n < limit → number_in limit (count n) ≡ Some n
unfolding number_in
number_in-count limit n fits = below-fits limit n fits

-- whole numbers of an array
counts-found : (limit : ℕ) (key : List ℕ) (d : Data) (ns : List ℕ) → AllByRecursion (λ n. n < limit) ns
    → get key d ≡ Some (counts ns) → each_at (number_in limit) key d ≡ Some ns
unfolding counts
counts-found limit key d ns fits is =
    each-found (number_in limit) count (λ n. n < limit) (number_in-count limit) key d ns fits is

-- ---- the parts of a state

batch_in-data : (b : BatchState) → BatchesFit (Some b) → batch_in (batch_data b) ≡ Some b
unfolding batch_in batch_data
batch_in-data b fits =
    let d = batch_data b in
    rw (
      u64-found (codes "end") d b.end fits.0 refl,
      u64-found (codes "first") d b.first fits.1 refl,
      maybe-found (codes "second") d b.second fits.2 refl,
    ) refl

batches-found : (key : List ℕ) (d : Data) (b : Option BatchState) → BatchesFit b → get key d ≡ Some (batches_data b)
    → (get key d >>= batch_in) ≡ b
unfolding batch_in u64_at number_at
batches-found key d None fits is = rw is refl
batches-found key d (Some b) fits is = rw is (batch_in-data b fits)

flag-back : (is : Bool) → (flag is == 1) ≡ is
flag-back true = refl
flag-back false = refl

flag_fits : (is : Bool) → flag is < 2 ^ 64
flag_fits true = omega arith
flag_fits false = omega arith

place_in-data : (p : PlaceState) → PlacedFits (Some p) → place_in (place_data p) ≡ Some p
unfolding place_in place_data
place_in-data p fits =
    let d = place_data p in
    rw (
      u64-found (codes "phase") d p.phase fits.1 refl,
      u64-found (codes "offset") d p.offset fits.0 refl,
      u64-found (codes "rests") d (flag p.rests) (flag_fits p.rests) refl,
      counts-found (2 ^ 16) (codes "starts") d p.starts fits.2 refl,
    ) (rw (flag-back p.rests) refl)

place-found : (key : List ℕ) (d : Data) (p : Option PlaceState) → PlacedFits p → get key d ≡ Some (placed_data p)
    → (get key d >>= place_in) ≡ p
unfolding place_in u64_at number_at
place-found key d None fits is = rw is refl
place-found key d (Some p) fits is = rw is (place_in-data p fits)

flow_state_in-data : (f : FlowState) → FlowStateFits f → flow_state_in (flow_state_data f) ≡ Some f
unfolding flow_state_in flow_state_data
flow_state_in-data f fits =
    let d = flow_state_data f in
    rw (
      u16-found (codes "sid") d f.sid fits.sid refl,
      flow_of-data f.spec fits.spec,
      u64-found (codes "asked") d f.asked fits.asked refl,
      u64-found (codes "granted") d f.granted fits.granted refl,
      maybe-found (codes "last") d f.last fits.last refl,
      maybe-found (codes "sustained") d f.sustained fits.sustained refl,
      maybe-found (codes "peak") d f.peak fits.peak refl,
      maybe-found (codes "reserved") d f.reserved fits.reserved refl,
      batches-found (codes "batches") d f.batches fits.batches refl,
      place-found (codes "place") d f.place fits.place refl,
    ) refl

usage_named-data : (u : Usage) → usage_named (usage_name u) (usage_sid u) ≡ Some u
usage_named-data Initial = refl
usage_named-data (InitialTo sid) = refl
usage_named-data (Station sid) = refl
usage_named-data (Request sid) = refl
usage_named-data Quiet = refl
usage_named-data (DataTo sid) = refl

reserve_state_in-data : (r : ReserveState) → ReserveFits r → reserve_state_in (reserve_state_data r) ≡ Some r
unfolding reserve_state_in reserve_state_data text_at
reserve_state_in-data r fits =
    let d = reserve_state_data r in
    rw (
      sid-found (codes "sid") d r.opportunity.usage fits.1 refl,
      usage_named-data r.opportunity.usage,
      u16-found (codes "slots") d r.opportunity.slots fits.2 refl,
      u8-found (codes "maps") d r.maps fits.0 refl,
    ) refl

header_in-data : (h : Header) → HeaderFits h → header_in (header_data h) ≡ Some h
unfolding header_in header_data
header_in-data h fits =
    let d = header_data h in
    rw (
      u8-found (codes "ucd_count") d h.ucd_count fits.4 refl,
      u8-found (codes "ranging_start") d h.ranging_start fits.3 refl,
      u8-found (codes "ranging_end") d h.ranging_end fits.2 refl,
      u8-found (codes "data_start") d h.data_start fits.1 refl,
      u8-found (codes "data_end") d h.data_end fits.0 refl,
    ) refl

-- ---- the state

-- a state whose numbers fit is what its value stands for
pub state_in-data : (s : ChannelState) → StateFits s → state_in (state_data s) ≡ Some s
unfolding state_in state_data flow_states_data reserve_states_data
state_in-data s fits =
    let d = state_data s in
    rw (
      u64-found (codes "entries") d s.entries fits.entries refl,
      u64-found (codes "next") d s.next fits.next refl,
      u64-found (codes "ack") d s.ack fits.ack refl,
      u8-found (codes "ucd_count") d s.ucd_count fits.ucd_count refl,
      header_in-data s.header fits.header,
      counts-found (2 ^ 64) (codes "progress") d s.progress fits.progress refl,
      each-found flow_state_in flow_state_data FlowStateFits flow_state_in-data (codes "flows") d s.flows fits.flows
          refl,
      each-found reserve_state_in reserve_state_data ReserveFits reserve_state_in-data (codes "reserves") d s.reserves
          fits.reserves refl,
      maybe-found (codes "change") d s.change fits.change refl,
    ) refl
