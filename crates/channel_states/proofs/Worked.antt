-- The state of the worked examples: flows of all kinds, with places, levels and batches, and Reserves that wait.
use Rattle.std.proofs.Common.{refl, ℕ, Bool, true, false, List, [], ◌∷◌, Some, None}
use Rattle.minislots.specs.declared.config.Config.{Config}
use Rattle.minislots.specs.Config.{first_wrong, IsLawful}
use Rattle.sched_calls.specs.declared.opportunity.Header.{Header}
use Rattle.sched_calls.specs.declared.opportunity.Usage.TheVariants.{Station, Request}
use Rattle.sched_calls.specs.declared.spec.FlowSpec.{FlowSpec}
use Rattle.sched_calls.specs.declared.spec.FlowSpec.TheVariants.{Unsolicited, Polled, BestEffort}
use Rattle.sched_calls.specs.declared.state.ChannelState.{ChannelState}
use Rattle.sched_calls.specs.declared.state.FlowState.{FlowState}
use Rattle.sched_calls.specs.declared.state.PlaceState.{PlaceState}
use Rattle.sched_calls.specs.declared.state.ReserveState.{ReserveState}
use Rattle.sched_calls.proofs.Base.{base}

-- the channel of the worked examples, with a cycle of two frames
abbrev pub channel : Config
channel = record base { cycle = 2 }

-- the channel is lawful
pub the_channel_is_lawful : IsLawful channel
unfolding first_wrong
the_channel_is_lawful = refl

-- grants of 200 bytes, 15 minislots, in each second frame, at most 32 minislots late
abbrev pub voice : FlowSpec
voice = Unsolicited 200 2000 800 1

-- a poll in each frame, and data grants under a ceiling
abbrev pub polling : FlowSpec
polling = Polled 1000 0 64000 1600 0

-- the place of a voice, whose grant starts there in the first frame of each two
abbrev pub voice_place : ℕ → Bool → PlaceState
voice_place start rests = record { phase = 0; offset = 4; starts = start ∷ []; rests = rests }

-- such a voice
abbrev pub voice_at : ℕ → ℕ → Bool → FlowState
voice_at sid start rests = record {
  sid = sid;
  spec = voice;
  asked = 0;
  granted = 0;
  last = None;
  sustained = None;
  peak = None;
  reserved = None;
  batches = None;
  place = Some (voice_place start rests);
}

-- its place
abbrev pub polled_place : PlaceState
polled_place = record { phase = 0; offset = 34; starts = 34 ∷ 34 ∷ []; rests = false }

-- a polled flow that was granted all that it asked
abbrev pub polled : FlowState
polled = record {
  sid = 9;
  spec = polling;
  asked = 600;
  granted = 600;
  last = Some 924;
  sustained = Some 1361920000;
  peak = None;
  reserved = None;
  batches = None;
  place = Some polled_place;
}

-- a best effort flow with bytes outstanding in two batches
abbrev pub in_two_batches : FlowState
in_two_batches = record {
  sid = 17;
  spec = BestEffort 3 64000 600 0 0 0;
  asked = 2000;
  granted = 544;
  last = Some 844;
  sustained = Some 71680000;
  peak = None;
  reserved = None;
  batches = Some (record { end = 1000; first = 801; second = Some 890 });
  place = None;
}

-- one that has no grant yet, with a peak rate and a reservation, in one batch
abbrev pub in_one_batch : FlowState
in_one_batch = record {
  sid = 20;
  spec = BestEffort 0 0 0 1000000 512000 64;
  asked = 300;
  granted = 0;
  last = None;
  sustained = None;
  peak = Some 1948160000;
  reserved = Some 81920000;
  batches = Some (record { end = 300; first = 900; second = None });
  place = None;
}

-- the header of the next MAP
abbrev pub header : Header
header = record { ucd_count = 2; ranging_start = 0; ranging_end = 4; data_start = 3; data_end = 15 }

-- a Reserve that waits
abbrev pub older : ReserveState
older = record { opportunity = record { usage = Station 9; slots = 4 }; maps = 3 }

-- one behind it
abbrev pub newer : ReserveState
newer = record { opportunity = record { usage = Request 15873; slots = 36 }; maps = 0 }

-- a state with these flows
abbrev pub with_flows : List FlowState → ChannelState
with_flows flows = record {
  entries = 12;
  next = 960;
  progress = 900 ∷ [];
  ack = 880;
  header = header;
  ucd_count = 2;
  change = Some 920;
  flows = flows;
  reserves = older ∷ newer ∷ [];
}

-- the state
abbrev pub state : ChannelState
state = with_flows (voice_at 5 4 true ∷ voice_at 6 19 false ∷ polled ∷ in_two_batches ∷ in_one_batch ∷ [])
