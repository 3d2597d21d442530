-- The worked text of a state: one flow that waits, a telephone that rests, and a Reserve.
use Rattle.std.proofs.Common.{◌≡◌, ℕ, true, List, [], ◌∷◌, ◌++◌, codes, None, Some, refl}
use Rattle.std.specs.Fmt.{digits}
use Rattle.serde_json.specs.Written.{compact_text}
use Rattle.serde_json.proofs.OnLiterals.{serde_json_on_literals}
use Rattle.sched_calls.specs.declared.opportunity.Usage.TheVariants.{Station, Quiet}
use Rattle.sched_calls.specs.declared.spec.FlowSpec.TheVariants.{Unsolicited, BestEffort}
use Rattle.sched_calls.specs.declared.state.ChannelState.{ChannelState}
use Rattle.sched_calls.specs.declared.state.FlowState.{FlowState}
use Rattle.history_writing.specs.Json.{counts, flow_data}
use Rattle.state_text.specs.StateText.{batch_data, place_data, flow_state_data, flow_states_data, reserve_state_data}
use Rattle.state_text.specs.StateText.{reserve_states_data, header_data, state_data, state_text}

abbrev asking : FlowState
asking = record {
  sid = 17;
  spec = BestEffort 3 64000 1600 0 0 0;
  asked = 1100;
  granted = 544;
  last = Some 844;
  sustained = Some 1351680000;
  peak = None;
  reserved = None;
  batches = Some (record { end = 1000; first = 801; second = Some 845 });
  place = None;
}

abbrev voice : FlowState
voice = record {
  sid = 21;
  spec = Unsolicited 200 10000 800 1;
  asked = 0;
  granted = 0;
  last = None;
  sustained = None;
  peak = None;
  reserved = None;
  batches = None;
  place = Some (record { phase = 2; offset = 4; starts = 4 ∷ 4 ∷ []; rests = true });
}

abbrev state : ChannelState
state = record {
  entries = 8;
  next = 880;
  progress = 845 ∷ 800 ∷ [];
  ack = 800;
  header = record { ucd_count = 2; ranging_start = 3; ranging_end = 4; data_start = 5; data_end = 6 };
  ucd_count = 1;
  change = None;
  flows = asking ∷ voice ∷ [];
  reserves = record { opportunity = record { usage = Station 9; slots = 36 }; maps = 7 }
      ∷ record { opportunity = record { usage = Quiet; slots = 8 }; maps = 0 } ∷ [];
}

-- a flow stands in it as in a history
abbrev flow_text : FlowState → List ℕ
flow_text f = compact_text (flow_data f.spec)

-- its text, byte for byte
pub the_text_of_a_state : state_text state
    ≡ codes "{\"ack\":800,\"change\":null,\"entries\":8,\"flows\":[{\"asked\":1100,\"batches\":{\"end\":1000," ++ (
    codes "\"first\":801,\"second\":845},\"flow\":" ++ (flow_text asking ++ (
    codes ",\"granted\":544,\"last\":844,\"peak\":null,\"place\":null,\"reserved\":null," ++ (
    codes "\"sid\":17,\"sustained\":1351680000},{\"asked\":0,\"batches\":null,\"flow\":" ++ (flow_text voice ++ (
    codes ",\"granted\":0,\"last\":null,\"peak\":null,\"place\":{\"offset\":4,\"phase\":2,\"rests\":1," ++ (
    codes "\"starts\":[4,4]},\"reserved\":null,\"sid\":21,\"sustained\":null}],\"header\":{\"data_end\":6," ++ (
    codes "\"data_start\":5,\"ranging_end\":4,\"ranging_start\":3,\"ucd_count\":2},\"next\":880," ++ (
    codes "\"progress\":[845,800],\"reserves\":[{\"maps\":7,\"sid\":9,\"slots\":36,\"usage\":\"station\"}," ++
    codes "{\"maps\":0,\"sid\":null,\"slots\":8,\"usage\":\"quiet\"}],\"ucd_count\":1}")))))))))
unfolding state_text state_data header_data flow_states_data reserve_states_data flow_state_data reserve_state_data
    batch_data place_data flow_data counts digits serde_json_on_literals
the_text_of_a_state = refl
