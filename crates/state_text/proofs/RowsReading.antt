-- Worked texts that are read, and that are not: another order of keys with spaces; a key that stands twice, another
-- one, one that is missing.
use Rattle.std.proofs.Common.{◌≡◌, [], ◌∷◌, ◌++◌, codes, None, Some, refl, ap, arith}
use Rattle.std.specs.Prelude.{option_and_then}
use Rattle.serde_json.specs.Find.{get}
use Rattle.serde_json.specs.Read.{read}
use Rattle.serde_json.proofs.OnLiterals.{serde_json_on_literals}
use Rattle.sched_calls.specs.declared.state.ChannelState.{ChannelState}
use Rattle.history_writing.specs.Json.{count, counts}
use Rattle.state_text.specs.StateText.{flow_states_data, reserve_states_data, header_data, state_data, IsStateText}

-- nothing has happened yet
abbrev opening : ChannelState
opening = record {
  entries = 0;
  next = 800;
  progress = 800 ∷ [];
  ack = 800;
  header = record { ucd_count = 1; ranging_start = 0; ranging_end = 4; data_start = 2; data_end = 8 };
  ucd_count = 1;
  change = None;
  flows = [];
  reserves = [];
}

-- keys in another order, with spaces and a line between
pub another_order_is_read : read (codes "{ \"ucd_count\":1, \"reserves\":[], \"progress\":[ 800 ],\n \"next\":800," ++ (
    codes "\"header\":{\"ucd_count\":1,\"ranging_start\":0,\"ranging_end\":4,\"data_start\":2,\"data_end\":8}," ++
    codes "\"flows\":[], \"entries\":0, \"change\":null, \"\\u0061ck\":800 }")) ≡ Some (state_data opening)
unfolding state_data header_data flow_states_data reserve_states_data counts serde_json_on_literals
another_order_is_read = refl

-- a key that stands twice
pub a_key_that_stands_twice : (s : ChannelState) → ¬ IsStateText (codes "{\"ack\":800,\"ack\":800}") s
unfolding serde_json_on_literals
a_key_that_stands_twice s is = is.once.0 0 1 [] (omega arith) (omega arith) refl

-- no other key stands in a state
pub another_key : (s : ChannelState) → ¬ IsStateText (codes "{\"more\":1}") s
unfolding state_data serde_json_on_literals
another_key s is =
    let there : Some (count 1) ≡ None = ap (option_and_then (get (codes "more"))) is.value_is in
    absurd cc

-- each key of it stands there
pub a_missing_key : (s : ChannelState) → ¬ IsStateText (codes "{}") s
unfolding state_data serde_json_on_literals
a_missing_key s is =
    let there : None ≡ Some (count s.ack) = ap (option_and_then (get (codes "ack"))) is.value_is in
    absurd cc
