-- MAPs of the channel of the worked examples.
use Rattle.std.proofs.Common.{ℕ, List, [], ◌∷◌}
use Rattle.map_codec.specs.declared.element.Element.{Element}
use Rattle.sched_calls.specs.declared.frame_map.FrameMap.{FrameMap}

-- an element
abbrev pub element : ℕ → ℕ → ℕ → Element
element sid iuc offset = record { sid = sid; iuc = iuc; offset = offset }

-- a MAP of the base configuration, for times below 2^32
abbrev pub base_map : ℕ → ℕ → List Element → List ℕ → FrameMap
base_map start ack elements bytes = record {
  start = start;
  ack = ack;
  wire = record {
    channel = 3;
    ucd_count = 1;
    reserved = 0;
    alloc_start = start;
    ack = ack;
    ranging_start = 0;
    ranging_end = 0;
    data_start = 0;
    data_end = 0;
    elements = elements;
  };
  bytes = bytes;
}

-- the MAP of the first frame, where no flow is live
abbrev pub first_map : FrameMap
first_map = base_map 800 800 (element 0x3fff 1 0 ∷ element 0 6 4 ∷ element 0 7 40 ∷ []) (0 ∷ 0 ∷ 0 ∷ [])
