-- What a run puts on the channel: lines with whole frames, and a capture of the MAPs.
use Rattle.std.specs.Prelude.{ℕ, ◌*◌, ◌/◌, ◌%◌, ◌^◌, List, [], ◌∷◌, ◌++◌, length, Option, Some, None}
use Rattle.std.specs.List.{flat_map}
use Rattle.std.specs.Int.{w16, w32, to_le_bytes}
use Rattle.minislots.specs.declared.config.Config.{Config}
use Rattle.sched_calls.specs.declared.frame_map.FrameMap.{FrameMap}
use Rattle.sched_calls.specs.Reply.{Answer}
use Rattle.sched_lines.specs.Framed.{map_in, frame_of, framed_line}
use Rattle.pcap_command.specs.declared.output.WireOutput.{WireOutput}
use Rattle.pcap_command.specs.declared.output.WireOutput.TheVariants.{Lines, Capture}

-- a list of what is there
abbrev pub listed : Option FrameMap → List FrameMap
listed None = []
listed (Some m) = m ∷ []

-- the MAPs of answers, in their order
unfoldable pub maps_of : List Answer → List FrameMap
maps_of answers = flat_map (λ answer. listed (map_in answer)) answers

-- the nanoseconds from minislot 0 to the start of another: a tick is 6250 of them
abbrev pub nanoseconds_to : Config → ℕ → ℕ
nanoseconds_to c slot = slot * c.ticks * 6250

-- the whole seconds in them, of which a packet has the low 32 bits
abbrev pub seconds_of : Config → ℕ → ℕ
seconds_of c slot = nanoseconds_to c slot / 10 ^ 9 % 2 ^ 32

-- the nanoseconds behind the whole seconds
abbrev pub nanoseconds_of : Config → ℕ → ℕ
nanoseconds_of c slot = nanoseconds_to c slot % 10 ^ 9

-- the head of a capture in the classic form of pcap with nanoseconds, little endian: version 2.4, zone and figures 0,
-- the most bytes of a packet, and what link it is of, 143 being DOCSIS
unfoldable pub capture_head : List ℕ
capture_head =
    to_le_bytes w32 0xA1B23C4D ++ to_le_bytes w16 2 ++ to_le_bytes w16 4 ++ to_le_bytes w32 0 ++ to_le_bytes w32 0
    ++ to_le_bytes w32 262144 ++ to_le_bytes w32 143

-- the head of a packet: when it is, how many of its bytes are here, and how many it had
unfoldable pub packet_head : Config → ℕ → ℕ → List ℕ
packet_head c slot long =
    to_le_bytes w32 (seconds_of c slot) ++ to_le_bytes w32 (nanoseconds_of c slot) ++ to_le_bytes w32 long
    ++ to_le_bytes w32 long

-- the packet of a MAP: its frame, at the time at which the frame that it describes starts
unfoldable pub packet_of : Config → List ℕ → FrameMap → List ℕ
packet_of c address m = packet_head c m.start (length (frame_of address m)) ++ frame_of address m

-- the capture of MAPs
abbrev pub capture_of : Config → List ℕ → List FrameMap → List ℕ
capture_of c address maps = capture_head ++ flat_map (packet_of c address) maps

-- what is written of the answers of a run: the line of each, or the capture of their MAPs
abbrev pub wire_text : WireOutput → Config → List ℕ → List Answer → List ℕ
wire_text Lines c address answers = flat_map (λ answer. framed_line address answer) answers
wire_text Capture c address answers = capture_of c address (maps_of answers)
