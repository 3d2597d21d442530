-- What stands before the answers of a run on the channel, and what each of them adds. No public clause is in these
-- words.
use Rattle.std.specs.Prelude.{ℕ, List, [], Option, Some, None}
use Rattle.minislots.specs.declared.config.Config.{Config}
use Rattle.sched_calls.specs.declared.frame_map.FrameMap.{FrameMap}
use Rattle.sched_calls.specs.Reply.{Answer}
use Rattle.sched_lines.specs.Framed.{map_in, framed_line}
use Rattle.pcap_command.specs.declared.output.WireOutput.{WireOutput}
use Rattle.pcap_command.specs.declared.output.WireOutput.TheVariants.{Lines, Capture}
use Rattle.pcap_command.specs.Capture.{capture_head, packet_of}

-- what stands in front
abbrev pub head_of : WireOutput → List ℕ
head_of Lines = []
head_of Capture = capture_head

-- the packet of a MAP, where there is one
abbrev pub packet_or : Config → List ℕ → Option FrameMap → List ℕ
packet_or c address None = []
packet_or c address (Some m) = packet_of c address m

-- what an answer adds
abbrev pub item_of : WireOutput → Config → List ℕ → Answer → List ℕ
item_of Lines c address answer = framed_line address answer
item_of Capture c address answer = packet_or c address (map_in answer)
