-- Worked examples of idles that are open to requests, and of MAPs in which nobody sends.
use Rattle.std.proofs.Common.{◌≡◌, false, [], ◌∷◌, length, map, refl, ap, lit<, arith}
use Rattle.minislots.specs.declared.config.Config.{Config}
use Rattle.map_codec.specs.Element.{word_of}
use Rattle.map_codec.specs.WireMap.{header, spelling}
use Rattle.sched_calls.specs.declared.frame_map.FrameMap.{FrameMap}
use Rattle.sched_calls.specs.declared.opportunity.Header.{Header}
use Rattle.sched_calls.specs.Header.{header_of}
use Rattle.sched_calls.proofs.Base.{base}
use Rattle.sched_calls.proofs.BaseMaps.{element, base_map, first_map}
use Rattle.map_build.specs.declared.purpose.Purpose.TheVariants.{Idle}
use Rattle.map_build.specs.Purpose.{is_open, element_of}
use Rattle.map_build.specs.Plan.{demand_at, settling}
use Rattle.map_build.specs.FrameMap.{map_of, IsLawfulMap}
use Rattle.map_build.proofs.FlowsAfter.{allocation}
use Rattle.map_build.proofs.IdleFrame.{IsLawfulMap-idle}
use Rattle.map_build.proofs.QuietFrame.{quiet-plan, quiet-map}
use Rattle.map_build.proofs.RowsMaps.{small}

-- the channel of the worked examples, whose idles are open
abbrev pub open_base : Config
open_base = record base { open_idle = 1 }

-- the MAP of its first frame, where no flow is live
abbrev pub open_map : FrameMap
open_map = base_map 800 800 (element 0x3fff 1 0 ∷ element 0x3fff 1 4 ∷ element 0 7 40 ∷ []) (0 ∷ 0 ∷ 0 ∷ [])

-- it is lawful
pub an_idle_of_36_minislots_is_open : IsLawfulMap open_base (demand_at [] [] [] 800) (header_of open_base) 800 open_map
an_idle_of_36_minislots_is_open = IsLawfulMap-idle open_base (header_of open_base) 800 800 (lit< tt)

-- its elements are the request region, an idle that is open, and the Null
pub the_words_of_an_open_idle : map word_of open_map.wire.elements ≡ 0xfffc4000 ∷ 0xfffc4004 ∷ 0x0001c028 ∷ []
the_words_of_an_open_idle = refl

-- an idle as long as a poll is open
pub an_idle_of_two_minislots_is_open : element_of open_base (allocation 38 2 Idle) ≡ element 0x3fff 1 38
an_idle_of_two_minislots_is_open = refl

-- a shorter one is not
pub an_idle_of_one_minislot_is_closed : element_of open_base (allocation 39 1 Idle) ≡ element 0 6 39
an_idle_of_one_minislot_is_closed = refl

-- nor is any where idles are not
pub an_idle_of_the_base_is_closed : is_open base 36 ≡ false
an_idle_of_the_base_is_closed = refl

-- the header of a new UCD
abbrev pub new_header : Header
new_header = record (header_of base) { ucd_count = 2 }

-- the MAP of the first frame in which a new UCD settles
abbrev pub settling_map : FrameMap
settling_map = map_of open_base (settling (demand_at [] [] [] 800)) new_header 800 []

-- it is lawful, and its idle is not open where others are
pub a_frame_in_which_nobody_sends : IsLawfulMap open_base (settling (demand_at [] [] [] 800)) new_header 800 settling_map
a_frame_in_which_nobody_sends = ([], quiet-plan open_base (settling (demand_at [] [] [] 800)) refl, refl)

-- its payload is these 24 bytes: an idle at offset 0, and the Null
pub the_bytes_of_a_frame_in_which_nobody_sends : spelling settling_map.wire
    ≡ 3 ∷ 2 ∷ 2 ∷ 0 ∷ 0 ∷ 0 ∷ 3 ∷ 0x20 ∷ 0 ∷ 0 ∷ 3 ∷ 0x20 ∷ 0 ∷ 0 ∷ 0 ∷ 0
    ∷ 0 ∷ 1 ∷ 0x80 ∷ 0 ∷ 0 ∷ 1 ∷ 0xc0 ∷ 0x28 ∷ []
unfolding spelling header
the_bytes_of_a_frame_in_which_nobody_sends = refl

-- the MAP of such a frame where a flow waits that asked 100 bytes
abbrev pub waiting_map : FrameMap
waiting_map = base_map 840 800 (element 0 6 0 ∷ element 0 7 40 ∷ element 17 6 40 ∷ []) (0 ∷ 0 ∷ 0 ∷ [])

-- it is lawful: the flow has no data grant, but a pending grant
pub a_flow_waits_while_nobody_sends :
    IsLawfulMap base (settling (demand_at (small ∷ []) [] [] 840)) (header_of base) 800 waiting_map
a_flow_waits_while_nobody_sends = ([], quiet-plan base (settling (demand_at (small ∷ []) [] [] 840)) refl, refl)

-- a MAP with a request region is not lawful for a frame in which nobody sends
pub a_request_region_while_nobody_sends_is_not_lawful :
    IsLawfulMap base (settling (demand_at [] [] [] 800)) (header_of base) 800 first_map → ⊥
a_request_region_while_nobody_sends_is_not_lawful lawful =
    let e = quiet-map base (settling (demand_at [] [] [] 800)) (header_of base) 800 first_map refl lawful in
    omega (arith, ap (λ m. length m.wire.elements) e)
