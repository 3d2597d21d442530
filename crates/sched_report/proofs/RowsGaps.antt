-- Worked rows: how many minislots in a row a frame has free.
use Rattle.std.proofs.Common.{◌≡◌, ℕ, false, true, List, [], ◌∷◌, refl}
use Rattle.map_codec.specs.declared.element.Element.{Element}
use Rattle.map_drawing.specs.Allocation.{allocations_of}
use Rattle.sched_calls.proofs.BaseMaps.{element}
use Rattle.map_build.specs.declared.met.Met.{Met}
use Rattle.map_build.specs.Reading.{met_from}
use Rattle.frame_picture.specs.OpenIdle.{is_open_idle}
use Rattle.sched_report.specs.Uses.{use_of}
use Rattle.sched_report.specs.Gaps.{is_free_in, longest_run}

-- the most free minislots in a row of a frame of these elements, which meets these opportunities, and in which no
-- flow is unsolicited
abbrev gap_of : List Met → List Element → ℕ
gap_of met es = longest_run (is_free_in met (λ sid. false)) (allocations_of es)

-- a data grant of 5 minislots and the idle behind it are one gap
data_and_an_idle : gap_of [] (element 0x3fff 1 0 ∷ element 17 5 4 ∷ element 0 6 9 ∷ element 0 7 40 ∷ []) ≡ 36
unfolding use_of is_open_idle
data_and_an_idle = refl

-- and so is an idle that is open to requests
data_and_an_open_idle : gap_of [] (element 0x3fff 1 0 ∷ element 17 5 4 ∷ element 0x3fff 1 9 ∷ element 0 7 40 ∷ []) ≡ 36
unfolding use_of is_open_idle
data_and_an_open_idle = refl

-- a poll of 2 minislots makes two gaps, of 6 and 28
two_gaps : gap_of [] (element 0x3fff 1 0 ∷ element 0 6 4 ∷ element 9 1 10 ∷ element 0 6 12 ∷ element 0 7 40 ∷ []) ≡ 28
unfolding use_of is_open_idle
two_gaps = refl

-- the first may be the larger one
the_first_gap : gap_of [] (element 0x3fff 1 0 ∷ element 0 6 4 ∷ element 9 1 30 ∷ element 0 6 32 ∷ element 0 7 40 ∷ []) ≡ 26
unfolding use_of is_open_idle
the_first_gap = refl

-- a window in which nobody sends is none of it
a_quiet_window : gap_of (met_from 4 0 ∷ []) (element 0x3fff 1 0 ∷ element 0 6 4 ∷ element 0 6 10 ∷ element 0 7 40 ∷ []) ≡ 30
unfolding use_of is_open_idle
a_quiet_window = refl

-- where a grant of an unsolicited flow has all that the request region leaves there is none
no_gap : longest_run (is_free_in [] (λ sid. true))
    (allocations_of (element 0x3fff 1 0 ∷ element 17 6 4 ∷ element 0 7 40 ∷ [])) ≡ 0
unfolding use_of is_open_idle
no_gap = refl
