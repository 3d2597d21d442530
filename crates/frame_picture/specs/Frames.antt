-- The frames of a history, which of them are drawn, and which flows are unsolicited there.
use Rattle.std.specs.Prelude.{◌≡◌, ℕ, ◌-◌, ◌<◌, ◌&&◌, nat_le, nat_lt, Bool, true, false, List, [], ◌∷◌, ◌++◌}
use Rattle.std.specs.Prelude.{take, drop, get_or, if◌then◌else◌, Option, None, Some}
use Rattle.sched_calls.specs.declared.spec.FlowSpec.{FlowSpec}
use Rattle.sched_calls.specs.declared.spec.FlowSpec.TheVariants.{Unsolicited, Polled, BestEffort}
use Rattle.sched_calls.specs.declared.frame_map.FrameMap.{FrameMap}
use Rattle.sched_calls.specs.declared.reply.Entry.{Entry}
use Rattle.sched_history.specs.History.{map_by}
use Rattle.sched_history.specs.Life.{Life, life_of}
use Rattle.frame_picture.specs.declared.flows.TheConstants.{SIDS}
use Rattle.frame_picture.specs.declared.span.Span.{Span}
use Rattle.frame_picture.specs.declared.span.Place.{Place}

-- whether a flow with these parameters is unsolicited
abbrev pub is_unsolicited : FlowSpec → Bool
is_unsolicited (Unsolicited size interval jitter grants) = true
is_unsolicited (Polled interval jitter rate burst peak) = false
is_unsolicited (BestEffort priority rate burst peak reserved reserved-burst) = false

-- whether there is a life, of an unsolicited flow: no change makes a flow of another kind
abbrev pub is_unsolicited_life : Option Life → Bool
is_unsolicited_life None = false
is_unsolicited_life (Some life) = is_unsolicited life.admission.spec

-- whether the flow that lives under a SID after a history is unsolicited
abbrev pub is_unsolicited_after : List Entry → ℕ → Bool
is_unsolicited_after h sid = is_unsolicited_life (life_of sid h)

-- a list says of each SID whether the flow that lives under it after a history is unsolicited
abbrev pub TellsUnsolicited : List Bool → List Entry → Type 0
TellsUnsolicited flows h = (sid : ℕ) → sid < SIDS → get_or flows sid false ≡ is_unsolicited_after h sid

-- a frame: its MAP, and the entries before the one that built it
pub record Frame : Type 0 where
  pub before : List Entry
  pub built : FrameMap

-- the frame of a MAP, where there is one
abbrev pub frame_by : List Entry → Option FrameMap → List Frame
frame_by before None = []
frame_by before (Some m) = record { before = before; built = m } ∷ []

-- the frames that were built in entries which stand behind others
abbrev pub frames_after : List Entry → List Entry → List Frame
frames_after before [] = []
frames_after before (e ∷ es) = frame_by before (map_by e.reply) ++ frames_after (before ++ e ∷ []) es

-- the frames that were built in a history, in order
abbrev pub frames_of : List Entry → List Frame
frames_of h = frames_after [] h

-- those that are drawn: so many of them from one on, counted from 0
abbrev pub frames_in : Span → List Frame → List Frame
frames_in span frames = take span.count (drop span.from frames)

-- where the frame with a number is drawn, if it is
unfoldable pub place_in : Span → ℕ → Option Place
place_in span number =
    if nat_le span.from number && nat_lt (number - span.from) span.count
    then Some (record { number = number; row = number - span.from })
    else None
