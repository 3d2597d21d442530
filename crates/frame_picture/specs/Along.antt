-- What the entries before a frame tell of it: its number, where it starts if no frame is left out, and the flows.
use Rattle.std.specs.Prelude.{◌≡◌, ℕ, ◌+◌, ◌-◌, ◌/◌, List, length, Option}
use Rattle.std.specs.Option.{option_map, option_map_or}
use Rattle.sched_calls.specs.declared.reply.Entry.{Entry}
use Rattle.sched_calls.specs.declared.reply.Reply.{Reply}
use Rattle.sched_history.specs.History.{map_by}
use Rattle.sched_history.specs.Latest.{latest}
use Rattle.frame_picture.specs.declared.along.Along.{Along}
use Rattle.frame_picture.specs.declared.layout.Scale.{Scale}
use Rattle.frame_picture.specs.Frames.{frames_of, TellsUnsolicited}

-- where the frame of the MAP ends that a reply built, if it did: a frame has so many minislots
abbrev pub end_by : ℕ → Reply → Option ℕ
end_by frame reply = option_map (λ m. m.start + frame) (map_by reply)

-- where the next frame starts behind these entries if none is left out: where the latest MAP's ends, or else at the
-- channel's first start
abbrev pub next_start : Scale → List Entry → ℕ
next_start scale h =
    option_map_or (λ found. found.said) (latest (λ e. end_by scale.frame e.reply) h) scale.start

-- how many frames are left out where the next one could start there, and starts there
abbrev pub left_out : Scale → ℕ → ℕ → ℕ
left_out scale next start = (start - next) / scale.frame

-- It is known what these entries tell
pub record IsAlong (scale : Scale) (along : Along) (h : List Entry) : Type 0 where
  pub flows : TellsUnsolicited along.flows h
  pub number : along.number ≡ length (frames_of h)
  pub next : along.next ≡ next_start scale h
