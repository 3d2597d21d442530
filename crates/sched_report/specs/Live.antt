-- Where the lives that go on stand.
use Rattle.std.specs.Prelude.{◌≡◌, ℕ, ◌<◌, List, length, slice_index, slice_index_or, None, Some}
use Rattle.minislots.specs.declared.config.Config.{Config}
use Rattle.sched_calls.specs.declared.call.Call.{Call}
use Rattle.sched_calls.specs.declared.reply.Reply.{Reply}
use Rattle.sched_report.specs.declared.life.LifeTally.{LifeTally}
use Rattle.sched_report.specs.declared.lives.Opening.{Opening}
use Rattle.sched_report.specs.declared.service.Request.{Request}
use Rattle.sched_report.specs.Lives.{opening_by}
use Rattle.sched_report.specs.Requests.{request_by}
use Rattle.sched_report.specs.Told.{HasRoomFor}

-- There is a place for each SID, and that of each life of which no end is told is where it stands: so no two of them
-- have one SID
pub record AreLive (places : List ℕ) (ts : List LifeTally) : Type 0 where
  pub long : length places ≡ 65536
  pub each : (k : ℕ) (t : LifeTally) → k < length ts → (slice_index_or ts k t).to ≡ None
      → slice_index places (slice_index_or ts k t).sid ≡ k

-- there is room for the request that an entry is, in each life that goes on and asks it
abbrev pub HaveRoomFor : Config → Call → Reply → List LifeTally → Type 0
HaveRoomFor c call reply ts = (k : ℕ) (t : LifeTally) (r : Request) → k < length ts
    → (slice_index_or ts k t).to ≡ None → request_by c (slice_index_or ts k t).sid call reply ≡ Some r
    → HasRoomFor (slice_index_or ts k t)

-- no life goes on under the SID of the flow that an entry admits
abbrev pub IsAlone : Call → Reply → List LifeTally → Type 0
IsAlone call reply ts = (o : Opening) → opening_by call reply ≡ Some o → (k : ℕ) (t : LifeTally) → k < length ts
    → (slice_index_or ts k t).to ≡ None → (slice_index_or ts k t).sid ≡ o.sid → ⊥
