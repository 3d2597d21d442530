-- What callers see of a planned build, and when a scheduler may commit it.
use Rattle.std.specs.Prelude.{◌≡◌, ℕ, Bool, false, List, [], ◌∷◌, ◌++◌, None}
use Rattle.minislots.specs.declared.config.Config.{Config}
use Rattle.minislots.specs.declared.stamp.Stamp.{Stamp}
use Rattle.map_codec.specs.WireMap.{IsWellFormed}
use Rattle.flow_book.specs.Flows.{LiveFlow}
use Rattle.sched_calls.specs.declared.frame_map.FrameMap.{FrameMap}
use Rattle.sched_calls.specs.declared.call.Call.TheVariants.{Build}
use Rattle.sched_calls.specs.declared.reply.Reply.TheVariants.{Built}
use Rattle.sched_history.specs.Life.{flows_of}
use Rattle.sched_history.specs.Reserves.{reserves_of, left_behind}
use Rattle.sched_history.specs.Settling.{settles_after}
use Rattle.sched_history.specs.Refusal.{refusal_of}
use Rattle.sched_history.specs.History.{IsNextMap}
use Rattle.sched_history.specs.Machine.{Machine, is_full}

-- a build's clock and its MAP, the live flows of the channel before and after it, and marks at the Reserves that it
-- meets
pub record PlannedBuild : Type 0 where
  pub config : Config
  pub clock : ℕ
  pub map : FrameMap
  pub before : List LiveFlow
  pub flows : List LiveFlow
  pub met : List Bool

-- The build may follow the history, where it is not full: no test refuses it, its MAP is the lawful one of the next
-- frame and is well formed, and the flows and Reserves are those after it
pub record IsPlanAfter (m : Machine) (p : PlannedBuild) : Type 0 where
  pub room : is_full m ≡ false
  pub unrefused : refusal_of m.config m.history (Build p.clock) ≡ None
  pub lawful : IsNextMap m.config m.history p.map
  pub encodable : IsWellFormed p.map.wire
  pub config : p.config ≡ m.config
  pub before : p.before ≡ flows_of m.config m.history
  pub flows : (stamp : Stamp) → p.flows
      ≡ flows_of m.config (m.history ++ record { stamp = stamp; call = Build p.clock; reply = Built p.map } ∷ [])
  pub reserves : (stamp : Stamp) → left_behind (settles_after m.config m.history) p.met (reserves_of m.config m.history)
      ≡ reserves_of m.config (m.history ++ record { stamp = stamp; call = Build p.clock; reply = Built p.map } ∷ [])
