-- How a build shows its MAP before it is recorded.
use Rattle.std.specs.Prelude.{◌≡◌, ℕ, List, [], ◌∷◌, ◌++◌, length, None}
use Rattle.minislots.specs.declared.config.Config.{Config}
use Rattle.map_snapshot.specs.declared.printed.Printed.{Printed}
use Rattle.map_snapshot.specs.Maps.{Printing, map_in}
use Rattle.sched_calls.specs.declared.call.Call.{Call}
use Rattle.sched_calls.specs.declared.reply.Entry.{Entry}
use Rattle.sched_calls.specs.declared.reply.Reply.{Reply}
use Rattle.sched_history.specs.History.{IsStep, map_by}
use Rattle.sched_history.specs.Machine.{Machine}
use Rattle.sched_desk.specs.Desk.{Recording, published}

-- this scheduler with this press
abbrev pub with_press : Machine → Printing → Recording
with_press m p = record { machine = m; press = p.press }

-- the second press is the first with a MAP of these bytes, which waits to be published
pub record Appends (p : Printing) (bytes : List ℕ) (q : Printing) : Type 0 where
  pub printed : Printed
  pub bytes_are : map_in printed ≡ bytes
  pub appended : q ≡ record p { waiting = printed ∷ [] }

-- the press shows what is published of the scheduler's history, of which this is the length, and then these bytes
pub record ShowsPlan (m : Machine) (p : Printing) (maps : ℕ) (bytes : List ℕ) : Type 0 where
  pub shown : p.list ≡ published m.history ++ bytes ∷ []
  pub settled : p.waiting ≡ []
  pub count : maps ≡ length (published m.history)

-- no reply to this call is a MAP
abbrev pub BuildsNoMap : Config → List Entry → Call → Type 0
BuildsNoMap c h call = (reply : Reply) → IsStep c h call reply → map_by reply ≡ None
