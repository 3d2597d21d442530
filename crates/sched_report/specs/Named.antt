-- Which SID an entry without a MAP names, and what it does to the flows of the others: nothing.
use Rattle.std.specs.Prelude.{◌≡◌, ℕ, false, List, [], Option, None, Some}
use Rattle.minislots.specs.declared.config.Config.{Config}
use Rattle.map_build.specs.declared.met.Met.{Met}
use Rattle.sched_calls.specs.declared.spec.FlowSpec.{FlowSpec}
use Rattle.sched_calls.specs.declared.frame_map.FrameMap.{FrameMap}
use Rattle.sched_calls.specs.declared.call.Call.{Call}
use Rattle.sched_calls.specs.declared.call.Call.TheVariants as calls
use Rattle.sched_calls.specs.declared.reply.Reply.{Reply}
use Rattle.sched_calls.specs.declared.reply.Reply.TheVariants as replies
use Rattle.sched_history.specs.Life.{turn_by, grants_by, change_by}
use Rattle.sched_report.specs.Requests.{request_by, supersedes_by}
use Rattle.sched_report.specs.Said.{unsolicited_by}

-- the SID of an accepted admission, removal, request or change
abbrev pub named_by : Call → Reply → Option ℕ
named_by (calls.Admit sid spec) (replies.Admitted placement) = Some sid
named_by (calls.Remove sid) replies.Removed = Some sid
named_by (calls.Ask receiver sid amount heard) replies.Taken = Some sid
named_by (calls.Replace receiver sid amount heard) replies.Taken = Some sid
named_by (calls.Change sid spec) (replies.Changed placement) = Some sid
named_by call reply = None

-- The entry does nothing to a flow of this SID: it begins and ends no life, asks for nothing, supersedes no request,
-- gives no parameters and grants nothing
pub record IsUnnamed (c : Config) (sid : ℕ) (call : Call) (reply : Reply) : Type 0 where
  pub stays : turn_by sid call reply ≡ None
  pub silent : request_by c sid call reply ≡ None
  pub supersedes_none : supersedes_by sid call reply ≡ false
  pub unchanged : change_by sid call reply ≡ None
  pub ungranted : grants_by sid reply ≡ []
  pub unsolicited : (met : List Met) (spec : FlowSpec) → unsolicited_by met spec sid reply ≡ 0

-- the reply has no MAP
abbrev pub HasNoMap : Reply → Type 0
HasNoMap reply = (m : FrameMap) → reply ≡ replies.Built m → ⊥
