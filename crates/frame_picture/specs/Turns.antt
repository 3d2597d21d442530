-- What an entry changes of the flows that are unsolicited.
use Rattle.std.specs.Prelude.{ℕ, Bool, false, Option, None, Some}
use Rattle.sched_calls.specs.declared.call.Call.{Call}
use Rattle.sched_calls.specs.declared.call.Call.TheVariants as calls
use Rattle.sched_calls.specs.declared.reply.Reply.{Reply}
use Rattle.sched_calls.specs.declared.reply.Reply.TheVariants as replies
use Rattle.frame_picture.specs.Frames.{is_unsolicited}

-- the SID whose flow begins or ends with an accepted call, and whether an unsolicited one lives under it then
abbrev pub turn_of : Call → Reply → Option (ℕ × Bool)
turn_of (calls.Admit sid spec) (replies.Admitted placement) = Some (sid, is_unsolicited spec)
turn_of (calls.Remove sid) replies.Removed = Some (sid, false)
turn_of call reply = None
