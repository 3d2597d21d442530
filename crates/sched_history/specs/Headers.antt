-- The header of the next MAP.
use Rattle.std.specs.Prelude.{List, Option, None, Some}
use Rattle.std.specs.Option.{option_map_or}
use Rattle.minislots.specs.declared.config.Config.{Config}
use Rattle.sched_calls.specs.declared.opportunity.Header.{Header}
use Rattle.sched_calls.specs.Header.{header_of}
use Rattle.sched_calls.specs.declared.call.Call.{Call}
use Rattle.sched_calls.specs.declared.call.Call.TheVariants as calls
use Rattle.sched_calls.specs.declared.reply.Reply.{Reply}
use Rattle.sched_calls.specs.declared.reply.Reply.TheVariants as replies
use Rattle.sched_calls.specs.declared.reply.Entry.{Entry}
use Rattle.sched_history.specs.Latest.{latest}

-- the header that an accepted call sets
abbrev pub header_by : Call → Reply → Option Header
header_by (calls.Header header) replies.Noted = Some header
header_by call reply = None

-- the header of the next MAP: the latest that was set, or the configuration's
abbrev pub header_after : Config → List Entry → Header
header_after c h = option_map_or (λ found. found.said) (latest (λ e. header_by e.call e.reply) h) (header_of c)
